-- The ledger after calls with binary32 samples: what it holds and what it wrote has the widths of a record's fields.
use mathlib.Core.Path.{◌≡◌, refl}
use Prim.Native.Nat.{ℕ, zero, suc, ◌≤◌}
use native.Mathlib.Omega.{arith}
use lib.Dec.{leb}
use borrow.Author.Tests.{leb-true}
use Rattle.limits.specs.Limits.{lowest_rate, highest_rate}
use Rattle.demod.proofs.NumberFacts.{Singles}
use Rattle.ledger.specs.Frames.{rank_of}
use Rattle.ledger.specs.Demodulation.{demod_of}
use Rattle.ledger.specs.Ledger.{frames, by_frames, Ledger, Call, push, flush, ready, fresh, scans, now, closed}
use Rattle.ledger.specs.Causes.{counts_of, Lent, cause, after_call, call_events}
use Rattle.ledger.specs.Room.{InOrder, Accepted}
use Rattle.ledger.proofs.Basics.{and_true, Every, every_then}
use Rattle.ledger.proofs.Orders.{passed}
use Rattle.ledger.proofs.Throughout.{given, others-every, EveryOpen}
use Rattle.ledger.proofs.Ranks.{AllRanked}
use Rattle.ledger.proofs.Readable.{Readable, Fed, scans-readable, scans-singles}
use Rattle.ledger.proofs.Seeing.{Clear, events_clear}

pub record Sound (l : Ledger by_frames) : Type 0 where
  pub singles : Singles l.held
  pub readable : EveryOpen Readable l.waiting

pub fresh-sound : Sound fresh
unfolding fresh
fresh-sound = record { singles = tt; readable = tt }

pub sound-ranked : (l : Ledger by_frames) → Sound l → AllRanked l.waiting
sound-ranked l s =
    every_then (λ m. Every Readable (frames m)) (λ m. Every (λ f. rank_of f ≤ 2) (frames m))
    (λ m w. every_then Readable (λ f. rank_of f ≤ 2) (λ f h. h.rank) (frames m) w) l.waiting s.readable

module _ (rate : ℕ) (l : Ledger by_frames) (s : Sound l) where
  call-fed : (c : Call) → Singles (given c) → Accepted rate l c → InOrder rate l → Fed rate l.held l.base (given c)
  call-fed (push xs) w a o = record { singles = s.singles; coming = w; room = o.room; stream = a.stream }
  call-fed flush w a o = record { singles = s.singles; coming = tt; room = o.room; stream = omega (arith, o.stream) }

  -- after a call, refused or not
  pub call-sound : (b : Lent) (c : Call) (n : ℕ) → (n ≡ 0 → cause rate b (counts_of rate l) l c ≡ 0) → Singles (given c)
      → Sound (after_call rate (demod_of rate) l c n) × Every Clear (call_events rate (demod_of rate) l c n)
  unfolding after_call call_events closed
  call-sound b c zero e w =
      let p = passed rate b l c (e refl) in
      let r = and_true (leb lowest_rate rate) (leb rate highest_rate) p.rated in
      let lo = leb-true lowest_rate rate r.0 in
      let hi = leb-true rate highest_rate r.1 in
      let f = call-fed c w p.accepted p.order in
      let k = scans rate (demod_of rate) l c in
      let h = scans-readable rate lo hi l c f s.readable in (
        record {
          singles = scans-singles rate lo hi l c f;
          readable = others-every (λ m. Every Readable (frames m)) (ready by_frames c (now rate k)) k.waiting h.waiting;
        },
        events_clear rate c k h,
      )
  call-sound b c (suc n) e w = (s, tt)
