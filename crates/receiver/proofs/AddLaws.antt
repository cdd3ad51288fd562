-- A push that only adds its samples: what the fillings and the end of the call would make of it. Assumes nothing.
use mathlib.Core.List.{List, [], ◌∷◌, append-nil}
use mathlib.Core.Path.{◌≡◌, ◌∙◌, ap, refl, sym}
use Prim.Native.Nat.{ℕ, ◌+◌, ◌-◌, ◌<◌}
use native.Mathlib.Omega.{arith}
use lib.IntN.{ℤ, +ℤ_idr}
use lib.ListN.{length, take-append-drop}
use lib.Seq.{paste}
use lib.Ieee.{Float}
use borrow.Author.Tests.{ne_eqb}
use Rattle.ledger.specs.Ledger.{capacity, push, seconds}
use Rattle.ledger.specs.Causes as causes
use Rattle.receiver_samples.specs.Buffer.{left_held, left_places, room}
use Rattle.receiver_starts.specs.Starts.{distances, moved}
use Rattle.receiver_starts.proofs.StartLaws.{starts_same}
use Rattle.receiver_waiting.specs.Waiting as waiting
use Rattle.receiver_waiting.specs.Waiting.{waiting_of}
use Rattle.receiver_waiting.specs.declared.Waiting.{Waiting}
use Rattle.receiver_waiting.specs.declared.Leaving.TheVariants.{CompleteAt}
use Rattle.receiver_waiting.proofs.WaitingLaws.{none_expires}
use Rattle.receiver_scan.specs.declared.Scanned.{Scanned}
use Rattle.receiver.specs.Calls.{Received}
use Rattle.receiver.specs.Running.{Passes, Answers, Addable, Adds, Added}
use Rattle.receiver.specs.declared.SigfoxReceiver.{SigfoxReceiver}
use Rattle.receiver.proofs.StateLaws.{order-parts}
use Rattle.receiver.proofs.FillLaws.{fill-turn, fill-still}
use Rattle.receiver.proofs.RunLaws.{Done, all_in, last_buffer, held-is, waiting_few, fill_start, fill_end, ends_push, ended}

-- ---- what is not full drops nothing

left_held_lem : (rate held : ℕ) → held < capacity rate → left_held rate held ≡ held
unfolding left_held
left_held_lem rate held h = rw (ne_eqb held (capacity rate) (λ e. omega arith)) refl

left_places_lem : (rate held : ℕ) (samples : List Float) → held < capacity rate → left_places rate held samples ≡ samples
unfolding left_places
left_places_lem rate held samples h = rw (ne_eqb held (capacity rate) (λ e. omega arith)) refl

-- a drop of nothing moves nothing

none_moved : (held : ℕ) (l : List ℤ) → moved (held - held) l ≡ l
none_moved held l = let e : held - held ≡ 0 = omega arith in rw e (same l)
  where
    same : (l : List ℤ) → moved 0 l ≡ l
    same [] = refl
    same (d ∷ l) = rw (+ℤ_idr d, same l) refl

-- messages that are written over themselves stay as they are

waiting_same : (w : Waiting) → w.count ≡ length (waiting_of w) → w ≡ waiting.over w (waiting_of w)
unfolding waiting.over
waiting_same w e = rw (← e, take-append-drop w.count w.messages) refl

module _ (s : SigfoxReceiver) (xs samples : List Float) (old : List ℕ) (scratch : List Float) (p : Passes s (push xs) samples old scratch) where
  pub addable : Addable s (length xs)
  addable =
      let e = held-is s samples old scratch (push xs) p in
      record {
        highest = p.highest;
        held = omega (arith, p.order.room);
        size = p.accepted.size;
        unscanned = p.order.unscanned;
        stream = omega (arith, p.accepted.stream);
        waiting = omega (arith, waiting_few s samples old scratch (push xs) p);
      }

  module _ (d : Adds s (length xs)) where
    abbrev given : Scanned
    given = record { starts = s.starts; waiting = s.waiting; count = 0 }

    abbrev after : List Float
    after = paste samples s.held xs (length xs)

    -- one filling, without a drop or a scan
    done : Done s (push xs) samples old (s.held + length xs) s.base (s.unscanned + length xs) given after old
    done =
        let a = all_in s samples old scratch xs in
        let b = last_buffer s samples old scratch xs in
        let h : s.held < capacity s.rate = omega (arith, d.some, d.fits) in
        let n : length xs ≡ room s.rate s.held xs = omega (arith, d.fits) in
        let z : s.base + (s.held - s.held) ≡ s.base = omega arith in
        let w : 0 + length xs ≡ length xs = omega arith in
        let m = fill-turn s.rate xs a b old samples old s.held s.base s.unscanned given 0 p.lowest p.accepted.samples
        (fill_start s samples old scratch xs p) (omega (arith, d.some)) s.held (length xs) samples after s.starts
        (sym (left_held_lem s.rate s.held h)) (sym (left_places_lem s.rate s.held samples h)) n refl
        (sym (none_moved s.held (distances s.starts)), (order-parts s.rate s.base s.held s.starts p.starts).0) in
        fill_end s samples old scratch xs after old (s.held + length xs) s.base (s.unscanned + length xs) given (length xs)
        (fill-still s.rate xs a b old after old (s.held + length xs) s.base (s.unscanned + length xs) given (length xs) (rw (z, w) at m) d.quiet) (omega arith)

    pub added : (mark : Float → ℕ) (r : Received) (now : List Float) → Added s xs samples r now → Answers s (push xs) mark samples old r now old
    added mark r now h =
        let time = seconds s.rate (s.base + (s.held + length xs)) in
        let none = none_expires time (waiting_of s.waiting) d.stay in
        record {
          ended =
              rw h.answer
              (ended s (all_in s samples old scratch xs) old (s.held + length xs) s.base (s.unscanned + length xs) given old done.under mark (push xs) (CompleteAt time) (ends_push xs time) 0 old
              (λ rs was z e b. rw (none.0, append-nil rs) (e, b)) s.starts s.waiting
              (starts_same s.starts p.remembers)
              (rw none.1 (waiting_same s.waiting (ap (λ (k : causes.Counts). k.waiting) p.counts))));
          samples = h.samples ∙ done.samples;
        }
