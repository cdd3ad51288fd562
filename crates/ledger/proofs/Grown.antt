-- A ledger that grew from a fresh one: at most 34 messages wait, and it is in order.
use Rattle.std.proofs.Common.{Option, None, Some, ℤ}
use mathlib.Core.Path.{◌≡◌, refl, sym, ap}
use mathlib.Core.Logic.{⊎_elim}
use mathlib.Core.List.{List, [], ◌∷◌, ◌++◌, map}
use mathlib.Core.Bool.{false, ◌&&◌}
use Prim.Native.Nat.{ℕ, zero, suc, ◌+◌, ◌-◌, ◌*◌, ◌≤◌, ◌<◌}
use native.Mathlib.Omega.{arith}
use lib.ListN.{length, length-map}
use lib.Dec.{leb}
use lib.Ieee.{Float, binary64, lt, sub, add, div}
use borrow.Author.Tests.{leb-true, leb-false}
use Rattle.floats.specs.Number.{num}
use Rattle.limits.specs.Limits.{bad_state, lowest_rate, highest_rate, longest_stream}
use Rattle.rates.proofs.Later.{later}
use Rattle.rates.proofs.Values.{holds}
use Rattle.clock.specs.Bits as bits
use Rattle.coding.specs.Bits.{odd}
use Rattle.frame.specs.Decode.{decode_uplink}
use Rattle.frame.specs.declared.UplinkFrame.{UplinkFrame}
use Rattle.demod.specs.Decode.{segment_of, time_at, with_burst, heard_in, decode_burst}
use Rattle.ledger.specs.Types.{DecodedFrame}
use Rattle.ledger.specs.Frames.{time_of, start_of}
use Rattle.ledger.specs.Merge.{quiet_s}
use Rattle.ledger.specs.Ledger.{Message, frames, ranked, complete, by_frames, seconds, near, Ledger, Call, push, flush, ready, others, fresh, scans, now, closed}
use Rattle.ledger.specs.Demodulation.{demod_of}
use Rattle.ledger.specs.Causes.{counts_of, orderly, Attempt, number, after_call, after}
use Rattle.ledger.specs.Room.{Accepted, InOrder}
use Rattle.ledger.specs.Grown.{most_grown, grown, Grown}
use Rattle.ledger.proofs.Firsts.{first_none, first_five}
use Rattle.ledger.proofs.Basics.{either, clash, and_true, or_false, Every}
use Rattle.ledger.proofs.Pigeon.{Window, third, fits}
use Rattle.ledger.proofs.Sizes.{scans-small}
use Rattle.ledger.proofs.Opens.{others_yes, others_no, others_all}
use Rattle.ledger.proofs.Orders.{order-holds, passed, five, rate-pos}
use Rattle.ledger.proofs.OpenKinds.{frames_lawful}
use Rattle.ledger.proofs.Orderly.{in_order}
use Rattle.ledger.proofs.Fairness.{demod_fair}
use Rattle.ledger.proofs.Lasts.{last_of, lasts, Timed, OnTime, Lasts, spaced_of, near-others, others_kept, scans-lasts}

-- ---- demand 2's frames have the time of their burst's start

heard-time : (t e r : Float) (ppm : ℤ) (depth : ℕ) (f : Option UplinkFrame) (x : DecodedFrame) → with_burst t e r ppm depth f ≡ Some x → x.time ≡ t
unfolding with_burst
heard-time t e r ppm depth None x q = absurd (let z : ◌≡◌ {A = ℕ} 0 1 = cc in omega arith)
heard-time t e r ppm depth (Some f) x q =
    let d : DecodedFrame = record { frame = f; time = t; end = e; rssi = r; clock_error_ppm = ppm; depth = depth } in
    let z : d ≡ x = cc in
    ap (λ (y : DecodedFrame). y.time) (sym z)

bits-time : (t e r : Float) (o : bits.Outcome) (x : DecodedFrame) → heard_in t e r o ≡ Some x → x.time ≡ t
unfolding heard_in
bits-time t e r None x q = absurd (let z : ◌≡◌ {A = ℕ} 0 1 = cc in omega arith)
bits-time t e r (Some b) x q = heard-time t e r _ _ _ x q

on_time : (rate : ℕ) → OnTime rate (demod_of rate)
unfolding decode_burst
on_time rate held t b x e =
    bits-time (time_at t rate b.start) (time_at t rate b.end) b.peak_dbm (bits.outcome (segment_of held rate b) rate) x e

-- ---- a message that a push leaves has its last frame within 10.1 s of the newest sample

module _ (rate : ℕ) (lo : lowest_rate ≤ rate) (hi : rate ≤ highest_rate) (n : ℕ) (small : n ≤ longest_stream) where
  young : (base at : ℕ) → base + at < n → lt quiet_s (sub binary64 (div binary64 (num n) (num rate)) (add binary64 (div binary64 (num base) (num rate)) (div binary64 (num at) (num rate)))) ≡ false
      → 10 * n < 10 * (base + at) + 101 * rate
  young base at h e =
      ⊎_elim
      (λ f. let far = leb-true (10 * (base + at) + 101 * rate) (10 * n) f in
      let q : base + (n - base) ≡ n = omega arith in
      let l = later 10 base (n - base) at rate (omega arith) (omega arith) lo hi (omega arith) in
      clash _ (holds _ (rw q at l)) e)
      (λ f. let g = leb-false (10 * (base + at) + 101 * rate) (10 * n) f in omega arith)
      (either (leb (10 * (base + at) + 101 * rate) (10 * n)))

  left_young : (m : Message) → start_of (last_of m) < n → Timed rate (last_of m) → complete (seconds rate n) m ≡ false → 10 * n < 10 * start_of (last_of m) + 101 * rate
  unfolding complete seconds
  left_young m h t e =
      let o = or_false (ranked 0 (frames m) && (ranked 1 (frames m) && ranked 2 (frames m))) (lt quiet_s (sub binary64 (div binary64 (num n) (num rate)) (time_of (last_of m)))) e in
      let s : start_of (last_of m) ≡ t.0 + t.1 = t.2 in
      let v : lt quiet_s (sub binary64 (div binary64 (num n) (num rate)) (add binary64 (div binary64 (num t.0) (num rate)) (div binary64 (num t.1) (num rate)))) ≡ false = rw t.3 at o.1 in
      let y = young t.0 t.1 (omega arith) v in
      omega arith

  unready : (xs : List Float) (m : Message) → ready by_frames (push xs) (seconds rate n) m ≡ false → complete (seconds rate n) m ≡ false
  unfolding ready
  unready xs m e = e

  left_window : (xs : List Float) (l : List Message) → Every (λ m. (start_of (last_of m) < n) × Timed rate (last_of m)) l
      → Window (n - third rate * most_grown) n (lasts (others (ready by_frames (push xs) (seconds rate n)) l))
  unfolding others
  left_window xs [] w = tt
  left_window xs (m ∷ l) w =
      let p = ready by_frames (push xs) (seconds rate n) in
      let i = left_window xs l w.1 in
      ⊎_elim
      (λ e. rw (others_yes p m l e) i)
      (λ e. let y = left_young m w.0.0 w.0.1 (unready xs m e) in rw (others_no p m l e) (omega arith, w.0.0, i))
      (either (p m))

-- ---- a call

closed-lasts : (rate : ℕ) (c : Call) (l : Ledger by_frames) → Lasts rate l → Lasts rate (closed rate c l)
unfolding closed
closed-lasts rate c l w =
    let p = ready by_frames c (now rate l) in
    record { kept = others_kept rate (l.base + length l.held) p l.waiting w.kept; far = λ x h g. near-others rate p l.waiting x (w.far x h g) }

push-few : (rate : ℕ) → lowest_rate ≤ rate → rate ≤ highest_rate → (xs : List Float) (l : Ledger by_frames) → l.base + length l.held ≤ longest_stream → Lasts rate l
    → length (closed rate (push xs) l).waiting ≤ most_grown
unfolding closed now
push-few rate lo hi xs l small w =
    let n = l.base + length l.held in
    let p = ready by_frames (push xs) (seconds rate n) in
    let k = others_kept rate n p l.waiting w.kept in
    let v = left_window rate lo hi n small xs l.waiting w.kept.each in
    let c = fits rate most_grown (n - third rate * most_grown) n (lasts (others p l.waiting)) (omega arith) (spaced_of rate (lasts (others p l.waiting)) k.apart) v in
    rw (← length-map (others p l.waiting) (λ (m : Message). start_of (last_of m))) c

flush-few : (rate : ℕ) (l : Ledger by_frames) → length (closed rate flush l).waiting ≤ most_grown
unfolding closed
flush-few rate l = rw (others_all by_frames (now rate l) l.waiting) (omega arith)

module _ (rate : ℕ) where
  record Few (l : Ledger by_frames) : Type 0 where
    lasts : Lasts rate l
    few : length l.waiting ≤ most_grown

  call-few : (l : Ledger by_frames) (a : Attempt) (n : ℕ) → number rate l a ≡ n → Few l → Few (after_call rate (demod_of rate) l a.call n)
  unfolding after_call
  call-few l a zero e g =
      let p = passed rate a.lent l a.call (first_none _ _ e).0 in
      let r = and_true (leb lowest_rate rate) (leb rate highest_rate) p.rated in
      let lo = leb-true lowest_rate rate r.0 in
      let hi = leb-true rate highest_rate r.1 in
      let w = scans-lasts rate (demod_of rate) (on_time rate) (demod_fair rate lo hi) (omega arith) l a.call p.order.room g.lasts in
      record { lasts = closed-lasts rate a.call (scans rate (demod_of rate) l a.call) w; few = few-after lo hi a.call p.accepted p.order w }
    where
      few-after : lowest_rate ≤ rate → rate ≤ highest_rate → (c : Call) → Accepted rate l c → InOrder rate l → Lasts rate (scans rate (demod_of rate) l c)
          → length (closed rate c (scans rate (demod_of rate) l c)).waiting ≤ most_grown
      few-after lo hi (push xs) h o w =
          let t = (scans-small rate (demod_of rate) l (push xs) (omega arith) o.room).1 in
          push-few rate lo hi xs (scans rate (demod_of rate) l (push xs)) (omega (arith, t, h.stream)) w
      few-after lo hi flush h o w = flush-few rate (scans rate (demod_of rate) l flush)
  call-few l a (suc n) e g = g

  after_few : (l : Ledger by_frames) (cs : List Attempt) → Few l → Few (after rate (demod_of rate) l cs)
  unfolding after
  after_few l [] g = g
  after_few l (a ∷ cs) g = after_few (after_call rate (demod_of rate) l a.call (number rate l a)) cs (call-few l a (number rate l a) refl g)

  fresh-few : Few fresh
  unfolding fresh near
  fresh-few = record { lasts = record { kept = record { apart = tt; each = tt }; far = λ x h g. refl }; few = omega arith }

few_wait : (rate : ℕ) (cs : List Attempt) → length (grown rate cs).waiting ≤ most_grown
few_wait rate cs = (after_few rate fresh cs (fresh-few rate)).few

-- ---- so it is in order

never-five : (rate : ℕ) (cs : List Attempt) (a : Attempt) → number rate (grown rate cs) a ≡ bad_state → ⊥
never-five rate cs a e =
    let l = grown rate cs in
    let f = five rate a.lent l a.call (first_five _ a.schedule e) in
    let r = and_true (leb lowest_rate rate) (leb rate highest_rate) f.0 in
    let fair = demod_fair rate (leb-true lowest_rate rate r.0) (leb-true rate highest_rate r.1) in
    let o = in_order rate (demod_of rate) fair frames_lawful (rate-pos rate f.0) (λ ds. omega (arith, few_wait rate ds)) cs in
    clash (orderly rate (counts_of rate l) l) (order-holds rate l o) f.1

pub every-grown : (rate : ℕ) (cs : List Attempt) → Grown rate cs
every-grown rate cs = record { waiting = few_wait rate cs; in_order = never-five rate cs }

-- ---- call by call

pub none_grown : (rate : ℕ) → grown rate [] ≡ fresh
unfolding after
none_grown rate = refl

pub grown-next : (rate : ℕ) (cs : List Attempt) (a : Attempt)
    → grown rate (cs ++ (a ∷ [])) ≡ after_call rate (demod_of rate) (grown rate cs) a.call (number rate (grown rate cs) a)
unfolding after
grown-next rate cs a = from fresh cs
  where
    from : (l : Ledger by_frames) (cs : List Attempt) → after rate (demod_of rate) l (cs ++ (a ∷ [])) ≡ after_call rate (demod_of rate) (after rate (demod_of rate) l cs) a.call (number rate (after rate (demod_of rate) l cs) a)
    from l [] = refl
    from l (b ∷ cs) = from (after_call rate (demod_of rate) l b.call (number rate l b)) cs
