-- The state and the sample buffer of the port stand for 01's ledger, with the entry that the Rust merges of each open message; and so after a call.
use mathlib.Core.Path.{◌≡◌, refl, subst, sym, ap, ◌∙◌}
use mathlib.Core.Bool.{Bool, true, false, not, ◌||◌, cond}
use mathlib.Core.List.{List, map}
use Prim.Native.Nat.{ℕ, zero, suc, ◌≤◌}
use native.Mathlib.Omega.{arith}
use lib.Dec.{ltb}
use lib.Ieee.{Float}
use lib.ListN.{length, take, drop}
use lib.Seq.{take-append_seam}
use borrow.Author.Tests.{ltb-false}
use Rattle.limits.specs.Limits.{bad_rate, short}
use Rattle.limits.specs.Samples.{rate_ok}
use Rattle.ledger.specs.Ledger.{by_frames, by_entry, capacity, spaced, Ledger, Call, push, flush, fresh, start_call, scans, closed, events}
use Rattle.ledger.specs.Causes.{orderly, Lent, too_short, call_cause, cause, after_call, call_events}
use Rattle.shifts.specs.Shifts.{Schedule, mark_by}
use Rattle.ledger.specs.Causes as causes
use Rattle.ledger.specs.Demodulation.{demod_of}
use Rattle.ledger.specs.Records.{record_of}
use Rattle.ledger.proofs.Orders.{passed, rate-pos}
use Rattle.ledger.proofs.Sizes.{scan-still}
use Rattle.ledger.proofs.Ranks.{AllRanked}
use Rattle.ledger.proofs.Carry.{carry, cause-carry, call-carry, call-events-carry}
use Rattle.receiver_samples.specs.Buffer.{all_filled}
use Rattle.receiver_samples.proofs.Fillings.{held_length}
use Rattle.receiver_starts.specs.Starts as starts
use Rattle.receiver_starts.proofs.SampleLaws.{samples_back}
use Rattle.receiver.proofs.StateLaws.{order_over}
use Rattle.receiver_waiting.specs.Waiting as waiting
use Rattle.receiver.specs.State.{ledger_of, counts_of, new_state, state_over}
use Rattle.receiver.specs.Calls.{Memory, lengths_of, records_of, state_after, samples_after}
use Rattle.receiver.specs.declared.SigfoxReceiver.{SigfoxReceiver}
use Rattle.history.proofs.Buffers.{fills-keeps}

-- a call looks at no frame that was heard before it
module _ (rate : ℕ) (l : Ledger by_entry) where
  cause_start : (b : Lent) (c : Call) → cause rate b (causes.counts_of rate l) (start_call l) c ≡ cause rate b (causes.counts_of rate l) l c
  unfolding cause call_cause orderly start_call
  cause_start b (push xs) = refl
  cause_start b flush = refl

  scans_start : (c : Call) → scans rate (demod_of rate) (start_call l) c ≡ scans rate (demod_of rate) l c
  unfolding scans start_call
  scans_start (push xs) = refl
  scans_start flush = refl

  events_start : (c : Call) (n : ℕ) → call_events rate (demod_of rate) (start_call l) c n ≡ call_events rate (demod_of rate) l c n
  unfolding call_events
  events_start c zero = ap (events rate c) (scans_start c)
  events_start c (suc n) = refl

-- the state s of a receiver stands for the ledger l, whatever its places past the counts hold
pub record For (rate : ℕ) (s : SigfoxReceiver) (l : Ledger by_entry) : Type 0 where
  pub rated : s.rate ≡ rate
  pub counts : counts_of s ≡ causes.counts_of rate l
  pub based : s.base ≡ l.base
  pub starts : starts.distances s.starts ≡ starts.distances_of l.base l.starts
  pub ledger : (buf : List Float) → take (length l.held) buf ≡ l.held → ledger_of s buf ≡ start_call l

pub new_for : (rate : ℕ) → For rate (new_state rate) fresh
unfolding new_state waiting.none fresh start_call starts.all_below starts.all_from starts.all_apart causes.below causes.since spaced
new_for rate = record { rated = refl; counts = refl; based = refl; starts = refl; ledger = λ buf h. refl }

over_for : (s : SigfoxReceiver) (l : Ledger by_entry) → For s.rate (state_over s l) l
unfolding state_over starts.over waiting.over start_call
over_for s l =
    let ds = starts.distances_of l.base l.starts in
    let seam = take-append_seam ds (drop (length ds) s.starts.at) in
    record {
      rated = refl;
      counts =
          ap (λ (b : Bool). record { held = length l.held; starts = b; waiting = length l.waiting })
          (order_over s.rate l.base (length l.held) s.starts l.starts);
      based = refl;
      starts = seam;
      ledger =
          λ buf h.
          rw (h, seam, samples_back l.base l.starts, take-append_seam l.waiting (drop (length l.waiting) s.waiting.messages)) refl;
    }

-- an accepted call has a sample buffer that is long enough
wide : (rate : ℕ) (b : Lent) (l : Ledger by_frames) (c : Call) → cause rate b (causes.counts_of rate l) l c ≡ 0 → capacity rate ≤ b.samples
unfolding cause
wide rate b l c e = ltb-false b.samples (capacity rate) (first (ltb b.samples (capacity rate)) _ (second (rate_ok rate) (too_short rate b) _ e))
  where
    first : (x y : Bool) → x || y ≡ false → x ≡ false
    first true y q = q
    first false y q = refl

    second : (x y : Bool) (k : ℕ) → cond (not x) bad_rate (cond y short k) ≡ 0 → y ≡ false
    second true true k q = absurd (omega arith)
    second true false k q = refl
    second false y k q = absurd (omega arith)

module _ (rate : ℕ) (s : SigfoxReceiver) (l : Ledger by_frames) (f : For rate s (carry l)) (c : Call) (b : Memory) (holds : take (length l.held) b.samples ≡ l.held) where
  pub number_is : cause s.rate (lengths_of b) (counts_of s) (ledger_of s b.samples) c ≡ cause rate (lengths_of b) (causes.counts_of rate l) l c
  number_is =
      ap (λ (k : Ledger by_entry). cause s.rate (lengths_of b) (counts_of s) k c) (f.ledger b.samples holds)
      ∙ ap (λ (k : causes.Counts). cause s.rate (lengths_of b) k (start_call (carry l)) c) f.counts
      ∙ ap (λ (r : ℕ). cause r (lengths_of b) (causes.counts_of rate (carry l)) (start_call (carry l)) c) f.rated
      ∙ cause_start rate (carry l) (lengths_of b) c
      ∙ cause-carry rate (lengths_of b) l c

  module _ (ranked : AllRanked l.waiting) where
    pub records_are : (p : Schedule) (n : ℕ) → records_of s c p b.samples n ≡ map (record_of (mark_by p)) (call_events rate (demod_of rate) l c n)
    records_are p n =
        ap (map (record_of (mark_by p)))
        (ap (λ (k : Ledger by_entry). call_events s.rate (demod_of s.rate) k c n) (f.ledger b.samples holds)
        ∙ ap (λ (r : ℕ). call_events r (demod_of r) (start_call (carry l)) c n) f.rated
        ∙ events_start rate (carry l) c n
        ∙ sym (call-events-carry rate (demod_of rate) l c n ranked))

    pub state-for : (n : ℕ) → For rate (state_after s c b.samples n) (carry (after_call rate (demod_of rate) l c n))
    unfolding state_after after_call
    state-for zero =
        let k = closed s.rate c (scans s.rate (demod_of s.rate) (ledger_of s b.samples) c) in
        let e : k ≡ carry (after_call rate (demod_of rate) l c 0)
        = ap (λ (k : Ledger by_entry). closed s.rate c (scans s.rate (demod_of s.rate) k c)) (f.ledger b.samples holds)
        ∙ ap (λ (r : ℕ). closed r c (scans r (demod_of r) (start_call (carry l)) c)) f.rated
        ∙ ap (closed rate c) (scans_start rate (carry l) c)
        ∙ sym (call-carry rate (demod_of rate) l c 0 ranked) in
        subst (λ (m : Ledger by_entry). For rate (state_over s k) m) e (subst (λ (r : ℕ). For r (state_over s k) k) f.rated (over_for s k))
    state-for (suc n) = f

-- ---- the sample buffer

-- a push leaves in it what the ledger holds then, and every call its length
module _ (rate : ℕ) (l : Ledger by_frames) (b : Memory) (holds : take (length l.held) b.samples ≡ l.held) where
  pub record Kept (k : Ledger by_frames) (now : List Float) : Type 0 where
    pub size : length now ≡ length b.samples
    pub held : take (length k.held) now ≡ k.held

  push_kept : (xs : List Float) → cause rate (lengths_of b) (causes.counts_of rate l) l (push xs) ≡ 0
      → Kept (scans rate (demod_of rate) l (push xs)) (all_filled rate (length xs) (record { held = length l.held; places = b.samples }) xs).places
  unfolding scans start_call
  push_kept xs e =
      let p = passed rate (lengths_of b) l (push xs) e in
      let w = wide rate (lengths_of b) l (push xs) e in
      let k = fills-keeps rate (length b.samples) (demod_of rate) (rate-pos rate p.rated) w (length xs) (record { held = length l.held; places = b.samples }) (start_call l) xs
      (record { size = refl; fits = p.order.room; holds = holds }) in
      let end = all_filled rate (length xs) (record { held = length l.held; places = b.samples }) xs in
      record {
        size = k.size;
        held = rw (held_length rate end.held end.places (scans rate (demod_of rate) l (push xs)) k.fits (omega (arith, k.size)) k.holds) k.holds;
      }

  flush_kept : Kept (scans rate (demod_of rate) l flush) b.samples
  unfolding scans start_call
  flush_kept = record { size = refl; held = rw (scan-still rate (demod_of rate) 0 (start_call l)).held holds }

  module _ (s : SigfoxReceiver) (f : For rate s (carry l)) where
    filled_is : (xs : List Float) → (all_filled s.rate (length xs) (record { held = s.held; places = b.samples }) xs).places
        ≡ (all_filled rate (length xs) (record { held = length l.held; places = b.samples }) xs).places
    filled_is xs =
        ap (λ (r : ℕ). (all_filled r (length xs) (record { held = s.held; places = b.samples }) xs).places) f.rated
        ∙ ap (λ (k : causes.Counts). (all_filled rate (length xs) (record { held = k.held; places = b.samples }) xs).places) f.counts

    pub samples_kept : (c : Call) (n : ℕ) → (n ≡ 0 → cause rate (lengths_of b) (causes.counts_of rate l) l c ≡ 0)
        → Kept (after_call rate (demod_of rate) l c n) (samples_after s c b.samples n)
    unfolding samples_after after_call closed
    samples_kept (push xs) zero e = let k = push_kept xs (e refl) in rw (filled_is xs) (record { size = k.size; held = k.held })
    samples_kept flush zero e = record { size = refl; held = flush_kept.held }
    samples_kept (push xs) (suc n) e = record { size = refl; held = holds }
    samples_kept flush (suc n) e = record { size = refl; held = holds }
