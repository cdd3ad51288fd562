-- What a call answers: from the number of its refusal to 01's facts. Assumes nothing.
use mathlib.Core.Bool.{Bool, true, false, not, cond}
use mathlib.Core.List.{List, [], ◌++◌, map}
use mathlib.Core.Path.{◌≡◌, ◌∙◌, refl, sym, ap}
use Prim.Native.Nat.{ℕ, zero, suc, ◌≤◌}
use native.Mathlib.Nat.{not-suc-le-zero}
use native.Mathlib.Omega.{arith}
use Rattle.std.specs.Result.{IsErrAnd}
use Rattle.std.specs.Prelude.{Result}
use Rattle.std.proofs.lemmas.Result.{err_from_is_err_and}
use Rattle.limits.specs.Refusals.{number_of}
use Rattle.limits.specs.declared.Refusal.{Refusal}
use Rattle.limits.proofs.AnswerLaws.{number-positive}
use lib.Dec.{leb, ltb}
use lib.ListN.{length, take, drop, length-map}
use lib.Seq.{length-take-le, take_at}
use lib.Ieee.{Float}
use borrow.Author.Tests.{leb-true, ltb-false, not-false}
use Rattle.limits.specs.Limits.{bad_rate, short, long, bad_sample, bad_state, lowest_rate, highest_rate, events_size, scratch64}
use Rattle.limits.specs.Samples.{rate_ok, all_dbm}
use Rattle.demod.specs.Capture.{joined}
use Rattle.ledger.specs.Ledger.{Ledger, Call, push, push_raw, flush, by_entry, capacity, dbm_of}
use Rattle.ledger.specs.Causes as causes
use Rattle.ledger.specs.Causes.{Counts, starts_ordered, most_starts, most_waiting, orderly, too_short, first_of, call_cause, cause, call_events}
use Rattle.shifts.specs.Shifts.{Schedule, schedule_cause, mark_by}
use Rattle.ledger.specs.Records.{with_records}
use Rattle.ledger.specs.Room.{open_places}
use Rattle.ledger.proofs.Firsts.{first_none, first_some, first_zero}
use Rattle.ledger.proofs.Basics.{and_true, or_false}
use Rattle.ledger.proofs.Orders.{passed}
use Rattle.receiver_starts.specs.Starts as starts
use Rattle.receiver_waiting.specs.Waiting as waiting
use Rattle.receiver.specs.State.{ledger_of, counts_of, samples_ok}
use Rattle.receiver.specs.Calls.{Memory, lengths_of, refusal_of, records_of, state_after, samples_after, Free, Received, received, Answered}
use Rattle.receiver.specs.Running.{Passes, Answers}
use Rattle.receiver.specs.declared.SigfoxReceiver.{SigfoxReceiver}
use Rattle.receiver.proofs.StateLaws.{order-given, orderly_is, samples-fit}

-- ---- a call that no cause applies to

-- a test that is passed
zero_test : (b : Bool) (k x : ℕ) → 1 ≤ k → cond b k x ≡ 0 → (b ≡ false) × (x ≡ 0)
zero_test true k x h e = absurd (omega arith)
zero_test false k x h e = (refl, e)

in_order : (rate : ℕ) (n : Counts) (l : Ledger by_entry) (c : Call) → call_cause rate n l c ≡ 0 → orderly rate n l ≡ true
unfolding call_cause
in_order rate n l (push xs) e =
    let a = zero_test (ltb (capacity rate) (length xs)) long _ (omega arith) e in
    let b = zero_test (not (all_dbm xs)) bad_sample _ (omega arith) a.1 in
    not-false (orderly rate n l) (zero_test (not (orderly rate n l)) bad_state _ (omega arith) b.1).0
in_order rate n l flush e = not-false (orderly rate n l) (zero_test (not (orderly rate n l)) bad_state _ (omega arith) e).0

module _ (s : SigfoxReceiver) (c : Call) (m : Memory) (starts-places : length s.starts.at ≡ most_starts) (open-places : length s.waiting.messages ≡ open_places)
    (e : cause s.rate (lengths_of m) (counts_of s) (ledger_of s m.samples) c ≡ 0) where
  long-enough : (rate_ok s.rate ≡ true) × (too_short s.rate (lengths_of m) ≡ false) × (call_cause s.rate (counts_of s) (ledger_of s m.samples) c ≡ 0)
  unfolding cause
  long-enough =
      let p = zero_test (not (rate_ok s.rate)) bad_rate _ (omega arith) e in
      let q = zero_test (too_short s.rate (lengths_of m)) short _ (omega arith) p.1 in
      (not-false (rate_ok s.rate) p.0, q.0, q.1)

  lengths : (capacity s.rate ≤ length m.samples) × (events_size ≤ length m.events) × (capacity s.rate ≤ length m.scratch32) × (scratch64 ≤ length m.scratch64)
  lengths =
      let a = or_false (ltb (length m.samples) (capacity s.rate)) _ long-enough.1 in
      let b = or_false (ltb (length m.events) events_size) _ a.1 in
      let d = or_false (ltb (length m.scratch32) (capacity s.rate)) _ b.1 in (
        ltb-false (length m.samples) (capacity s.rate) a.0,
        ltb-false (length m.events) events_size b.0,
        ltb-false (length m.scratch32) (capacity s.rate) d.0,
        ltb-false (length m.scratch64) scratch64 d.1,
      )

  -- what the state says that it has is what stands there
  counts_are : (counts_of s ≡ causes.counts_of s.rate (ledger_of s m.samples))
      × (starts.starts_ok s.rate s.base s.held s.starts ≡ true) × (s.starts.count ≡ length (starts.distances s.starts))
  counts_are =
      let o = sym (orderly_is s m.samples) ∙ in_order s.rate (counts_of s) (ledger_of s m.samples) c long-enough.2 in
      let a = and_true (samples_ok s.rate s.held s.base s.unscanned s.starts m.samples) (waiting.waiting_ok s.waiting) o in
      let x = samples-fit s.rate s.held s.base s.unscanned s.starts m.samples a.0 in
      let z = leb-true s.waiting.count most_waiting (and_true (leb s.waiting.count most_waiting) _ a.1).0 in
      let p : length (take s.held m.samples) ≡ s.held = length-take-le s.held m.samples (omega (arith, lengths.0)) in
      let q : length (starts.distances s.starts) ≡ s.starts.count = length-take-le s.starts.count s.starts.at (omega arith) in
      let o : starts_ordered s.rate s.base s.held (starts.remembered s.base s.starts) ≡ true = order-given s.rate s.base s.held s.starts x.3 q in
      let r : length (waiting.waiting_of s.waiting) ≡ s.waiting.count = length-take-le s.waiting.count s.waiting.messages (omega arith) in
      (rw (p, r, x.3, o) refl, x.3, sym q)

  pub passes : Passes s c m.samples m.events m.scratch64
  passes =
      let k = counts_are in
      let f : cause s.rate (lengths_of m) (causes.counts_of s.rate (ledger_of s m.samples)) (ledger_of s m.samples) c ≡ 0 = rw (← k.0) e in
      let p = passed s.rate (lengths_of m) (ledger_of s m.samples) c f in
      let r = and_true (leb lowest_rate s.rate) (leb s.rate highest_rate) p.rated in
      record {
        lowest = leb-true lowest_rate s.rate r.0;
        highest = leb-true s.rate highest_rate r.1;
        places = lengths.0;
        bytes = lengths.1;
        numbers = lengths.3;
        counts = k.0;
        starts = k.1;
        remembers = k.2;
        order = p.order;
        accepted = p.accepted;
      }

  pub scratch-long : capacity s.rate ≤ length m.scratch32
  scratch-long = lengths.2

-- ---- the two answers

-- a refusal's number
pub at_least : (e : Refusal) → 1 ≤ number_of e
at_least e = let n = number_of e in let h : n ≡ 0 → ⊥ = number-positive e in omega arith

samples_kept : (s : SigfoxReceiver) (c : Call) (l : List Float) (k : ℕ) → 1 ≤ k → l ≡ samples_after s c l k
unfolding samples_after
samples_kept s c l zero h = absurd (not-suc-le-zero h)
samples_kept s (push xs) l (suc k) h = refl
samples_kept s flush l (suc k) h = refl

module _ (s : SigfoxReceiver) (c : Call) (p : Schedule) (m : Memory) where
  -- a call that is not refused has no cause but perhaps 11, and not that
  pub no_cause : refusal_of s c p m ≡ 0 → cause s.rate (lengths_of m) (counts_of s) (ledger_of s m.samples) c ≡ 0
  no_cause e = (first_none _ _ e).0

  -- what the code finds
  pub refusal_is : (n k : ℕ) → k ≡ first_of n (schedule_cause p) → n ≡ cause s.rate (lengths_of m) (counts_of s) (ledger_of s m.samples) c → k ≡ refusal_of s c p m
  refusal_is n k e f = e ∙ ap (λ (x : ℕ). first_of x (schedule_cause p)) f

  none_written : (k : ℕ) → 1 ≤ k → records_of s c p m.samples k ≡ []
  unfolding call_events
  none_written zero h = absurd (not-suc-le-zero h)
  none_written (suc k) h = refl

  state_kept : (k : ℕ) → 1 ≤ k → s ≡ state_after s c m.samples k
  unfolding state_after
  state_kept zero h = absurd (not-suc-le-zero h)
  state_kept (suc k) h = refl

  free_kept : (k : ℕ) (l : List Float) → 1 ≤ k → Free k l l
  unfolding Free
  free_kept zero l h = absurd (not-suc-le-zero h)
  free_kept (suc k) l h = refl

  pub answered_no : (n : ℕ) → n ≡ refusal_of s c p m → 1 ≤ n → Answered s c p m m (record { refused = n; count = 0; receiver = s })
  unfolding with_records joined
  answered_no n e h =
      let k : 1 ≤ refusal_of s c p m = rw (← e) h in
      record {
        refused = e;
        count = rw (none_written (refusal_of s c p m) k) refl;
        state = state_kept (refusal_of s c p m) k;
        samples = samples_kept s c m.samples (refusal_of s c p m) k;
        events = rw (none_written (refusal_of s c p m) k) refl;
        scratch32 = free_kept (refusal_of s c p m) m.scratch32 k;
        scratch64 = free_kept (refusal_of s c p m) m.scratch64 k;
      }

  -- by what the code's tests found
  pub refused_first : (e : Refusal) → number_of e ≡ cause s.rate (lengths_of m) (counts_of s) (ledger_of s m.samples) c → number_of e ≡ refusal_of s c p m
  refused_first e f = refusal_is (number_of e) (number_of e) (first_some (number_of e) (schedule_cause p) (at_least e)) f

  pub refused_later : (e : Refusal) → 0 ≡ cause s.rate (lengths_of m) (counts_of s) (ledger_of s m.samples) c → number_of e ≡ schedule_cause p → number_of e ≡ refusal_of s c p m
  refused_later e f g = refusal_is 0 (number_of e) (g ∙ first_zero 0 (schedule_cause p) refl) f

  pub refused_none : 0 ≡ cause s.rate (lengths_of m) (counts_of s) (ledger_of s m.samples) c → 0 ≡ schedule_cause p → refusal_of s c p m ≡ 0
  refused_none f g = sym (refusal_is 0 0 (g ∙ first_zero 0 (schedule_cause p) refl) f)

  -- at the exit of a `?`
  pub answered_exit : (r : Result ℕ Refusal) (e : Refusal) → IsErrAnd r (λ y. y ≡ e) → number_of e ≡ refusal_of s c p m → Answered s c p m m (received r s)
  answered_exit r e i f = let q = err_from_is_err_and r i in rw (q.1, q.2) (answered_no (number_of e) f (at_least e))

  pub answered_yes : (r : Received) (t : Memory) → refusal_of s c p m ≡ 0 → Answers s c (mark_by p) m.samples m.events r t.samples t.events → Answered s c p m t r
  unfolding call_events state_after Free
  answered_yes r t e d =
      record {
        refused = ap (λ (x : Received). x.refused) d.ended.answer ∙ sym e;
        count = rw e (ap (λ (x : Received). x.count) d.ended.answer);
        state = rw e (ap (λ (x : Received). x.receiver) d.ended.answer);
        samples = rw e d.samples;
        events = rw e d.ended.records;
        scratch32 = rw e tt;
        scratch64 = rw e tt;
      }

-- ---- the samples of raw bytes

pub raw-taken : (raw : List ℕ) (old now : List Float) → now ≡ map dbm_of raw ++ drop (length raw) old → take (length raw) now ≡ map dbm_of raw
raw-taken raw old now e = rw e (take_at (map dbm_of raw) (drop (length raw) old) (length raw) (length-map raw dbm_of))

pub raw-fits : (s : SigfoxReceiver) (raw : List ℕ) (samples : List Float) (events : List ℕ) (scratch : List Float) → Passes s (push_raw raw) samples events scratch → length raw ≤ capacity s.rate
raw-fits s raw samples events scratch p = omega (arith, p.accepted.size, length-map raw dbm_of)
