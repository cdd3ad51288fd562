-- `samples` of a state in order, from what the functions that it calls leave. Assumes nothing.
use mathlib.Core.Path.{◌≡◌, refl, ◌∙◌}
use mathlib.Core.Bool.{Bool, true, not}
use mathlib.Core.List.{List, ◌++◌, map}
use Prim.Native.Nat.{ℕ, ◌+◌, ◌*◌, ◌≤◌}
use borrow.Author.Tests.{ltb-false, not-false}
use lib.Dec.{ltb}
use lib.ListN.{length, take, drop, length-map}
use lib.Seq.{length-take-le}
use lib.Ieee.{Float}
use Rattle.limits.specs.Limits.{buffer_s, longest_stream}
use Rattle.limits.specs.Samples.{rate_ok, all_dbm}
use Rattle.frequency_signal.specs.declared.Signal.{Signal}
use Rattle.frequency_signal.specs.Seconds.{Rate, kept}
use Rattle.frequency_signal.specs.Heard.{heard}
use Rattle.frequency_lists.specs.declared.Reading.{Reading}
use Rattle.frequency_lists.specs.declared.Tuning.{Tuning}
use Rattle.frequency_lists.specs.Lists.{ats, tuneds}
use Rattle.frequency_retain.specs.Retain.{stays, Compacted}
use Rattle.frequency_retain.proofs.Retaining.{length-stays}
use Rattle.frequency.specs.declared.FrequencyTracker.{FrequencyTracker}
use Rattle.frequency.specs.Lent.{Lists, lists, tracker, packed, stored}
use Rattle.frequency.specs.Order.{in_order, cause_samples}
use Rattle.frequency.specs.Tracker.{samples}
use Rattle.frequency.proofs.Choices.{not_refused}
use Rattle.frequency.proofs.Held.{over-retained, retained-count}
use Rattle.frequency.proofs.Ordered.{Ordered, Counts, rate_of, ordered_of}

-- the state that `samples` makes, of the counts that the retentions leave
abbrev pub made : FrequencyTracker → ℕ → ℕ → Signal → FrequencyTracker
made s r q g = record {
  rate = s.rate;
  base_freq = s.base_freq;
  step_hz = s.step_hz;
  line_start = s.signal.n;
  readings = r;
  tunings = q;
  requested = s.requested;
  signal = g;
}

pub record Fine (s : FrequencyTracker) (l : Lists) (dbm : List Float) : Type 0 where
  pub rate : Rate s.rate
  pub levels : all_dbm dbm ≡ true
  pub ordered : Ordered s l
  pub room : s.signal.n + length dbm ≤ longest_stream

pub fine : (s : FrequencyTracker) (l : Lists) (dbm : List Float) → cause_samples s l dbm ≡ 0 → Fine s l dbm
unfolding cause_samples
fine s l dbm e =
    let a = not_refused 0 _ (not (rate_ok s.rate)) e in
    let b = not_refused 2 _ (ltb (buffer_s * s.rate) (length dbm)) a.1 in
    let c = not_refused 3 _ (not (all_dbm dbm)) b.1 in
    let d = not_refused 4 _ (not (in_order s l)) c.1 in
    let f = not_refused 6 _ (ltb (longest_stream) (s.signal.n + length dbm)) d.1 in
    record {
      rate = rate_of s.rate (not-false (rate_ok s.rate) a.0);
      levels = not-false (all_dbm dbm) c.0;
      ordered = ordered_of s l (not-false (in_order s l) d.0);
      room = ltb-false (longest_stream) (s.signal.n + length dbm) f.0;
    }

module _ (s : FrequencyTracker) (l : Lists) (o : Counts s l) (dbm : List Float) where
  abbrev pub kepts : List Bool
  kepts = map (kept s.rate (heard s.rate s.signal dbm).n) (ats (take s.readings l.readings))

  abbrev pub staying : List Bool
  staying = stays s.rate (heard s.rate s.signal dbm).n (tuneds (take s.tunings l.tunings))

  -- the whole
  module _ (r q : ℕ) (rs : List Reading) (ts : List Tuning) (p : Compacted kepts (take s.readings l.readings) r rs) (t : Compacted staying (take s.tunings l.tunings) q ts) where
    rb : length kepts ≡ s.readings
    rb = length-map (ats (take s.readings l.readings)) (kept s.rate (heard s.rate s.signal dbm).n) ∙ length-map (take s.readings l.readings) (λ (x : Reading). x.at) ∙ length-take-le s.readings l.readings o.readings

    tb : length staying ≡ s.tunings
    tb = length-stays s.rate (heard s.rate s.signal dbm).n (tuneds (take s.tunings l.tunings)) ∙ length-map (take s.tunings l.tunings) (λ (u : Tuning). u.at) ∙ length-take-le s.tunings l.tunings o.tunings

    pub sampled-lists : lists (rs ++ drop s.readings l.readings) (ts ++ drop s.tunings l.tunings) ≡ stored (samples (tracker s l) dbm) l
    unfolding stored samples tracker
    sampled-lists = rw (over-retained l.readings s.readings o.readings kepts rb r rs p, over-retained l.tunings s.tunings o.tunings staying tb q ts t) refl

    pub sampled-state : (u : FrequencyTracker) → u ≡ made s r q (heard s.rate s.signal dbm) → u ≡ packed (samples (tracker s l) dbm)
    unfolding packed samples tracker
    sampled-state u e = e ∙ rw (retained-count l.readings s.readings o.readings kepts rb r rs p, retained-count l.tunings s.tunings o.tunings staying tb q ts t) refl
