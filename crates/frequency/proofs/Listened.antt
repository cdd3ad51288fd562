-- `cfo` of a state in order, from what the functions that it calls leave. Assumes nothing.
use mathlib.Core.Path.{◌≡◌, refl, sym, ap, ◌∙◌}
use mathlib.Core.Bool.{Bool, true, false, not, cond, ◌&&◌}
use mathlib.Core.List.{List, [], ◌∷◌, ◌++◌}
use Prim.Native.Nat.{ℕ, suc, ◌+◌, ◌≤◌}
use native.Mathlib.Omega.{arith}
use borrow.Author.Tests.{ltb-false, leb-true, not-false}
use lib.Dec.{ltb}
use lib.ListN.{length, take, length-append}
use lib.Seq.{length-take-le, sets}
use lib.Ieee.{Float}
use Rattle.limits.specs.Limits.{most_readings, longest_stream}
use Rattle.limits.specs.Samples.{rate_ok}
use Rattle.cfo.specs.Cfo.{reading_hz}
use Rattle.frequency_signal.specs.Seconds.{Rate, settling}
use Rattle.frequency_lists.specs.declared.Reading.{Reading}
use Rattle.frequency_lists.specs.declared.Tuning.{Tuning}
use Rattle.frequency_lists.specs.Lists.{cfo_every, tuneds, freqs, last_or, readings_from, fits_readings}
use Rattle.frequency_lists.proofs.Every.{last_small}
use Rattle.frequency.specs.declared.FrequencyTracker.{FrequencyTracker}
use Rattle.frequency.specs.Lent.{Lists, lists, tracker, packed, stored}
use Rattle.frequency.specs.Order.{in_order, cause_cfo}
use Rattle.frequency.specs.Tracker.{freq_of, cfo}
use Rattle.frequency.proofs.Choices.{not_refused}
use Rattle.frequency.proofs.Held.{over_same, over_append}
use Rattle.frequency.proofs.Ordered.{Ordered, counts_of, rate_of, ordered_of}

-- what an accepted call has
pub record Fine (s : FrequencyTracker) (l : Lists) (raw : List ℕ) : Type 0 where
  pub rate : Rate s.rate
  pub few : length raw ≤ most_readings
  pub ordered : Ordered s l
  pub places : s.readings + length raw ≤ length l.readings

pub fine : (s : FrequencyTracker) (l : Lists) (raw : List ℕ) → cause_cfo s l raw ≡ 0 → Fine s l raw
unfolding cause_cfo
fine s l raw e =
    let end = s.readings + length raw in
    let a = not_refused 0 _ (not (rate_ok s.rate)) e in
    let b = not_refused 2 _ (ltb most_readings (length raw)) a.1 in
    let c = not_refused 4 _ (not (in_order s l)) b.1 in
    let d = not_refused 7 _ (not (fits_readings end l.readings)) c.1 in
    record {
      rate = rate_of s.rate (not-false (rate_ok s.rate) a.0);
      few = ltb-false most_readings (length raw) b.0;
      ordered = ordered_of s l (not-false (in_order s l) c.0);
      places = leb-true end (length l.readings) (not-false (fits_readings end l.readings) d.0);
    }

-- the last tuning is not ahead of the stream
pub last_upto : (s : FrequencyTracker) (l : Lists) → Ordered s l → last_or 0 (tuneds (take s.tunings l.tunings)) ≤ longest_stream
last_upto s l o =
    let a = last_small (λ (u : Tuning). u.at) s.signal.n 0 (take s.tunings l.tunings) (omega arith) o.t.indices in
    let m = o.t.signals.stream in
    omega arith

-- at most one reading a value
one_more : (b : Bool) (x : Reading) (rest : List Reading) (n : ℕ) → length rest ≤ n → length (cond b rest (x ∷ rest)) ≤ suc n
one_more true x rest n h = omega arith
one_more false x rest n h = omega arith

pub few-readings : (rate : ℕ) (step : Float) (more : Bool) (tuned f at : ℕ) (raw : List ℕ) → length (readings_from rate step more tuned f at raw) ≤ length raw
unfolding readings_from
few-readings rate step more tuned f at [] = omega arith
few-readings rate step more tuned f at (v ∷ raw) =
    one_more (settling rate tuned at && more) (record { at = at; lo = f; hz = reading_hz f v step }) (readings_from rate step more tuned f (at + cfo_every) raw) (length raw)
    (few-readings rate step more tuned f (at + cfo_every) raw)

-- the state that `cfo` makes
abbrev pub made : FrequencyTracker → ℕ → FrequencyTracker
made s r = record {
  rate = s.rate;
  base_freq = s.base_freq;
  step_hz = s.step_hz;
  line_start = s.line_start;
  readings = r;
  tunings = s.tunings;
  requested = s.requested;
  signal = s.signal;
}

module _ (s : FrequencyTracker) (l : Lists) (raw : List ℕ) (p : Fine s l raw) where
  -- the new readings
  abbrev pub new : List Reading
  new = readings_from s.rate s.step_hz (ltb 1 s.tunings) (last_or 0 (tuneds (take s.tunings l.tunings))) (last_or s.base_freq (freqs (take s.tunings l.tunings))) s.line_start raw

  few_new : length new ≤ length raw
  few_new = few-readings s.rate s.step_hz (ltb 1 s.tunings) (last_or 0 (tuneds (take s.tunings l.tunings))) (last_or s.base_freq (freqs (take s.tunings l.tunings))) s.line_start raw

  pub cfo-lists : (rs : List Reading) → rs ≡ sets l.readings s.readings new → lists rs l.tunings ≡ stored (cfo (tracker s l) raw) l
  unfolding stored cfo tracker freq_of
  cfo-lists rs q =
      let o = counts_of s l p.ordered in
      let k = few_new in
      rw (q, over_append l.readings s.readings o.readings new (omega (arith, p.places)), sym (over_same l.tunings s.tunings o.tunings), length-take-le s.tunings l.tunings o.tunings) refl

  pub cfo-state : (r : ℕ) → r ≡ s.readings + length new → (u : FrequencyTracker) → u ≡ made s r → u ≡ packed (cfo (tracker s l) raw)
  unfolding packed cfo tracker freq_of
  cfo-state r q u e =
      let o = counts_of s l p.ordered in
      let n : r ≡ length (take s.readings l.readings ++ new) = q ∙ sym (length-append (take s.readings l.readings) new ∙ ap (λ (z : ℕ). z + length new) (length-take-le s.readings l.readings o.readings)) in
      e ∙ rw (n, length-take-le s.tunings l.tunings o.tunings) refl
