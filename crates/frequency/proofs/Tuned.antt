-- `tuned` of a state in order, from what the functions that it calls leave. Assumes nothing.
use Rattle.std.proofs.Common.{Option}
use mathlib.Core.Path.{◌≡◌, refl, sym, ap, ◌∙◌}
use mathlib.Core.Bool.{Bool, true, false, not, cond, ◌&&◌}
use mathlib.Core.List.{List, [], ◌∷◌}
use Prim.Native.Nat.{ℕ, ◌+◌, ◌≤◌}
use native.Mathlib.Omega.{arith}
use borrow.Author.Tests.{not-false, leb-true}
use lib.Dec.{eqb, eqb-suc-zero}
use lib.ListN.{length, take}
use lib.Seq.{length-take-le}
use Rattle.limits.specs.Samples.{rate_ok}
use Rattle.frequency_lists.specs.declared.Reading.{Reading}
use Rattle.frequency_lists.specs.declared.Tuning.{Tuning}
use Rattle.frequency_lists.specs.Lists.{freqs, last_or, fits_tunings}
use Rattle.frequency_lists.specs.Marks.{put}
use Rattle.frequency_tuning.specs.Steps.{answered}
use Rattle.frequency.specs.declared.FrequencyTracker.{FrequencyTracker}
use Rattle.frequency.specs.Lent.{lists, tracker, packed, stored}
use Rattle.frequency.specs.Order.{tunings_in_order, due_of, cause_tuned}
use Rattle.frequency.specs.Tracker.{is_empty, freq_of, due, tuned}
use Rattle.frequency.proofs.Choices.{not_refused}
use Rattle.frequency.proofs.Held.{over_same, over_put, put-count}
use Rattle.frequency.proofs.Ordered.{OrderedT, ordered-t}

empty_is : {A : Type 0} (l : List A) → is_empty l ≡ eqb (length l) 0
empty_is [] = refl
empty_is (x ∷ l) = sym (eqb-suc-zero (length l))

-- what an accepted call has
pub record Fine (s : FrequencyTracker) (ts : List Tuning) (f : ℕ) : Type 0 where
  pub ordered : OrderedT s ts
  pub free : due_of s ts f ≡ true → s.tunings + 1 ≤ length ts

pub fine : (s : FrequencyTracker) (ts : List Tuning) (f : ℕ) → cause_tuned s ts f ≡ 0 → Fine s ts f
unfolding cause_tuned
fine s ts f e =
    let a = not_refused 0 _ (not (rate_ok s.rate)) e in
    let b = not_refused 4 _ (not (tunings_in_order s ts)) a.1 in
    let c = not_refused 7 _ (due_of s ts f && not (fits_tunings (s.tunings + 1) ts)) b.1 in
    record {
      ordered = ordered-t s ts (not-false (tunings_in_order s ts) b.0);
      free = λ d. leb-true (s.tunings + 1) (length ts) (room (due_of s ts f) (fits_tunings (s.tunings + 1) ts) d c.0);
    }
  where
    room : (d x : Bool) → d ≡ true → (d && not x) ≡ false → x ≡ true
    room true x e g = not-false x g
    room false true e g = refl
    room false false e g = e

-- the state that `tuned` makes
abbrev pub made : FrequencyTracker → ℕ → (Option ℕ) → FrequencyTracker
made s q g = record {
  rate = s.rate;
  base_freq = s.base_freq;
  step_hz = s.step_hz;
  line_start = s.line_start;
  readings = s.readings;
  tunings = q;
  requested = g;
  signal = s.signal;
}

module _ (s : FrequencyTracker) (ts : List Tuning) (f : ℕ) (p : Fine s ts f) (rs : List Reading) (b : s.readings ≤ length rs) where
  pub due_is : due (tracker s (lists rs ts)) f ≡ due_of s ts f
  unfolding due due_of freq_of tracker
  due_is =
      ap (λ (b : Bool). cond b true (not (eqb f (last_or s.base_freq (freqs (take s.tunings ts)))))) (empty_is (take s.tunings ts) ∙ ap (λ (n : ℕ). eqb n 0) (length-take-le s.tunings ts p.ordered.places))

  abbrev pub new : Tuning
  new = record { at = s.signal.n; freq = f }

  module _ (q : ℕ) (ts' : List Tuning) (n : q ≡ cond (due_of s ts f) (s.tunings + 1) s.tunings) (t : ts' ≡ put (due_of s ts f) ts s.tunings new) where
    pub tuned-lists : lists rs ts' ≡ stored (tuned (tracker s (lists rs ts)) f) (lists rs ts)
    unfolding stored tuned tracker
    tuned-lists = rw (due_is, t, sym (over_same rs s.readings b), over_put ts s.tunings p.ordered.places (due_of s ts f) new (λ h. omega (arith, p.free h))) refl

    pub tuned-state : (u : FrequencyTracker) → u ≡ made s q (answered s.requested f) → u ≡ packed (tuned (tracker s (lists rs ts)) f)
    unfolding packed tuned tracker
    tuned-state u e = e ∙ rw (due_is, n, length-take-le s.readings rs b, put-count ts s.tunings p.ordered.places (due_of s ts f) new) refl
