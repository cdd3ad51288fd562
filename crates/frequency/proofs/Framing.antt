-- `freq`, `frame_frequency` and `frame1`: what an accepted call has, and the answers by cases. Assumes nothing.
use Rattle.std.proofs.Common.{Option}
use mathlib.Core.Path.{◌≡◌, refl, sym, ap, ◌∙◌}
use mathlib.Core.Bool.{Bool, true, false, not, ◌&&◌}
use mathlib.Core.List.{List, [], ◌∷◌}
use Prim.Native.Nat.{ℕ, zero, suc, ◌≤◌}
use native.Mathlib.Omega.{arith}
use borrow.Author.Tests.{ltb-false, not-false}
use lib.Dec.{ltb}
use lib.ListN.{length, take, get_or}
use lib.Seq.{length-take-le}
use lib.Ieee.{Float, nan}
use Rattle.limits.specs.Samples.{rate_ok}
use Rattle.limits.specs.Answer as lent
use Rattle.limits.proofs.Samples.{and_left, and_right}
use Rattle.frequency_lists.specs.declared.Reading.{Reading}
use Rattle.frequency_lists.specs.declared.Tuning.{Tuning}
use Rattle.frequency_lists.specs.Lists.{all_numbers}
use Rattle.record.specs.declared.FrameSpan.{FrameSpan}
use Rattle.frequency_measure.specs.declared.FrameFrequency.{FrameFrequency}
use Rattle.frequency_measure.specs.Gathered.{Free}
use Rattle.frequency_measure.specs.Measured.{frame1, of_rank, direct, middle}
use Rattle.frequency.specs.declared.FrequencyTracker.{FrequencyTracker}
use Rattle.frequency.specs.Order.{tunings_in_order, readings_in_order, floats_ok, numbers_ok, cause_freq, cause_frame}
use Rattle.frequency.proofs.Choices.{not_refused}
use Rattle.frequency.proofs.Ordered.{OrderedT, ordered-t, ordered-r}

-- what an accepted call has
pub record Held (s : FrequencyTracker) (rs : List Reading) (out : List Float) : Type 0 where
  pub places : s.readings ≤ length rs
  pub free : Free (take s.readings rs) out

pub held_of : (s : FrequencyTracker) (rs : List Reading) (out : List Float) (ok : Bool) → cause_frame s rs (length out) ok ≡ 0 → Held s rs out
unfolding cause_frame numbers_ok
held_of s rs out ok e =
    let a = not_refused 0 _ (not (rate_ok s.rate)) e in
    let b = not_refused 1 _ (ltb (length out) s.readings) a.1 in
    let c = not_refused 4 _ (not (readings_in_order s rs)) b.1 in
    let d = not_refused 8 _ (not (numbers_ok s rs && ok)) c.1 in
    let o = ordered-r s rs (not-false (readings_in_order s rs) c.0) in
    let n = length-take-le s.readings rs o.places in
    let r = ltb-false (length out) s.readings b.0 in
    record {
      places = o.places;
      free = record { room = omega arith; numbers = and_right (floats_ok s) (all_numbers (take s.readings rs)) (and_left (numbers_ok s rs) ok (not-false (numbers_ok s rs && ok) d.0)) };
    }

pub freq-ordered : (s : FrequencyTracker) (ts : List Tuning) → cause_freq s ts ≡ 0 → OrderedT s ts
unfolding cause_freq
freq-ordered s ts e =
    let a = not_refused 0 _ (not (rate_ok s.rate)) e in
    let b = not_refused 4 _ (not (tunings_in_order s ts)) a.1 in
    ordered-t s ts (not-false (tunings_in_order s ts) b.0)

-- scratch of an accepted call
pub freed : (k : ℕ) (old now : List Float) → 0 ≡ k → lent.Free k old now
unfolding lent.Free
freed zero old now e = tt
freed (suc k) old now e = absurd (omega arith)

-- three places
pub three : (l : List FrameSpan) (d : FrameSpan) → length l ≡ 3 → l ≡ get_or l 0 d ∷ get_or l 1 d ∷ get_or l 2 d ∷ []
three [] d e = absurd (omega arith)
three (a ∷ []) d e = absurd (omega arith)
three (a ∷ b ∷ []) d e = absurd (omega arith)
three (a ∷ b ∷ c ∷ []) d e = refl
three (a ∷ b ∷ c ∷ x ∷ l) d e = absurd (omega arith)

-- ---- frame1, from the frequencies of the three ranks
module _ (rate : ℕ) (rs : List Reading) (spans : List FrameSpan) (d : Bool) (f1 : (Option FrameFrequency)) (one : (Option ℕ)) (A : f1 ≡ of_rank rate rs spans 0) (O : one ≡ direct f1) where
  direct_is : one ≡ direct (of_rank rate rs spans 0)
  direct_is = O ∙ ap direct A

  pub one_is : d ≡ false → one ≡ frame1 rate rs spans d
  unfolding frame1
  one_is e = rw e direct_is

  pub mid_is : d ≡ true → (f2 f3 : (Option FrameFrequency)) (r : (Option ℕ)) → f2 ≡ of_rank rate rs spans 1 → f3 ≡ of_rank rate rs spans 2 → r ≡ middle f2 f3 one → r ≡ frame1 rate rs spans d
  unfolding frame1
  mid_is e f2 f3 r B C R = rw (e, sym B, sym C) (R ∙ ap (middle f2 f3) direct_is)

-- other scratch of the same length serves as well
pub free_again : (rs : List Reading) (out out' : List Float) → Free rs out → length out' ≡ length out → Free rs out'
free_again rs out out' f e = let o = f.room in record { room = omega arith; numbers = f.numbers }

-- what stands at a place that is not there
abbrev pub blank : FrameSpan
blank = record { rank = 0; time = nan; end = nan }
