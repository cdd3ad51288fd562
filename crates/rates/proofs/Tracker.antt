-- The tracker's comparisons of sample indices with GAP_S, SETTLE_S, QUIET_S and KEEP_S (frequency.rs) on whole numbers, for every rate from 200 to 4,000 and indices to 2^41. Assumes nothing.
use mathlib.Core.Path.{◌≡◌, refl, sym, ap, ◌∙◌, subst}
use mathlib.Core.Bool.{Bool, true, false}
use Prim.Native.Nat.{ℕ, ◌+◌, ◌-◌, ◌*◌, ◌^◌, ◌≤◌, ◌<◌}
use native.Mathlib.Omega.{arith}
use lib.Dec.{leb, ltb}
use lib.IntN.{negsuc}
use lib.Ieee.{Float, inf, binary64, round, add, sub, mul, lt, le, of_int}
use lib.Ieee.Exact.{HasValue}
use lib.Ieee.Back.{round_whole}
use lib.Ieee.Positive as P
use borrow.Author.Tests.{leb-true, leb-false, le-leb}
use Rattle.floats.specs.Number.{num}
use Rattle.limits.specs.Limits.{lowest_rate, highest_rate}
use Rattle.rates.specs.Numbers.{gap_s, settle_s, tracker_quiet_s, keep_s}
use Rattle.rates.proofs.Near.{sub_at, int_value}
use Rattle.rates.proofs.Opposed.{sub_under}
use Rattle.rates.proofs.Values.{same_leb, le-values, le-negative, lt_infinity}
use Rattle.rates.proofs.Between.{Lies, Factor, whole_lies, whole_factor, positive_factor, lies_positive, flipped, left_times_lies, below-whole}
use Rattle.rates.proofs.Tenths.{Tenths, product-tenths, sum-tenths, less_tenths, tenths-below, tenths-above, tenths_up_to}
use Rattle.rates.proofs.Rates.{three_tenths}

gap-value : Factor gap_s 3602879701896397 (2 ^ 55)
unfolding round
gap-value = record { over_zero = omega arith; value = (refl, refl) }

settle_value : Factor settle_s 5404319552844595 (2 ^ 54)
unfolding round
settle_value = record { over_zero = omega arith; value = (refl, refl) }

-- any number is below infinity, which stands for a signal that never was
never : (v : Float) → HasValue v false (P.num v) (P.den v) → lt v (inf false) ≡ true
never v h = lt_infinity v (P.num v) (P.den v) h

module _ (r : ℕ) (lo : lowest_rate ≤ r) (hi : r ≤ highest_rate) where
  rate_lies : Lies (num r) (1024 * r) (1024 * r)
  rate_lies = whole_lies r (omega arith)

  -- GAP_S * rate, and rate * GAP_S
  gap-tenths : Tenths (mul binary64 gap_s (num r)) r
  gap-tenths = product-tenths gap-value r r (omega arith)

  late-tenths : Tenths (mul binary64 (num r) gap_s) r
  late-tenths = subst (λ (v : Float). Tenths v r) (flipped gap_s (num r) (positive_factor gap-value) (lies_positive rate_lies (omega arith))) gap-tenths

  -- since_signal() > GAP_S * rate, where the signal was d samples ago, and where it never was
  pub gap_is : (d : ℕ) → d ≤ 2 ^ 41 → lt (mul binary64 gap_s (num r)) (num d) ≡ ltb r (10 * d)
  gap_is d D = tenths-below gap-tenths d (omega arith)

  pub gap-never : lt (mul binary64 gap_s (num r)) (inf false) ≡ true
  gap-never = never (mul binary64 gap_s (num r)) gap-tenths.near.own

  -- d < SETTLE_S * rate
  pub settle_is : (d : ℕ) → d ≤ 2 ^ 41 → lt (num d) (mul binary64 settle_s (num r)) ≡ ltb (10 * d) (3 * r)
  settle_is d D = tenths-above (three_tenths settle_value r lo hi) d (omega arith)

  -- at < tuned_at + SETTLE_S * rate
  pub settling_is : (t a : ℕ) → t ≤ 2 ^ 41 → a ≤ 2 ^ 41 → lt (num a) (add binary64 (num t) (mul binary64 settle_s (num r))) ≡ ltb (10 * a) (10 * t + 3 * r)
  settling_is t a M A = tenths-above (sum-tenths (three_tenths settle_value r lo hi) (omega arith) t M (omega arith)) a (omega arith)

  -- at >= frame_from + rate * GAP_S, and with frame_from -1
  pub late_is : (f a : ℕ) → f ≤ 2 ^ 41 → a ≤ 2 ^ 41 → le (add binary64 (num f) (mul binary64 (num r) gap_s)) (num a) ≡ leb (10 * f + r) (10 * a)
  late_is f a F A = tenths_up_to (sum-tenths late-tenths (omega arith) f F (omega arith)) a (omega arith)

  pub late-never : (a : ℕ) → a ≤ 2 ^ 41 → le (add binary64 (of_int binary64 (negsuc 0)) (mul binary64 (num r) gap_s)) (num a) ≡ leb r (10 * a + 10)
  late-never a A =
      tenths_up_to (less_tenths late-tenths (omega arith) (omega arith)) a (omega arith)
      ∙ same_leb (r - 10) (10 * a) r (10 * a + 10) (λ h. omega arith) (λ h. omega arith)

  -- since_signal() > QUIET_S * rate
  quiet_lies : Lies (mul binary64 tracker_quiet_s (num r)) (1024 * (10 * r)) (1024 * (10 * r))
  quiet_lies = left_times_lies rate_lies (whole_factor 10 (omega arith) (omega arith)) (1024 * (10 * r)) (1024 * (10 * r)) (omega arith)

  pub quiet_is : (d : ℕ) → d ≤ 2 ^ 41 → lt (mul binary64 tracker_quiet_s (num r)) (num d) ≡ ltb (10 * r) d
  quiet_is d D = below-whole quiet_lies d (omega arith) (10 * r) d (λ h. omega arith) (λ h. omega arith)

  pub quiet-never : lt (mul binary64 tracker_quiet_s (num r)) (inf false) ≡ true
  quiet-never = never (mul binary64 tracker_quiet_s (num r)) quiet_lies.own

  -- at >= n - KEEP_S * rate
  keep-value : HasValue (mul binary64 keep_s (num r)) false (60 * r) 1
  keep-value =
      let k = whole_factor 60 (omega arith) (omega arith) in
      subst (λ (v : Float). HasValue v false (60 * r) 1)
      (sym (P.mul_at binary64 keep_s (num r) 60 1 r 1 (positive_factor k) (lies_positive rate_lies (omega arith)) (omega arith) (omega arith) k.value (int_value r (omega arith))))
      (round_whole binary64 false (60 * r) (omega arith))

  pub kept_is : (n a : ℕ) → n ≤ 2 ^ 41 → a ≤ 2 ^ 41 → le (sub binary64 (num n) (mul binary64 keep_s (num r))) (num a) ≡ leb n (a + 60 * r)
  kept_is n a N A = go (leb (60 * r) n) (leb-true (60 * r) n) (leb-false (60 * r) n)
    where
      go : (t : Bool) → (t ≡ true → 60 * r ≤ n) → (t ≡ false → n < 60 * r) → le (sub binary64 (num n) (mul binary64 keep_s (num r))) (num a) ≡ leb n (a + 60 * r)
      go true p q =
          let h = p refl in
          ap (λ (x : Float). le x (num a)) (sub_at binary64 (num n) (mul binary64 keep_s (num r)) n (60 * r) 1 (omega arith) h (int_value n (omega arith)) keep-value)
          ∙ le-values (round binary64 false (n - 60 * r) 1) (num a) (n - 60 * r) 1 a 1 (omega arith) (omega arith) (round_whole binary64 false (n - 60 * r) (omega arith)) (int_value a (omega arith))
          ∙ same_leb ((n - 60 * r) * 1) (a * 1) n (a + 60 * r) (λ x. omega arith) (λ x. omega arith)
      go false p q =
          let h = q refl in
          ap (λ (x : Float). le x (num a)) (sub_under binary64 (num n) (mul binary64 keep_s (num r)) n (60 * r) 1 (omega arith) h (int_value n (omega arith)) keep-value)
          ∙ le-negative (round binary64 true (60 * r - n) 1) (num a) (60 * r - n) 1 a 1 (omega arith) (round_whole binary64 true (60 * r - n) (omega arith)) (int_value a (omega arith))
          ∙ sym (le-leb n (a + 60 * r) (omega arith))
