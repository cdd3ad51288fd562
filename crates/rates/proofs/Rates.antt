-- The counts and tests of specs/Rates on whole numbers, for every rate from 200 to 4,000. No rate is computed: bounds on each product decide its rounding. Assumes nothing.
use mathlib.Core.Path.{◌≡◌, refl, sym, ap, subst}
use mathlib.Core.Logic.{inl, inr}
use Prim.Native.Nat.{ℕ, ◌+◌, ◌-◌, ◌*◌, ◌/◌, ◌^◌, ◌≤◌}
use native.Mathlib.Nat.{eq-or-lt_of_le}
use native.Mathlib.Omega.{arith}
use lib.Dec.{leb, ltb}
use lib.Ieee.{Float, binary64, round, mul, div, of_int}
use Rattle.floats.specs.Number.{num}
use Rattle.limits.specs.Limits.{lowest_rate, highest_rate, buffer_s}
use Rattle.rates.specs.Numbers.{bit_rate, side_bits, half_bits, pad_s, gap_ms, ms_per_s, step_s, tail_s, same_burst_s}
use Rattle.rates.specs.Rates.{nominal_of, half_of, win_of, pad_of, gap_of, buffer_of, tail_of, too_near, scan_due, oldest_kept}
use Rattle.rates.proofs.Between.{Lies, Factor, whole_lies, whole_factor, quotient_lies, times_lies, left_times_lies, up_to_whole, back, rounded_up_lem, rounded-away}
use Rattle.rates.proofs.Tenths.{Tenths, product-tenths, tenths-above, tenths-away}

-- ---- the numbers as binary fractions

side-value : Factor side_bits 3 2
unfolding round
side-value = record { over_zero = omega arith; value = (refl, refl) }

half-value : Factor half_bits 3602879701896397 (2 ^ 53)
unfolding round
half-value = record { over_zero = omega arith; value = (refl, refl) }

pad_value : Factor pad_s 5764607523034235 (2 ^ 58)
unfolding round
pad_value = record { over_zero = omega arith; value = (refl, refl) }

gap-value : Factor (div binary64 gap_ms ms_per_s) 5764607523034235 (2 ^ 57)
unfolding of_int div round
gap-value = record { over_zero = omega arith; value = (refl, refl) }

step_value : Factor step_s 1 2
unfolding round
step_value = record { over_zero = omega arith; value = (refl, refl) }

tail-value : Factor tail_s 5404319552844595 (2 ^ 54)
unfolding round
tail-value = record { over_zero = omega arith; value = (refl, refl) }

same_burst_value : Factor same_burst_s 5404319552844595 (2 ^ 54)
unfolding round
same_burst_value = record { over_zero = omega arith; value = (refl, refl) }

-- ---- the laws

-- 0.3 s, by any name
pub three_tenths : {q : Float} → Factor q 5404319552844595 (2 ^ 54) → (r : ℕ) → lowest_rate ≤ r → r ≤ highest_rate → Tenths (mul binary64 q (num r)) (3 * r)
three_tenths k r lo hi = product-tenths k r (3 * r) (omega arith)

module _ (r : ℕ) (lo : lowest_rate ≤ r) (hi : r ≤ highest_rate) where
  rate_lies : Lies (num r) (1024 * r) (1024 * r)
  rate_lies = whole_lies r (omega arith)

  nominal_lies : Lies (nominal_of r) (1024 * r / 100) ((1024 * r + 99) / 100)
  nominal_lies = quotient_lies r bit_rate (1024 * r / 100) ((1024 * r + 99) / 100) (omega arith)

  -- 0.4's float is above 0.4, and where the product is a half r / 100 is exact, so that no half is missed
  pub half_is : half_of r ≡ (2 * r + 250) / 500
  unfolding half_of
  half_is =
      rounded_up_lem (times_lies nominal_lies half-value (2 * (1024 * r / 100) / 5) (2 * ((1024 * r + 99) / 100) / 5 + 1) (omega arith))
      ((2 * r + 250) / 500) (omega arith, low r, omega arith)
    where
      low : (r : ℕ) → 1024 * ((2 * r + 250) / 500) ≤ 2 * (1024 * r / 100) / 5 + 512
      low r = let h : 2560 * ((2 * r + 250) / 500) ≤ 1024 * r / 100 + 1280 = omega arith in omega arith

  -- 1.5 is exact, and so is r / 100 where the product is a half
  pub win_is : win_of r ≡ (3 * r + 100) / 200
  unfolding win_of
  win_is =
      rounded_up_lem (times_lies nominal_lies side-value (3 * (1024 * r / 100) / 2) (3 * ((1024 * r + 99) / 100) / 2 + 1) (omega arith))
      ((3 * r + 100) / 200) (omega arith, low r, omega arith)
    where
      low : (r : ℕ) → 1024 * ((3 * r + 100) / 200) ≤ 3 * (1024 * r / 100) / 2 + 512
      low r =
          elim (eq-or-lt_of_le (at_most_lem r)) [
            | inl e ↦ tie r ((3 * r + 100) / 200) (134 * ((3 * r + 100) / 200) - 67 - 2 * r) (omega arith) e
            | inr l ↦ omega arith
          ]
        where
          at_most_lem : (r : ℕ) → 200 * ((3 * r + 100) / 200) ≤ 3 * r + 100
          at_most_lem r = omega arith

          tie : (r k j : ℕ) → r ≡ 100 * j → 200 * k ≡ 3 * r + 100 → 1024 * k ≤ 3 * (1024 * r / 100) / 2 + 512
          tie r k j h e = let f : 1024 * r / 100 ≡ 1024 * j = omega arith in omega arith

  -- 0.02's float is above 0.02, so that no half is missed
  pub pad_is : pad_of r ≡ (r + 25) / 50
  unfolding pad_of
  pad_is = rounded_up_lem (times_lies rate_lies pad_value (1024 * r / 50) (1024 * r / 50 + 1) (omega arith)) ((r + 25) / 50) (omega arith)

  -- no rate makes 0.04 * rate a half
  pub gap_is : gap_of r ≡ (2 * r + 25) / 50
  unfolding gap_of
  gap_is = rounded_up_lem (left_times_lies rate_lies gap-value (1024 * r / 25) (1024 * r / 25 + 1) (omega arith)) ((2 * r + 25) / 50) (omega arith)

  pub buffer_is : buffer_of r ≡ buffer_s * r
  unfolding buffer_of
  buffer_is = rounded-away (left_times_lies rate_lies (whole_factor buffer_s (omega arith) (omega arith)) (1024 * (buffer_s * r)) (1024 * (buffer_s * r)) (omega arith)) (buffer_s * r) (omega arith)

  pub tail_is : tail_of r ≡ (3 * r + 5) / 10
  unfolding tail_of
  tail_is = tenths-away (three_tenths tail-value r lo hi) (omega arith)

  pub too_near_is : (d : ℕ) → d ≤ 2 ^ 41 → too_near r d ≡ ltb (10 * d) (3 * r)
  too_near_is d D = tenths-above (three_tenths same_burst_value r lo hi) d (omega arith)

  pub scan-due_is : (u : ℕ) → u ≤ 2 ^ 41 → scan_due r u ≡ leb r (2 * u)
  scan-due_is u U = up_to_whole (left_times_lies rate_lies step_value (512 * r) (512 * r) (omega arith)) u (omega arith) r (2 * u) (λ h. omega arith) (λ h. omega arith)

  -- ---- what the callers' buffers rest on

  pub half_most : half_of r ≤ 16
  half_most = subst (λ (k : ℕ). k ≤ 16) (sym half_is) (omega arith)

  pub win_most : win_of r ≤ 60
  win_most = subst (λ (k : ℕ). k ≤ 60) (sym win_is) (omega arith)

  pub pad_most : pad_of r ≤ 80
  pad_most = subst (λ (k : ℕ). k ≤ 80) (sym pad_is) (omega arith)

  -- dips of a full buffer are more than `half_of` apart, so that 3,000 places hold them
  pub dips-fit : buffer_s * r ≤ 2999 * (half_of r + 1)
  dips-fit = subst (λ (k : ℕ). buffer_s * r ≤ 2999 * (k + 1)) (sym half_is) (omega arith)

-- ---- the starts that are kept: those of the last second before the base

pub oldest_is : (base r : ℕ) → r ≤ highest_rate → oldest_kept base r ≡ base - r
unfolding of_int
oldest_is base r h = ap (λ (n : ℕ). base - n) (back r (omega arith))
