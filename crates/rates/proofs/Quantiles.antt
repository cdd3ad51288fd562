-- The places of the two quantiles as whole numbers, and that they are places of the list. The floats of 0.2 and 0.9 are above 0.2 and 0.9, so that no whole product is missed. Assumes nothing.
use mathlib.Core.Path.{◌≡◌, refl, sym, subst}
use Prim.Native.Nat.{ℕ, zero, suc, ◌+◌, ◌*◌, ◌/◌, ◌^◌, ◌≤◌, ◌<◌}
use native.Mathlib.Omega.{arith}
use lib.Ieee.{Float, round, mul, of_int, to_unsigned}
use Rattle.floats.specs.Floor.{floor}
use Rattle.rates.specs.Numbers.{floor_quantile, level_quantile}
use Rattle.rates.specs.Rates.{index_at, fifth_of, nine_tenths_of}
use Rattle.rates.proofs.Between.{Factor, whole_lies, times_lies, floored}

floor-value : Factor floor_quantile 3602879701896397 (2 ^ 54)
unfolding round
floor-value = record { over_zero = omega arith; value = (refl, refl) }

level-value : Factor level_quantile 8106479329266893 (2 ^ 53)
unfolding round
level-value = record { over_zero = omega arith; value = (refl, refl) }

-- n * q lies between l and l + 1 of 1,024, where k is the whole part
index_is : {q : Float} {a c : ℕ} → Factor q a c → (n l k : ℕ)
    → (0 < n) × (n ≤ 2 ^ 40) × (0 < l) × (l < 2 ^ 52) × (l * c ≤ 1024 * n * a) × (1024 * n * a ≤ (l + 1) * c) × (1024 * k ≤ l) × (l + 1 < 1024 * suc k) → index_at q n ≡ k
index_is f n l k s =
    floored (times_lies (whole_lies n (omega arith)) f l (l + 1) (s.2, omega arith, omega arith, s.4, s.5)) k (omega arith, s.6, s.7)

pub fifth_is : (n : ℕ) → n ≤ 2 ^ 40 → fifth_of n ≡ n / 5
unfolding fifth_of of_int round mul floor to_unsigned
fifth_is zero M = refl
fifth_is (suc m) M = go (suc m) (omega arith) M
  where
    go : (n : ℕ) → 0 < n → n ≤ 2 ^ 40 → index_at floor_quantile n ≡ n / 5
    go n N M = index_is floor-value n (1024 * n / 5) (n / 5) (omega arith)

pub nine-tenths_is : (n : ℕ) → n ≤ 2 ^ 40 → nine_tenths_of n ≡ 9 * n / 10
unfolding nine_tenths_of of_int round mul floor to_unsigned
nine-tenths_is zero M = refl
nine-tenths_is (suc m) M = go (suc m) (omega arith) M
  where
    go : (n : ℕ) → 0 < n → n ≤ 2 ^ 40 → index_at level_quantile n ≡ 9 * n / 10
    go n N M = index_is level-value n (9216 * n / 10) (9 * n / 10) (omega arith)

pub fifth_lt : (n : ℕ) → 0 < n → n ≤ 2 ^ 40 → fifth_of n < n
fifth_lt n N M = subst (λ (k : ℕ). k < n) (sym (fifth_is n M)) (omega arith)

pub nine-tenths-lt : (n : ℕ) → 0 < n → n ≤ 2 ^ 40 → nine_tenths_of n < n
nine-tenths-lt n N M = subst (λ (k : ℕ). k < n) (sym (nine-tenths_is n M)) (omega arith)
