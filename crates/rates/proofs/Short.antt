-- A fraction next to a half of a whole number is rounded to it: a product with a constant that is no float, as 0.3, comes out exact where the true product has few digits. Assumes nothing.
use mathlib.Core.Path.{◌≡◌, sym, ap, ◌∙◌, subst}
use mathlib.Core.Bool.{false}
use Prim.Native.Nat.{ℕ, suc, ◌+◌, ◌-◌, ◌*◌, ◌/◌, ◌^◌, ◌≤◌, ◌<◌}
use native.Mathlib.Nat.{le_trans, le_of_eq, lt_of_lt_of_le, mul_assoc, mul_comm, mul_right_comm, add-mul, suc-mul, mul-pos, mul-le-mul_right, mul-lt-mul_of_pos_right, lt_of_mul-lt-mul_right, eq_of_mul-eq-mul_right, div-lt_iff_lt-mul, le_antisymm}
use native.Mathlib.Omega.{arith}
use lib.Dec.{lit≤}
use lib.Pow.{pow-add, pow_pos, pow_mono, shl_lt}
use lib.Ieee.{Float, nan, inf, fin, binary64, up, down, size, round}
use lib.Ieee.Digits.{size-le, size-lt}
use lib.Ieee.Exact.{HasValue}
use lib.Ieee.Nearest.{closest}
use lib.Ieee.Order.{drop}
use lib.Ieee.Scale.{grid, round_val}
use Rattle.rates.proofs.Near.{closest_near}

-- what is nearer to n / u than a half is the nearest whole number
closest_is : (n u z : ℕ) → 0 < u → z * u * 2 < n * 2 + u → n * 2 < z * u * 2 + u → closest n u ≡ z
closest_is n u z U h k =
    let c = closest n u in
    let near = closest_near n u U in
    le_antisymm (less c z (lt_of_mul-lt-mul_right u (one-off (c * u) (z * u) n near.0 k (suc-mul z u))))
    (less z c (lt_of_mul-lt-mul_right u (off-one (c * u) (z * u) n near.1 h (suc-mul c u))))
  where
    less : (a b : ℕ) → a < suc b → a ≤ b
    less a b h = omega arith

    one-off : (p q n : ℕ) → p * 2 ≤ n * 2 + u → n * 2 < q * 2 + u → suc z * u ≡ q + u → p < suc z * u
    one-off p q n a b e = omega arith

    off-one : (p q n : ℕ) → n * 2 ≤ p * 2 + u → q * 2 < n * 2 + u → suc (closest n u) * u ≡ p + u → q < suc (closest n u) * u
    off-one p q n a b e = omega arith

-- in halves, from units
halves : (x : Float) (y : ℕ) → HasValue x false (y * 2 ^ 1073) (2 ^ 1074) → HasValue x false y 2
halves nan y h = absurd h
halves (inf s) y h = absurd h
halves (fin s m e) y h = (
  h.0,
  eq_of_mul-eq-mul_right (2 ^ 1073) (pow_pos 1073) (m * up e * 2) (y * down e) (mul_assoc (m * up e) 2 (2 ^ 1073) ∙ h.1 ∙ mul_right_comm y (2 ^ 1073) (down e)),
)

-- a / c is y / 2 but for at most one part in 2^54
module _ (a c y : ℕ) (C : 0 < c) (small : a < 2 ^ 52 * c) (few : y < 2 ^ 53) (above : 2 ^ 54 * (y * c) ≤ 2 ^ 54 * (2 * a) + 2 * a) (below : 2 ^ 54 * (2 * a) ≤ 2 ^ 54 * (y * c) + 2 * a) where
  abbrev n : ℕ
  n = a * 2 ^ 1074

  abbrev k : ℕ
  k = drop 53 (a * 2 ^ 1074) c

  abbrev u : ℕ
  u = c * 2 ^ drop 53 (a * 2 ^ 1074) c

  low-digits : k ≤ 1073
  low-digits = go (size (n / c)) (size-le (n / c) 1126 ((div-lt_iff_lt-mul C).1 (lt_of_lt_of_le (mul-lt-mul_of_pos_right small (pow_pos 1074)) (le_of_eq (mul_right_comm (2 ^ 52) c (2 ^ 1074))))))
    where
      go : (z : ℕ) → z ≤ 1126 → z - 53 ≤ 1073
      go z h = omega arith

  in_units : n < u * 2 ^ 53
  in_units =
      lt_of_lt_of_le ((div-lt_iff_lt-mul C).0 (lt_of_lt_of_le (size-lt (n / c)) (pow_mono (go (size (n / c))))))
      (le_of_eq (ap (λ (z : ℕ). z * c) (pow-add 2 k 53) ∙ mul_comm (2 ^ k * 2 ^ 53) c ∙ sym (mul_assoc c (2 ^ k) (2 ^ 53))))
    where
      go : (z : ℕ) → z ≤ z - 53 + 53
      go z = omega arith

  moved : y * 2 ^ (1073 - k) * 2 ^ k ≡ y * 2 ^ 1073
  moved = mul_assoc y (2 ^ (1073 - k)) (2 ^ k) ∙ ap (λ (z : ℕ). y * z) (sym (pow-add 2 (1073 - k) k) ∙ ap (λ (z : ℕ). 2 ^ z) (go k low-digits))
    where
      go : (k : ℕ) → k ≤ 1073 → 1073 - k + k ≡ 1073
      go k h = omega arith

  in_place : y * 2 ^ (1073 - k) * u ≡ y * c * 2 ^ 1073
  in_place =
      ap (λ (z : ℕ). y * 2 ^ (1073 - k) * z) (mul_comm c (2 ^ k)) ∙ sym (mul_assoc (y * 2 ^ (1073 - k)) (2 ^ k) c)
      ∙ ap (λ (z : ℕ). z * c) moved ∙ mul_right_comm y (2 ^ 1073) c

  scaled : (p q r : ℕ) → 2 ^ 54 * p ≤ 2 ^ 54 * q + r → 2 ^ 54 * (p * 2 ^ 1073) ≤ 2 ^ 54 * (q * 2 ^ 1073) + r * 2 ^ 1073
  scaled p q r h =
      le_trans (le_of_eq (sym (mul_assoc (2 ^ 54) p (2 ^ 1073))))
      (le_trans (mul-le-mul_right (2 ^ 1073) h) (le_of_eq (add-mul (2 ^ 54 * q) r (2 ^ 1073) ∙ ap (λ (z : ℕ). z + r * 2 ^ 1073) (mul_assoc (2 ^ 54) q (2 ^ 1073)))))

  whole : n ≡ 2 * a * 2 ^ 1073
  whole = sym (mul_assoc a 2 (2 ^ 1073)) ∙ ap (λ (z : ℕ). z * 2 ^ 1073) (mul_comm a 2)

  nearest_is : closest n u ≡ y * 2 ^ (1073 - k)
  nearest_is =
      closest_is n u (y * 2 ^ (1073 - k)) (mul-pos C (pow_pos k))
      (up_to (y * 2 ^ (1073 - k) * u) (y * c * 2 ^ 1073) (2 * a * 2 ^ 1073) n u in_place whole (scaled (y * c) (2 * a) (2 * a) above) in_units)
      (down_to (y * 2 ^ (1073 - k) * u) (y * c * 2 ^ 1073) (2 * a * 2 ^ 1073) n u in_place whole (scaled (2 * a) (y * c) (2 * a) below) in_units)
    where
      up_to : (v w m n u : ℕ) → v ≡ w → n ≡ m → 2 ^ 54 * w ≤ 2 ^ 54 * m + m → n < u * 2 ^ 53 → v * 2 < n * 2 + u
      up_to v w m n u p q r s = omega arith

      down_to : (v w m n u : ℕ) → v ≡ w → n ≡ m → 2 ^ 54 * m ≤ 2 ^ 54 * w + m → n < u * 2 ^ 53 → n * 2 < v * 2 + u
      down_to v w m n u p q r s = omega arith

  grid_is : grid binary64 a c ≡ y * 2 ^ 1073
  grid_is = ap (λ (z : ℕ). z * 2 ^ k) nearest_is ∙ moved

  pub short : HasValue (round binary64 false a c) false y 2
  short =
      halves (round binary64 false a c) y
      (subst (λ (g : ℕ). HasValue (round binary64 false a c) false g (2 ^ 1074)) grid_is
      (round_val binary64 a c (subst (λ (g : ℕ). g < 2 ^ 2098) (sym grid_is) (lt_of_lt_of_le (shl_lt 53 1073 few) (lit≤ tt)))))
