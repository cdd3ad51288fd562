-- Binary digits: of a sum over GF(2), of a double, of a remainder by a power of two, and the number that they stand for. Assumes nothing.
use mathlib.Core.Path.{◌≡◌, refl, sym, ap, ap₂, ◌∙◌}
use mathlib.Core.Bool.{Bool, true, false, not, cond}
use mathlib.Core.List.{List, [], ◌∷◌, ◌++◌, map}
use Prim.Native.Nat.{ℕ, zero, suc, ◌+◌, ◌-◌, ◌*◌, ◌/◌, ◌%◌, ◌^◌, ◌≤◌, ◌<◌}
use native.Mathlib.Nat.{mod-lt, add_comm, le_of_suc-le-suc, not-suc-le-zero, pow-suc}
use native.Mathlib.Omega.{arith}
use native.Mathlib.Numerals.{add-one}
use lib.Bits.{bit_xor, xor_shr, xor_mod}
use lib.Dec.{eqb}
use lib.Pow.{field, mod-mod-pow, shr-shr, shl-shr, mod-pow-add}
use lib.ListN.{length}
use borrow.Author.Tests.{ne_eqb}
use Rattle.coding.specs.Bits.{plus, odd, digits, value}
use Rattle.coding.specs.Crc.{onto}

bit_xor_units : (x y : ℕ) → x < 2 → y < 2 → eqb (bit_xor x y) 1 ≡ plus (eqb x 1) (eqb y 1)
bit_xor_units zero zero h k = refl
bit_xor_units zero (suc zero) h k = refl
bit_xor_units (suc zero) zero h k = refl
bit_xor_units (suc zero) (suc zero) h k = refl
bit_xor_units zero (suc (suc y)) h k = absurd (not-suc-le-zero (le_of_suc-le-suc (le_of_suc-le-suc k)))
bit_xor_units (suc zero) (suc (suc y)) h k = absurd (not-suc-le-zero (le_of_suc-le-suc (le_of_suc-le-suc k)))
bit_xor_units (suc (suc x)) y h k = absurd (not-suc-le-zero (le_of_suc-le-suc (le_of_suc-le-suc h)))

two_pos : zero < 2
two_pos = omega arith

pub odd_xor : (a b : ℕ) → odd (bit_xor a b) ≡ plus (odd a) (odd b)
odd_xor a b = ap (λ (x : ℕ). eqb x 1) (xor_mod a b 1) ∙ bit_xor_units (a % 2) (b % 2) (mod-lt a two_pos) (mod-lt b two_pos)

pub digits_xor : (n a b : ℕ) → digits n (bit_xor a b) ≡ onto (digits n a) (digits n b)
unfolding digits onto
digits_xor zero a b = refl
digits_xor (suc n) a b = ap₂ ◌∷◌ (ap odd (xor_shr a b n) ∙ odd_xor (a / 2 ^ n) (b / 2 ^ n)) (digits_xor n a b)

halved : (x n : ℕ) → x * 2 / 2 ^ suc n ≡ x / 2 ^ n
halved x n = ap (λ (k : ℕ). x * 2 / 2 ^ k) (sym (add-one n) ∙ add_comm n 1) ∙ sym (shr-shr (x * 2) 1 n) ∙ ap (λ (y : ℕ). y / 2 ^ n) (shl-shr x 1)

pub digits_double : (n x : ℕ) → digits (suc n) (x * 2) ≡ digits n x ++ (false ∷ [])
unfolding digits
digits_double zero x = ap (λ (b : Bool). b ∷ []) (ne_eqb (x * 2 / 1 % 2) 1 (λ e. omega arith))
digits_double (suc n) x = ap₂ ◌∷◌ (ap odd (halved x n)) (digits_double n x)

odd-mod : (x j n : ℕ) → odd (x % 2 ^ (suc j + n) / 2 ^ n) ≡ odd (x / 2 ^ n)
odd-mod x j n = ap odd (field x (suc j) n) ∙ ap (λ (k : ℕ). odd (x / 2 ^ n % 2 ^ k)) (sym (add-one j)) ∙ ap (λ (y : ℕ). eqb y 1) (mod-mod-pow (x / 2 ^ n) j 1)

pub digits_mod : (m n x : ℕ) → n ≤ m → digits n (x % 2 ^ m) ≡ digits n x
unfolding digits
digits_mod m zero x h = refl
digits_mod m (suc n) x h =
    let e : suc (m - suc n) + n ≡ m = omega arith in
    ap₂ ◌∷◌ (ap (λ (k : ℕ). odd (x % 2 ^ k / 2 ^ n)) (sym e) ∙ odd-mod x (m - suc n) n) (digits_mod m n x (omega arith))

pub length_digits : (n x : ℕ) → length (digits n x) ≡ n
unfolding digits
length_digits zero x = refl
length_digits (suc n) x = ap suc (length_digits n x)

as_number : (y k : ℕ) → cond (odd y) k 0 ≡ y % 2 * k
as_number y k = go (y % 2) (mod-lt y two_pos)
  where
    go : (r : ℕ) → r < 2 → cond (eqb r 1) k 0 ≡ r * k
    go zero h = omega arith
    go (suc zero) h = omega arith
    go (suc (suc r)) h = absurd (not-suc-le-zero (le_of_suc-le-suc (le_of_suc-le-suc h)))

pub value-digits : (n x : ℕ) → value (digits n x) ≡ x % 2 ^ n
unfolding value digits
value-digits zero x = omega arith
value-digits (suc n) x =
    ap₂ ◌+◌ (ap (λ (k : ℕ). cond (odd (x / 2 ^ n)) (2 ^ k) 0) (length_digits n x) ∙ as_number (x / 2 ^ n) (2 ^ n)) (value-digits n x)
    ∙ sym (mod-pow-add x 1 n) ∙ ap (λ (k : ℕ). x % 2 ^ k) (add_comm 1 n ∙ add-one n)

length-map : (l : List Bool) → length (map not l) ≡ length l
length-map [] = refl
length-map (b ∷ l) = ap suc (length-map l)

pub value_not : (l : List Bool) → value (map not l) + value l + 1 ≡ 2 ^ length l
unfolding value
value_not [] = refl
value_not (true ∷ l) = let h = value_not l in omega (arith, pow-suc 2 (length l))
value_not (false ∷ l) = let h = value_not l in omega (arith, pow-suc 2 (length l), ap (λ (k : ℕ). 2 ^ k) (length-map l))
