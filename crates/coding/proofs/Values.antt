-- The number that bits stand for: of one bit more, of two lists together, and its bound. Assumes nothing.
use mathlib.Core.Path.{◌≡◌, refl, sym, ap, ap₂, ◌∙◌}
use mathlib.Core.Bool.{Bool, true, false, cond}
use mathlib.Core.List.{List, [], ◌∷◌, ◌++◌, map}
use Prim.Native.Nat.{ℕ, ◌+◌, ◌*◌, ◌/◌, ◌%◌, ◌^◌, ◌≤◌, ◌<◌}
use native.Mathlib.Nat.{add-mul, add_assoc, pow-suc, mod-eq_of_lt}
use native.Mathlib.Omega.{arith}
use native.Mathlib.Numerals.{add-one}
use lib.Pow.{pow-add, pow_mono, high, low}
use lib.ListN.{length, take, get_or, length-append, get_or-map}
use lib.Seq.{take-suc, length-take-le}
use Rattle.coding.specs.Bits.{odd, bit_of, digits, value, are_bits}
use Rattle.coding.proofs.BitLaws.{bit-odd, odd-bit, bit_at}
use Rattle.coding.proofs.Digits.{digits_mod}

pub value_snoc : (l : List Bool) (b : Bool) → value (l ++ (b ∷ [])) ≡ value l * 2 + bit_of b
unfolding value
value_snoc [] true = refl
value_snoc [] false = refl
value_snoc (true ∷ l) b = omega (arith, value_snoc l b, ap (λ (k : ℕ). 2 ^ k) (length-append l (b ∷ []) ∙ add-one (length l)), pow-suc 2 (length l))
value_snoc (false ∷ l) b = omega (arith, value_snoc l b)

pub value-lt : (l : List Bool) → value l < 2 ^ length l
unfolding value
value-lt [] = omega arith
value-lt (true ∷ l) = omega (arith, value-lt l, pow-suc 2 (length l))
value-lt (false ∷ l) = omega (arith, value-lt l, pow-suc 2 (length l))

pub value-append : (a b : List Bool) → value (a ++ b) ≡ value a * 2 ^ length b + value b
unfolding value
value-append [] b = omega arith
value-append (x ∷ a) b =
    ap₂ ◌+◌ (head x) (value-append a b)
    ∙ sym (add_assoc (cond x (2 ^ length a) 0 * 2 ^ length b) (value a * 2 ^ length b) (value b))
    ∙ ap (λ (n : ℕ). n + value b) (sym (add-mul (cond x (2 ^ length a) 0) (value a) (2 ^ length b)))
  where
    head : (y : Bool) → cond y (2 ^ length (a ++ b)) 0 ≡ cond y (2 ^ length a) 0 * 2 ^ length b
    head true = ap (λ (n : ℕ). 2 ^ n) (length-append a b) ∙ pow-add 2 (length a) (length b)
    head false = omega arith

-- the number of the first n bits, and of one bit more
pub value-below : (z : List Bool) (n m : ℕ) → n ≤ m → n ≤ length z → value (take n z) < 2 ^ m
value-below z n m h k =
    omega (arith, value-lt (take n z), ap (λ (i : ℕ). 2 ^ i) (length-take-le n z k), pow_mono {i = n} {j = m} h)

pub value-next : (z : List Bool) (n : ℕ) → n < length z → value (take (n + 1) z) ≡ value (take n z) * 2 + bit_of (get_or z n false)
value-next z n h =
    ap (λ (k : ℕ). value (take k z)) (add-one n) ∙ ap value (take-suc z n false h) ∙ value_snoc (take n z) (get_or z n false)

-- a byte that is a bit is the number of its bit
pub bit_of_lem : (l : List ℕ) (i : ℕ) → are_bits l ≡ true → get_or l i 0 ≡ bit_of (get_or (map odd l) i false)
bit_of_lem l i h = sym (mod-eq_of_lt (bit_at l i h)) ∙ sym (bit-odd (get_or l i 0)) ∙ ap bit_of (sym (get_or-map odd l i 0))

-- the digits of the number that bits stand for
as_bit : (k : ℕ) (b : Bool) → cond b k 0 ≡ bit_of b * k
as_bit k true = omega arith
as_bit k false = omega arith

pub digits_value : (l : List Bool) → digits (length l) (value l) ≡ l
unfolding digits value
digits_value [] = refl
digits_value (b ∷ l) =
    let n = length l in
    let v = value l in
    let e = ap (λ (x : ℕ). x + v) (as_bit (2 ^ n) b) in
    ap₂ ◌∷◌ (ap odd (ap (λ (x : ℕ). x / 2 ^ n) e ∙ high (bit_of b) n (value-lt l)) ∙ odd-bit b)
    (sym (digits_mod n n (cond b (2 ^ n) 0 + v) (omega arith)) ∙ ap (digits n) (ap (λ (x : ℕ). x % 2 ^ n) e ∙ low (bit_of b) n (value-lt l)) ∙ digits_value l)
