-- Long division does divide: the dividend is the quotient times the divisor plus the remainder, over GF(2), and no other remainder is. Assumes nothing.
use mathlib.Core.Path.{◌≡◌, refl, sym, ap, ap₂, ◌∙◌}
use mathlib.Core.Bool.{Bool, true, false}
use mathlib.Core.List.{List, [], ◌∷◌, ◌++◌}
use Prim.Native.Nat.{ℕ, zero, suc, ◌+◌, ◌≤◌}
use native.Mathlib.Omega.{arith}
use lib.ListN.{length, replicate, length-append}
use Rattle.coding.specs.Bits.{plus}
use Rattle.coding.specs.Crc.{onto, divisor, remainder, quotient, times, product, shifted, crc_remainder}
use Rattle.coding.proofs.Division.{onto_assoc, zeros-onto, sixteen}

length-onto : (d p : List Bool) → length (onto d p) ≡ length p
unfolding onto
length-onto [] p = refl
length-onto (a ∷ d) [] = refl
length-onto (a ∷ d) (b ∷ p) = ap suc (length-onto d p)

plus-self : (a b : Bool) → plus a (plus a b) ≡ b
plus-self true true = refl
plus-self true false = refl
plus-self false b = refl

onto-twice : (d p : List Bool) → onto d (onto d p) ≡ p
unfolding onto
onto-twice [] p = refl
onto-twice (a ∷ d) [] = refl
onto-twice (a ∷ d) (b ∷ p) = ap₂ ◌∷◌ (plus-self a b) (onto-twice d p)

length-product : (q : List Bool) → length (product q) ≡ length q + 16
unfolding product
length-product [] = refl
length-product (b ∷ q) = length-onto (times b) (false ∷ product q) ∙ ap suc (length-product q) ∙ (let z : suc (length q + 16) ≡ suc (length q) + 16 = omega arith in z)

length-quotient : (n : ℕ) (p : List Bool) → length p ≡ n + 16 → length (quotient n p) ≡ n
unfolding quotient
length-quotient zero p h = refl
length-quotient (suc n) [] h = absurd (omega arith)
length-quotient (suc n) (false ∷ p) h = ap suc (length-quotient n p (omega arith))
length-quotient (suc n) (true ∷ p) h = ap suc (length-quotient n (onto divisor p) (omega (arith, length-onto divisor p)))

times-le : (b : Bool) → length (times b) ≤ 17
times-le true = omega (arith, sixteen)
times-le false = omega arith

-- the dividend is quotient times divisor, plus the remainder
pub divided : (n : ℕ) (p : List Bool) → length p ≡ n + 16 → p ≡ onto (product (quotient n p)) (replicate n false ++ remainder n p)
unfolding quotient remainder product onto
divided zero p h = sym (zeros-onto 16 p)
divided (suc n) [] h = absurd (omega arith)
divided (suc n) (false ∷ p) h = ap (λ (l : List Bool). false ∷ l) (divided n p (omega arith))
divided (suc n) (true ∷ p) h =
    let m = onto divisor p in
    let l : length m ≡ n + 16 = omega (arith, length-onto divisor p) in
    let q = quotient n m in
    ap (λ (x : List Bool). true ∷ x) (sym (onto-twice divisor p))
    ∙ ap (λ (x : List Bool). onto (true ∷ divisor) (false ∷ x)) (divided n m l)
    ∙ onto_assoc (true ∷ divisor) (false ∷ product q) (false ∷ (replicate n false ++ remainder n m))
    (omega (arith, times-le true, length-product q))

length-remainder : (n : ℕ) (p : List Bool) → length p ≡ n + 16 → length (remainder n p) ≡ 16
unfolding remainder
length-remainder zero p h = omega arith
length-remainder (suc n) [] h = absurd (omega arith)
length-remainder (suc n) (false ∷ p) h = length-remainder n p (omega arith)
length-remainder (suc n) (true ∷ p) h = length-remainder n (onto divisor p) (omega (arith, length-onto divisor p))

-- the division is the only one: what is left of a multiple of the divisor and 16 coefficients are these
pub remainder_only : (q r : List Bool) → remainder (length q) (onto (product q) (replicate (length q) false ++ r)) ≡ r
unfolding remainder product onto
remainder_only [] r = zeros-onto 16 r
remainder_only (false ∷ q) r = remainder_only q r
remainder_only (true ∷ q) r =
    let z = replicate (length q) false ++ r in
    ap (remainder (length q))
    (onto_assoc divisor (onto divisor (product q)) z (omega (arith, sixteen, length-onto divisor (product q), length-product q))
    ∙ ap (λ (p : List Bool). onto p z) (onto-twice divisor (product q)))
    ∙ remainder_only q r

-- the message times x^16 is a multiple of the divisor plus the CRC's remainder, of 16 coefficients
pub crc_divides : (m : List Bool)
    → (shifted m ≡ onto (product (quotient (length m) (shifted m))) (replicate (length m) false ++ crc_remainder m)) × (length (crc_remainder m) ≡ 16)
unfolding crc_remainder
crc_divides m =
    let h : length (shifted m) ≡ length m + 16 = length-append m (replicate 16 false) in
    (divided (length m) (shifted m) h, length-remainder (length m) (shifted m) h)

-- and no other remainder does
pub crc_unique : (m q r : List Bool) → length q ≡ length m → shifted m ≡ onto (product q) (replicate (length q) false ++ r) → r ≡ crc_remainder m
unfolding crc_remainder
crc_unique m q r h e = sym (remainder_only q r) ∙ ap₂ (λ (n : ℕ) (p : List Bool). remainder n p) h (sym e)
