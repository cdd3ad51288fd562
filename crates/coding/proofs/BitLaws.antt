-- Bits as numbers, and lists of bit bytes passed one by one. Assumes nothing.
use mathlib.Core.Path.{◌≡◌, refl, sym, ap, ◌∙◌}
use mathlib.Core.Bool.{Bool, true, false, cond, ◌&&◌}
use mathlib.Core.List.{List, [], ◌∷◌, map}
use Prim.Native.Nat.{ℕ, zero, suc, ◌+◌, ◌%◌, ◌≤◌, ◌<◌}
use native.Mathlib.Nat.{mod-add-mod, add-mod-mod}
use native.Mathlib.Omega.{arith}
use native.Mathlib.Numerals.{add-one}
use lib.Dec.{eqb, leb}
use lib.ListN.{length, drop, get_or}
use lib.Seq.{drop-cons, drop-length}
use borrow.Author.Tests.{leb-true}
use Rattle.limits.proofs.Samples.{and_assoc, and_true, and_right}
use Rattle.coding.specs.Bits.{plus, odd, bit_of, are_bits}

sum_below : (x y : ℕ) → x < 2 → y < 2 → odd (x + y) ≡ plus (eqb x 1) (eqb y 1)
sum_below zero zero h k = refl
sum_below zero (suc zero) h k = refl
sum_below (suc zero) zero h k = refl
sum_below (suc zero) (suc zero) h k = refl
sum_below zero (suc (suc y)) h k = absurd (omega arith)
sum_below (suc zero) (suc (suc y)) h k = absurd (omega arith)
sum_below (suc (suc x)) y h k = absurd (omega arith)

pub odd-sum : (a b : ℕ) → odd (a + b) ≡ plus (odd a) (odd b)
odd-sum a b =
    ap (λ (x : ℕ). eqb x 1) (sym (mod-add-mod a 2 b) ∙ sym (add-mod-mod (a % 2) b 2))
    ∙ sum_below (a % 2) (b % 2) (omega arith) (omega arith)

pub bit-odd : (x : ℕ) → bit_of (odd x) ≡ x % 2
bit-odd x = go (x % 2) (omega arith)
  where
    go : (r : ℕ) → r < 2 → cond (eqb r 1) 1 0 ≡ r
    go zero h = refl
    go (suc zero) h = refl
    go (suc (suc r)) h = absurd (omega arith)

pub odd-bit : (b : Bool) → odd (bit_of b) ≡ b
odd-bit true = refl
odd-bit false = refl

pub bit-lt : (b : Bool) → bit_of b < 2
bit-lt true = omega arith
bit-lt false = omega arith

pub plus-false : (a : Bool) → plus a false ≡ a
plus-false true = refl
plus-false false = refl

pub plus-twice : (a t : Bool) → plus (plus a t) t ≡ a
plus-twice true true = refl
plus-twice true false = refl
plus-twice false true = refl
plus-twice false false = refl

-- ---- bit bytes, passed one by one

-- a turn of the loop that looks at each, and its end
pub bits-turn : (ok : Bool) (l : List ℕ) (i : ℕ) (w : Bool) → i < length l → ok && are_bits (drop i l) ≡ w
    → (ok && leb (get_or l i 0) 1) && are_bits (drop (i + 1) l) ≡ w
unfolding are_bits
bits-turn ok l i w h p = rw (add-one i) (and_assoc ok (leb (get_or l i 0) 1) (are_bits (drop (suc i) l)) ∙ rw (drop-cons l i 0 h) at p)

pub bits_end : (ok : Bool) (l : List ℕ) (i : ℕ) (w : Bool) → i ≡ length l → ok && are_bits (drop i l) ≡ w → ok ≡ w
unfolding are_bits
bits_end ok l i w e p = sym (and_true ok) ∙ rw (e, drop-length l) at p

pub bit_at : (l : List ℕ) (i : ℕ) → are_bits l ≡ true → get_or l i 0 < 2
unfolding are_bits
bit_at [] i h = omega arith
bit_at (b ∷ l) zero h = first (leb b 1) (are_bits l) (leb-true b 1) h
  where
    first : (x y : Bool) → (x ≡ true → b ≤ 1) → x && y ≡ true → b < 2
    first true y f e = omega (arith, f refl)
    first false y f e = omega (arith, f e)
bit_at (b ∷ l) (suc i) h = bit_at l i (and_right (leb b 1) (are_bits l) h)

-- a part of bit bytes is one
pub bits-drop : (n : ℕ) (l : List ℕ) → are_bits l ≡ true → are_bits (drop n l) ≡ true
unfolding are_bits
bits-drop zero l h = h
bits-drop (suc n) [] h = h
bits-drop (suc n) (b ∷ l) h = bits-drop n l (and_right (leb b 1) (are_bits l) h)

pub length-map-odd : (l : List ℕ) → length (map odd l) ≡ length l
length-map-odd [] = refl
length-map-odd (b ∷ l) = ap suc (length-map-odd l)
