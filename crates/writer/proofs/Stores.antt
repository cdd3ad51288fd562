-- The turns of the loops that store bits. Assumes nothing.
use mathlib.Core.Path.{◌≡◌, refl, sym, ap, ap₂, ◌∙◌}
use mathlib.Core.Bool.{Bool}
use mathlib.Core.List.{List, [], ◌∷◌, ◌++◌, map, append-nil}
use Prim.Native.Nat.{ℕ, suc, ◌+◌, ◌-◌, ◌*◌, ◌/◌, ◌%◌, ◌^◌, ◌≤◌, ◌<◌}
use native.Mathlib.Omega.{arith}
use native.Mathlib.Nat.{sub-zero}
use native.Mathlib.Numerals.{add-one}
use lib.ListN.{length, take, drop, get_or, set, drop_of_length-le, length-drop}
use lib.Seq.{sets, sets-eq, drop-cons, length-take-le}
use borrow.Rule.Slice.PartMut.{put_mid}
use Rattle.coding.specs.Bits.{bit_of, digits, bytes_bits}
use Rattle.coding.proofs.BitLaws.{bit-odd}
use Rattle.coding.proofs.Digits.{length_digits}
use Rattle.frame.proofs.CopyLaws.{sets_then, part_put}

pub length-map-bits : (l : List Bool) → length (map bit_of l) ≡ length l
length-map-bits [] = refl
length-map-bits (b ∷ l) = ap suc (length-map-bits l)

-- ---- the digits of a number: those that are left, stored from here on, make the whole

module _ (out : List ℕ) (n x i : ℕ) where
  pub digit-turn : (v k : ℕ) → i < n → k ≡ n - 1 - i → v ≡ x / 2 ^ k % 2
      → sets (set out i v) (i + 1) (map bit_of (digits (n - (i + 1)) x)) ≡ sets out i (map bit_of (digits (n - i) x))
  unfolding digits
  digit-turn v k h d e =
      let m : n - i ≡ suc k = omega arith in
      let l : n - (i + 1) ≡ k = omega arith in
      ap₂ (λ (j q : ℕ). sets (set out i v) j (map bit_of (digits q x))) (add-one i) l
      ∙ ap (λ (b : ℕ). sets (set out i b) (suc i) (map bit_of (digits k x))) (e ∙ sym (bit-odd (x / 2 ^ k)))
      ∙ ap (λ (q : ℕ). sets out i (map bit_of (digits q x))) (sym m)

  pub digit_end : n ≤ i → sets out i (map bit_of (digits (n - i) x)) ≡ out
  unfolding digits
  digit_end h = ap (λ (q : ℕ). sets out i (map bit_of (digits q x))) (let e : n - i ≡ 0 = omega arith in e)

pub digit_start : (out : List ℕ) (x : ℕ) → sets out 0 (map bit_of (digits (length out - 0) x)) ≡ map bit_of (digits (length out) x)
digit_start out x =
    let d = map bit_of (digits (length out) x) in
    let e : length d ≡ length out = length-map-bits (digits (length out) x) ∙ length_digits (length out) x in
    ap (λ (q : ℕ). sets out 0 (map bit_of (digits q x))) (sub-zero (length out))
    ∙ sets-eq d out 0 (omega arith) ∙ ap (λ (l : List ℕ). d ++ l) (drop_of_length-le out {i = 0 + length d} (omega arith)) ∙ append-nil d

-- digits stored in a part
pub part_digits : (out new : List ℕ) (at n x : ℕ) → at + n ≤ length out → new ≡ map bit_of (digits (length (take (at + n - at) (drop at out))) x)
    → put_mid at (at + n - at) out new ≡ sets out at (map bit_of (digits n x))
part_digits out new at n x h e =
    let m = at + n - at in
    let k : m ≡ n = omega arith in
    let j : length (take m (drop at out)) ≡ n = length-take-le m (drop at out) (omega (arith, length-drop at out)) ∙ k in
    part_put at n out new (map bit_of (digits n x)) (e ∙ ap (λ (i : ℕ). map bit_of (digits i x)) j) (length-map-bits (digits n x) ∙ length_digits n x) h

-- ---- the bits of bytes

map-append : (a b : List Bool) → map bit_of (a ++ b) ≡ map bit_of a ++ map bit_of b
map-append [] b = refl
map-append (x ∷ a) b = ap (λ (l : List ℕ). bit_of x ∷ l) (map-append a b)

pub byte-turn : (out next bytes : List ℕ) (i : ℕ) → i < length bytes → next ≡ sets out (8 * i) (map bit_of (digits 8 (get_or bytes i 0)))
    → sets next (8 * (i + 1)) (map bit_of (bytes_bits (drop (i + 1) bytes))) ≡ sets out (8 * i) (map bit_of (bytes_bits (drop i bytes)))
unfolding bytes_bits
byte-turn out next bytes i h e =
    let b = get_or bytes i 0 in
    let d = map bit_of (digits 8 b) in
    let n : length d ≡ 8 = length-map-bits (digits 8 b) ∙ length_digits 8 b in
    ap₂ (λ (l : List ℕ) (j : ℕ). sets l (8 * (i + 1)) (map bit_of (bytes_bits (drop j bytes)))) e (add-one i)
    ∙ sets_then out (8 * i) d (map bit_of (bytes_bits (drop (suc i) bytes))) (8 * (i + 1)) (omega arith)
    ∙ ap (sets out (8 * i)) (sym (map-append (digits 8 b) (bytes_bits (drop (suc i) bytes))))
    ∙ ap (λ (l : List ℕ). sets out (8 * i) (map bit_of (bytes_bits l))) (sym (drop-cons bytes i 0 h))

pub byte_end : (out bytes : List ℕ) (i : ℕ) → length bytes ≤ i → sets out (8 * i) (map bit_of (bytes_bits (drop i bytes))) ≡ out
unfolding bytes_bits
byte_end out bytes i h = ap (λ (l : List ℕ). sets out (8 * i) (map bit_of (bytes_bits l))) (drop_of_length-le bytes {i = i} h)

-- two lists of bits, one after the other
pub bits_then : (l : List ℕ) (at : ℕ) (a b : List Bool) (k : ℕ) → k ≡ at + length a → sets (sets l at (map bit_of a)) k (map bit_of b) ≡ sets l at (map bit_of (a ++ b))
bits_then l at a b k e =
    sets_then l at (map bit_of a) (map bit_of b) k (omega (arith, length-map-bits a)) ∙ ap (sets l at) (sym (map-append a b))
