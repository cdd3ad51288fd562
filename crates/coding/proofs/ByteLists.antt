-- Bytes as bits and back, for any list of bytes and any list of bits. Assumes nothing.
use mathlib.Core.Path.{◌≡◌, refl, sym, ap, ap₂, ◌∙◌}
use mathlib.Core.Bool.{Bool, true, false}
use mathlib.Core.List.{List, [], ◌∷◌, ◌++◌}
use Prim.Native.Nat.{ℕ, zero, suc, ◌+◌, ◌*◌, ◌^◌, ◌≤◌, ◌<◌}
use native.Mathlib.Nat.{mod-eq_of_lt}
use native.Mathlib.Omega.{arith}
use lib.Dec.{leb}
use lib.Pow.{pow_mono}
use lib.ListN.{length, take, drop, get_or, length-append, length-drop}
use lib.Seq.{take_at, drop_at, take-add, take_all, length-take-le}
use borrow.Author.Tests.{leb-true, leb-false}
use Rattle.coding.specs.Bits.{digits, value, bytes_bits, to_bytes}
use Rattle.coding.proofs.Digits.{length_digits, value-digits}
use Rattle.coding.proofs.Values.{value-lt, digits_value}

pub length-bytes-bits : (bs : List ℕ) → length (bytes_bits bs) ≡ 8 * length bs
unfolding bytes_bits
length-bytes-bits [] = refl
length-bytes-bits (b ∷ bs) = omega (arith, length-append (digits 8 b) (bytes_bits bs), length_digits 8 b, length-bytes-bits bs)

pub length-bytes : (n : ℕ) (l : List Bool) → length (to_bytes n l) ≡ n
unfolding to_bytes
length-bytes zero l = refl
length-bytes (suc n) l = ap suc (length-bytes n (drop 8 l))

pub bytes_back : (bs : List ℕ) → ((i : ℕ) → get_or bs i 0 < 256) → to_bytes (length bs) (bytes_bits bs) ≡ bs
unfolding bytes_bits to_bytes
bytes_back [] h = refl
bytes_back (b ∷ bs) h =
    ap₂ ◌∷◌ (ap value (take_at (digits 8 b) (bytes_bits bs) 8 (length_digits 8 b)) ∙ value-digits 8 b ∙ mod-eq_of_lt (h 0))
    (ap (to_bytes (length bs)) (drop_at (digits 8 b) (bytes_bits bs) 8 (length_digits 8 b)) ∙ bytes_back bs (λ i. h (suc i)))

pub bytes_bits_lem : (m n : ℕ) (l : List Bool) → m ≤ n → 8 * m ≤ length l → bytes_bits (take m (to_bytes n l)) ≡ take (8 * m) l
unfolding to_bytes bytes_bits
bytes_bits_lem zero n l h k = refl
bytes_bits_lem (suc m) zero l h k = absurd (omega arith)
bytes_bits_lem (suc m) (suc n) l h k =
    let e : length (take 8 l) ≡ 8 = length-take-le 8 l (omega arith) in
    ap₂ ◌++◌ (ap (λ (j : ℕ). digits j (value (take 8 l))) (sym e) ∙ digits_value (take 8 l)) (bytes_bits_lem m n (drop 8 l) (omega arith) (omega (arith, length-drop 8 l)))
    ∙ sym (take-add 8 (8 * m) l) ∙ ap (λ (j : ℕ). take j l) (let z : 8 + 8 * m ≡ 8 * suc m = omega arith in z)

-- a byte is below 256
short-value : (l : List Bool) (n : ℕ) → value (take n l) < 2 ^ n
short-value l n = go (leb n (length l)) (leb-true n (length l)) (leb-false n (length l))
  where
    go : (b : Bool) → (b ≡ true → n ≤ length l) → (b ≡ false → length l < n) → value (take n l) < 2 ^ n
    go true f g = omega (arith, value-lt (take n l), ap (λ (k : ℕ). 2 ^ k) (length-take-le n l (f refl)))
    go false f g =
        let h = g refl in
        omega (arith, value-lt (take n l), ap (λ (k : ℕ). 2 ^ k) (ap length (take_all n l (omega arith))), pow_mono {i = length l} {j = n} (omega arith))

pub byte-lt : (n i : ℕ) (l : List Bool) → get_or (to_bytes n l) i 0 < 256
unfolding to_bytes
byte-lt zero i l = omega arith
byte-lt (suc n) zero l = short-value l 8
byte-lt (suc n) (suc i) l = byte-lt n i (drop 8 l)
