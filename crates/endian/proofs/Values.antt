-- Signed numbers and floats: their patterns, the way back, and a NaN's patterns. Assumes nothing.
use mathlib.Core.Path.{◌≡◌, refl, ap, ◌∙◌, subst}
use mathlib.Core.Bool.{Bool, true, false, cond}
use mathlib.Core.List.{List, ◌++◌}
use Prim.Native.Nat.{ℕ, suc, ◌+◌, ◌-◌, ◌*◌, ◌^◌, ◌≤◌, ◌<◌}
use native.Mathlib.Nat.{pow-suc}
use native.Mathlib.Omega.{arith}
use borrow.Author.Tests.{lt-ltb, le-ltb}
use lib.ListN.{length}
use lib.Seq.{sets}
use lib.Dec.{T, ltb}
use lib.IntN.{ℤ, pos, negsuc}
use lib.Signed.{mag}
use mir.Syntax.{w32}
use mir.Val.{SFits, of_z, to_z, sel}
use mir.ValLaws.{to_z-Fits}
use lib.Ieee.{Float, Format, top, fits, of_bits}
use lib.Ieee.Bits.{of_bits-to_bits, to_bits-lt}
use Rattle.endian.specs.Bytes.{bytes_of, number_at, bits_of, float_at, signed_bits, signed_of}
use Rattle.endian.proofs.Stores.{number_put, number-field}

-- ---- two's complement in h + 1 bits

pub signed_lt : (h : ℕ) (z : ℤ) → mag z < 2 ^ h → signed_bits (suc h) z < 2 ^ suc h
unfolding signed_bits
signed_lt h (pos n) b = omega (arith, pow-suc 2 h)
signed_lt h (negsuc k) b = omega (arith, pow-suc 2 h)

less : (h : ℕ) → suc h - 1 ≡ h
less h = omega arith

-- the pattern gives the number back
pub signed_back : (h : ℕ) (z : ℤ) → mag z < 2 ^ h → signed_of (suc h) (signed_bits (suc h) z) ≡ z
unfolding signed_bits signed_of
signed_back h (pos n) b = rw (less h) (rw (lt-ltb n (2 ^ h) b))
signed_back h (negsuc k) b =
    rw (less h) (rw (le-ltb (2 ^ suc h - suc k) (2 ^ h) (omega (arith, pow-suc 2 h))) (ap negsuc (back k (2 ^ suc h) (omega (arith, pow-suc 2 h)))))
  where
    back : (k p : ℕ) → k < p → p - suc (p - suc k) ≡ k
    back k p h = omega arith

-- the machine's signed reading of 32 bits is this definition
pub number_is : (n : ℕ) → to_z w32 n ≡ signed_of 32 n
unfolding signed_of
number_is n = go (ltb n (2 ^ 31))
  where
    go : (b : Bool) → sel b (pos n) (negsuc (2 ^ 32 - suc n)) ≡ cond b (pos n) (negsuc (2 ^ 32 - suc n))
    go true = refl
    go false = refl

pub signed_in : (n : ℕ) → n < 2 ^ 32 → SFits w32 (signed_of 32 n)
signed_in n h = subst (SFits w32) (number_is n) (to_z-Fits w32 n record { fits = h })

-- and the machine's bits of a signed number
pub bits_are : (z : ℤ) → of_z w32 z ≡ signed_bits 32 z
unfolding signed_bits
bits_are (pos n) = refl
bits_are (negsuc k) = refl

-- ---- get undoes put, and reads a field between others; `wide` says that k bytes hold the pattern

module _ (h k : ℕ) (z : ℤ) (wide : 2 ^ suc h ≡ 256 ^ k) (in-range : mag z < 2 ^ h) where
  pub signed-small : signed_bits (suc h) z < 256 ^ k
  signed-small = subst (λ (n : ℕ). signed_bits (suc h) z < n) wide (signed_lt h z in-range)

  pub signed-put : (l : List ℕ) (at : ℕ) → at + k ≤ length l → signed_of (suc h) (number_at k (sets l at (bytes_of k (signed_bits (suc h) z))) at) ≡ z
  signed-put l at r = ap (signed_of (suc h)) (number_put k (signed_bits (suc h) z) l at r signed-small) ∙ signed_back h z in-range

  pub signed-field : (a rest : List ℕ) (at : ℕ) → length a ≡ at → signed_of (suc h) (number_at k (a ++ bytes_of k (signed_bits (suc h) z) ++ rest) at) ≡ z
  signed-field a rest at e = ap (signed_of (suc h)) (number-field k (signed_bits (suc h) z) a rest at e signed-small) ∙ signed_back h z in-range

module _ (f : Format) (k : ℕ) (x : Float) (wide : 2 * top f ≡ 256 ^ k) (held : T (fits f x)) where
  pub pattern-small : bits_of f x < 256 ^ k
  pattern-small = subst (λ (n : ℕ). bits_of f x < n) wide (to_bits-lt f x held)

  pub float_put : (l : List ℕ) (at : ℕ) → at + k ≤ length l → float_at f k (sets l at (bytes_of k (bits_of f x))) at ≡ x
  float_put l at r = ap (of_bits f) (number_put k (bits_of f x) l at r pattern-small) ∙ of_bits-to_bits f x held

  pub float_field : (a rest : List ℕ) (at : ℕ) → length a ≡ at → float_at f k (a ++ bytes_of k (bits_of f x) ++ rest) at ≡ x
  float_field a rest at e = ap (of_bits f) (number-field k (bits_of f x) a rest at e pattern-small) ∙ of_bits-to_bits f x held
