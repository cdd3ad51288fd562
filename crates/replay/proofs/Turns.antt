-- Turns of the loops that store numbers and spell bytes, on plain lists. Assumes nothing.
use mathlib.Core.Path.{◌≡◌, refl, sym, ap, subst, ◌∙◌}
use mathlib.Core.Bool.{Bool, true, false, cond}
use mathlib.Core.List.{List}
use Prim.Native.Nat.{ℕ, suc, ◌+◌, ◌-◌, ◌*◌, ◌/◌, ◌%◌, ◌≤◌, ◌<◌}
use native.Mathlib.Numerals.{add-one}
use native.Mathlib.Omega.{arith}
use lib.ListN.{length, get_or, drop, set}
use lib.Seq.{sets, drop-cons, drop-length, length-take-le}
use lib.Ieee.{Format, Float, binary32, binary64, eq, of_bits, of_int, round}
use Rattle.floats.specs.Number.{num}
use Rattle.endian.specs.Bytes.{bits_of, number_at}
use Rattle.replay.specs.Numbers.{numbers_from}
use Rattle.replay.specs.Text.{plain_bits, hex_digit, hex_text}

-- the zero of the code, by its pattern
pub zero32_is : of_bits binary32 0 ≡ num 0
unfolding of_bits of_int round
zero32_is = refl

pub zero64_is : of_bits binary64 0 ≡ num 0
unfolding of_bits of_int round
zero64_is = refl

-- a float's pattern for printing, by the code's test
pub plain-zero : (f : Format) (x z : Float) → z ≡ num 0 → eq x z ≡ true → 0 ≡ plain_bits f x
plain-zero f x z e t = let u : eq x (num 0) ≡ true = subst (λ (y : Float). eq x y ≡ true) e t in sym (ap (λ (b : Bool). cond b 0 (bits_of f x)) u)

pub plain_other : (f : Format) (x z : Float) (r : ℕ) → z ≡ num 0 → eq x z ≡ false → r ≡ bits_of f x → r ≡ plain_bits f x
plain_other f x z r e t p = let u : eq x (num 0) ≡ false = subst (λ (y : Float). eq x y ≡ false) e t in p ∙ sym (ap (λ (b : Bool). cond b 0 (bits_of f x)) u)

-- numbers of k bytes are stored from the first on, one at a turn
module _ {A : Type 0} (k : ℕ) (of : ℕ → A) (bytes : List ℕ) where
  pub store_start : (out : List A) (n : ℕ) → sets out 0 (numbers_from k of (n - 0) (k * 0) bytes) ≡ sets out 0 (numbers_from k of n 0 bytes)
  store_start out n =
      let p : n - 0 ≡ n = omega arith in
      let q : k * 0 ≡ 0 = omega arith in
      rw (p, q)

  pub store_turn : (out w : List A) (n i at : ℕ) → i < n → at ≡ k * i → sets out i (numbers_from k of (n - i) (k * i) bytes) ≡ w → (x : A) → x ≡ of (number_at k bytes at)
      → sets (set out i x) (i + 1) (numbers_from k of (n - (i + 1)) (k * (i + 1)) bytes) ≡ w
  unfolding numbers_from
  store_turn out w n i at h d p x e =
      let q : n - i ≡ suc (n - suc i) = omega arith in
      let r : k * suc i ≡ k * i + k = omega arith in
      rw (add-one i, e, d, r) (rw q at p)

  pub store_end : (out w : List A) (n i : ℕ) → n ≤ i → sets out i (numbers_from k of (n - i) (k * i) bytes) ≡ w → out ≡ w
  unfolding numbers_from
  store_end out w n i h p =
      let q : n - i ≡ 0 = omega arith in
      rw q at p

-- two digits are written
pub hex-turn : (bytes out w : List ℕ) (i h l : ℕ) → i < length bytes → h ≡ hex_digit (get_or bytes i 0 / 16) → l ≡ hex_digit (get_or bytes i 0 % 16)
    → sets out (2 * i) (hex_text (drop i bytes)) ≡ w → sets (set (set out (2 * i) h) (2 * i + 1) l) (2 * (i + 1)) (hex_text (drop (i + 1) bytes)) ≡ w
unfolding hex_text
hex-turn bytes out w i h l k a b p =
    let q : 2 * (i + 1) ≡ suc (suc (2 * i)) = omega arith in
    rw (q, add-one i, add-one (2 * i), a, b) (rw (drop-cons bytes i 0 k) at p)

pub hex_end : (bytes out w : List ℕ) (i : ℕ) → i ≡ length bytes → sets out (2 * i) (hex_text (drop i bytes)) ≡ w → out ≡ w
unfolding hex_text
hex_end bytes out w i e p = rw (e, drop-length bytes) at p
