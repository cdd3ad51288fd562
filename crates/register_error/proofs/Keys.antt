-- The order of binary64 floats by their keys: one with the sign set is before one without, and two without are in the order of their values. Assumes nothing.
use mathlib.Core.Path.{◌≡◌, refl, sym, ap, ◌∙◌, subst}
use mathlib.Core.Bool.{Bool, true, false, cond, true≢false}
use mathlib.Core.Logic.{⊎_elim}
use Prim.Native.Nat.{ℕ, zero, suc, ◌+◌, ◌-◌, ◌*◌, ◌/◌, ◌%◌, ◌^◌, ◌≤◌, ◌<◌}
use native.Mathlib.Nat.{lt_of_le_of_lt, eq-or-lt_of_le, mul_right_comm, mul-le-mul_right, le-div_iff_mul-le}
use native.Mathlib.Omega.{arith}
use borrow.Author.Tests.{le-leb}
use lib.Dec.{T, eqb}
use lib.Pow.{pow-add, pow_pos}
use lib.Ieee.{Float, nan, inf, fin, Format, binary64, prec, low, top, hid, ones, up, down, size, odd, fits, to_bits, of_bits, of_fields}
use lib.Ieee.Digits.{size-lt, size-le, size_reaches}
use lib.Ieee.Fits.{kept-lt}
use lib.Ieee.Nearest.{div_mono}
use lib.Ieee.Bits.{of_bits-to_bits}
use lib.Ieee.Exact.{HasValue}
use lib.Ieee.Positive as P
use Rattle.order.specs.Order.{key}
use Rattle.order.proofs.Places.{place-high, place-low}
use Rattle.order.proofs.Rank.{less_or_not}
use Rattle.register_error.proofs.Negative.{Negative, odd-negative}

-- ---- a pattern's digits rise with the magnitude

digits : ℕ → ℕ
digits n = (size n - 53) * 2 ^ 52 + n / 2 ^ (size n - 53)

digits_mono : (n m : ℕ) → n ≤ m → digits n ≤ digits m
unfolding digits
digits_mono n m h =
    let s : size n ≤ size m = size-le n (size m) (lt_of_le_of_lt h (size-lt m)) in
    ⊎_elim same more (eq-or-lt_of_le (less (size n) (size m) s))
  where
    less : (a b : ℕ) → a ≤ b → a - 53 ≤ b - 53
    less a b h = omega arith

    same : size n - 53 ≡ size m - 53 → digits n ≤ digits m
    same e =
        let q : n / 2 ^ (size n - 53) ≤ m / 2 ^ (size n - 53) = div_mono n (2 ^ (size n - 53)) m (2 ^ (size n - 53)) (pow_pos (size n - 53)) (pow_pos (size n - 53)) (mul-le-mul_right (2 ^ (size n - 53)) h) in
        let r : m / 2 ^ (size n - 53) ≡ m / 2 ^ (size m - 53) = ap (λ (k : ℕ). m / 2 ^ k) e in
        omega arith

    more : size n - 53 < size m - 53 → digits n ≤ digits m
    more g =
        let k = size m - 53 in
        let q : n / 2 ^ (size n - 53) < 2 ^ 53 = kept-lt 53 n in
        let w : 2 ^ (52 + k) ≤ m = size_reaches m (52 + k) (reach (size n) (size m) g) in
        let r : 2 ^ 52 ≤ m / 2 ^ k = (le-div_iff_mul-le (pow_pos k)).1 (subst (λ (z : ℕ). z ≤ m) (pow-add 2 52 k) w) in
        omega arith
      where
        reach : (a b : ℕ) → a - 53 < b - 53 → 52 + (b - 53) < b
        reach a b h = omega arith

-- ---- patterns of floats without the sign, and with it

bits-plain : (m : ℕ) (e : _) → to_bits binary64 (fin false m e) ≡ digits (m * up e * 2 ^ 1074 / down e)
unfolding to_bits digits
bits-plain m e = omega arith

-- with the sign set, or no number
abbrev Off : Float → Type 0
Off nan = Unit
Off (inf s) = s ≡ true
Off (fin s m e) = s ≡ true

off : (x : Float) → Negative x → Off x
off nan h = tt
off (inf s) h = h
off (fin s m e) h = h

fields-off : (f : Format) (x t : ℕ) → Off (of_fields f true x t)
unfolding of_fields
fields-off f zero t = off (odd (prec f) true t 0 (low f)) (odd-negative (prec f) t 0 (low f))
fields-off f (suc x) t = go (eqb (suc x) (ones f)) (eqb t 0) (odd (prec f) true (hid f + t) x (low f)) (odd-negative (prec f) (hid f + t) x (low f))
  where
    go : (a b : Bool) (z : Float) → Negative z → Off (cond a (cond b (inf true) nan) z)
    go true true z h = refl
    go true false z h = tt
    go false b z h = off z h

bits-off : (f : Format) (b : ℕ) → top f ≤ b → Off (of_bits f b)
unfolding of_bits
bits-off f b h = subst (λ (s : Bool). Off (of_fields f s (b % top f / hid f) (b % hid f))) (sym (le-leb (top f) b h)) (fields-off f (b % top f / hid f) (b % hid f))

plain-below : (x : Float) (a c : ℕ) → T (fits binary64 x) → HasValue x false a c → to_bits binary64 x < top binary64
plain-below x a c F h = ⊎_elim (λ l. l) (λ g. absurd (no x h (subst Off (of_bits-to_bits binary64 x F) (bits-off binary64 (to_bits binary64 x) g)))) (less_or_not (to_bits binary64 x) (top binary64))
  where
    no : (x : Float) → HasValue x false a c → Off x → ⊥
    no nan h o = h
    no (inf s) h o = h
    no (fin s m e) h o = true≢false (sym o ∙ h.0)

plain-key : (x : Float) (a c : ℕ) → T (fits binary64 x) → HasValue x false a c → top binary64 + to_bits binary64 x ≡ key binary64 x
unfolding key
plain-key x a c F h = place-high binary64 (to_bits binary64 x) (plain-below x a c F h)

negative-above : (x : Float) → Negative x → top binary64 ≤ to_bits binary64 x
unfolding to_bits
negative-above nan h = absurd h
negative-above (inf true) h = omega arith
negative-above (inf false) h = absurd (true≢false (sym h))
negative-above (fin true m e) h = omega arith
negative-above (fin false m e) h = absurd (true≢false (sym h))

negative-key : (x : Float) → Negative x → key binary64 x < top binary64
unfolding key
negative-key x h = let b : top binary64 ≤ to_bits binary64 x = negative-above x h in let e = place-low binary64 (to_bits binary64 x) b in omega arith

-- ---- the two laws

pub signs_first : (x y : Float) (a c : ℕ) → T (fits binary64 x) → HasValue x false a c → Negative y → key binary64 x ≤ key binary64 y → ⊥
signs_first x y a c F h n k = let e = plain-key x a c F h in let g = negative-key y n in omega arith

bits_mono : (x y : Float) (a c b d : ℕ) → HasValue x false a c → HasValue y false b d → P.num x * P.den y ≤ P.num y * P.den x → to_bits binary64 x ≤ to_bits binary64 y
bits_mono nan y a c b d h k l = absurd h
bits_mono (inf s) y a c b d h k l = absurd h
bits_mono (fin true m e) y a c b d h k l = absurd (true≢false h.0)
bits_mono (fin false m e) nan a c b d h k l = absurd k
bits_mono (fin false m e) (inf s) a c b d h k l = absurd k
bits_mono (fin false m e) (fin true n g) a c b d h k l = absurd (true≢false k.0)
bits_mono (fin false m e) (fin false n g) a c b d h k l =
    let p = bits-plain m e in
    let q = bits-plain n g in
    let w = digits_mono (m * up e * 2 ^ 1074 / down e) (n * up g * 2 ^ 1074 / down g)
    (div_mono (m * up e * 2 ^ 1074) (down e) (n * up g * 2 ^ 1074) (down g) (P.den_pos (fin false m e)) (P.den_pos (fin false n g)) (scaled (m * up e) (down g) (n * up g) (down e) l)) in
    omega arith
  where
    scaled : (x dd y de : ℕ) → x * dd ≤ y * de → x * 2 ^ 1074 * dd ≤ y * 2 ^ 1074 * de
    scaled x dd y de h = rw (mul_right_comm x (2 ^ 1074) dd, mul_right_comm y (2 ^ 1074) de) (mul-le-mul_right (2 ^ 1074) h)

pub values-rise : (x y : Float) (a c b d : ℕ) → T (fits binary64 x) → T (fits binary64 y) → HasValue x false a c → HasValue y false b d → key binary64 x ≤ key binary64 y
    → P.num x * P.den y ≤ P.num y * P.den x
values-rise x y a c b d F G h k o =
    ⊎_elim over (λ l. l) (less_or_not (P.num y * P.den x) (P.num x * P.den y))
  where
    over : P.num y * P.den x < P.num x * P.den y → P.num x * P.den y ≤ P.num y * P.den x
    over l =
        let p = plain-key x a c F h in
        let q = plain-key y b d G k in
        let w = bits_mono y x b d a c k h (below l) in
        let e : to_bits binary64 x ≡ to_bits binary64 y = omega arith in
        let s : x ≡ y = sym (of_bits-to_bits binary64 x F) ∙ ap (of_bits binary64) e ∙ of_bits-to_bits binary64 y G in
        subst (λ (z : Float). P.num x * P.den z ≤ P.num z * P.den x) s (le-self (P.num x * P.den x))
      where
        below : {a b : ℕ} → a < b → a ≤ b
        below h = omega arith

        le-self : (n : ℕ) → n ≤ n
        le-self n = omega arith
