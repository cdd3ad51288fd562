-- Floats with the sign set, and what round_hz makes of a float: 0 of one with the sign set, and of one between two fractions of 1,024 a whole number between those. Assumes nothing.
use mathlib.Core.Path.{◌≡◌, refl, sym, ap, ◌∙◌, subst}
use mathlib.Core.Bool.{Bool, true, false, cond, ◌&&◌, true≢false}
use Prim.Native.Nat.{ℕ, zero, suc, ◌+◌, ◌-◌, ◌*◌, ◌/◌, ◌^◌, ◌≤◌, ◌<◌, min}
use native.Mathlib.Nat.{mul_assoc, mul-one, mul-div_cancel, div-mul-le_self, lt-div-mul-add, le_of_mul-le-mul_right, lt_of_mul-lt-mul_right, suc-mul}
use native.Mathlib.Omega.{arith}
use borrow.Author.Tests.{ltb-true, ltb-false}
use lib.Dec.{ltb}
use lib.Ieee.{Float, nan, inf, fin, Format, binary64, prec, emax, low, up, down, round, units, odd, add, sum, of_bits, to_unsigned}
use lib.Ieee.Fits.{down_pos, round_is}
use lib.Ieee.Exact.{HasValue}
use lib.Ieee.Back.{round_whole}
use lib.Ieee.Positive as P
use Rattle.floats.specs.Floor.{floor, part, round_half_up}
use Rattle.floats.proofs.Floors.{floor_of_lem}
use Rattle.rates.proofs.Between.{Lies, of_value, rounded, plus_lies}
use Rattle.cfo.specs.Cfo.{round_hz}

-- the sign is set
abbrev pub Negative : Float → Type 0
Negative nan = ⊥
Negative (inf s) = s ≡ true
Negative (fin s m e) = s ≡ true

-- ---- rounding keeps the sign

pub odd-negative : (d q k l : ℕ) → Negative (odd d true q k l)
unfolding odd
odd-negative d zero k l = refl
odd-negative d (suc q) k l = refl

units-negative : (f : Format) (q k : ℕ) → Negative (units f true q k)
unfolding units
units-negative f q k = go (ltb (q * 2 ^ k) (2 ^ (low f + suc (emax f)))) (odd (suc (prec f)) true q k (low f)) (odd-negative (suc (prec f)) q k (low f))
  where
    go : (b : Bool) (x : Float) → Negative x → Negative (cond b x (inf true))
    go true x h = h
    go false x h = refl

pub round_negative : (f : Format) (a c : ℕ) → Negative (round f true a c)
round_negative f a c = subst Negative (sym (round_is f true a c)) (units-negative f _ _)

-- ---- as a u32

negative_32 : (x : Float) → Negative x → to_unsigned 32 x ≡ 0
unfolding to_unsigned
negative_32 nan h = absurd h
negative_32 (inf true) h = refl
negative_32 (inf false) h = absurd (true≢false (sym h))
negative_32 (fin true m e) h = refl
negative_32 (fin false m e) h = absurd (true≢false (sym h))

floor-negative : (x : Float) → Negative x → Negative (floor x)
unfolding floor
floor-negative nan h = absurd h
floor-negative (inf s) h = h
floor-negative (fin true m e) h = round_negative binary64 (part true (m * up e) (down e)) 1
floor-negative (fin false m e) h = absurd (true≢false (sym h))

whole_32 : (x : Float) (k : ℕ) → HasValue x false k 1 → to_unsigned 32 x ≡ min k (2 ^ 32 - 1)
unfolding to_unsigned
whole_32 nan k h = absurd h
whole_32 (inf s) k h = absurd h
whole_32 (fin true m e) k h = absurd (true≢false h.0)
whole_32 (fin false m e) k h =
    ap (λ (n : ℕ). min n (2 ^ 32 - 1)) (ap (λ (n : ℕ). n / down e) (sym (mul-one (m * up e)) ∙ h.1) ∙ mul-div_cancel k (down_pos e))

-- r is the whole number in [l / 1024, u / 1024], up to the largest u32: 1024 k <= u and l < 1024 (k + 1)
pub record Rounds (r l u : ℕ) : Type 0 where
  pub whole : ℕ
  pub is : r ≡ min whole (2 ^ 32 - 1)
  pub high : 1024 * whole ≤ u
  pub low : l < 1024 * suc whole

floored : {v : Float} {l u : ℕ} → Lies v l u → u < 2 ^ 53 → Rounds (to_unsigned 32 (floor v)) l u
floored {v} {l} {u} h U =
    let n = P.num v in
    let d = P.den v in
    let k = n / d in
    let hi : 1024 * k ≤ u = le_of_mul-le-mul_right (high (k * d) n u d k refl (div-mul-le_self n d) h.high) (P.den_pos v) in
    let lo : l < 1024 * suc k = lt_of_mul-lt-mul_right d (low (k * d) n l d k refl (lt-div-mul-add (P.den_pos v)) h.low) in
    record {
      whole = k;
      is = ap (to_unsigned 32) (floor_of_lem v false n d (P.den_pos v) h.own) ∙ whole_32 (round binary64 false k 1) k (round_whole binary64 false k (omega arith));
      high = hi;
      low = lo;
    }
  where
    high : (q n u d k : ℕ) → k * d ≡ q → q ≤ n → n * 1024 ≤ u * d → 1024 * k * d ≤ u * d
    high q n u d k e a b = let m : 1024 * k * d ≡ 1024 * (k * d) = mul_assoc 1024 k d in omega arith

    low : (q n l d k : ℕ) → k * d ≡ q → n < q + d → l * d ≤ n * 1024 → l * d < 1024 * suc k * d
    low q n l d k e a b =
        let m : 1024 * suc k * d ≡ 1024 * (suc k * d) = mul_assoc 1024 (suc k) d in
        let s : suc k * d ≡ k * d + d = suc-mul k d in
        omega arith

-- ---- round_hz

half_lies : Lies (of_bits binary64 0x3fe0_0000_0000_0000) 512 512
unfolding of_bits
half_lies = of_value (of_bits binary64 0x3fe0_0000_0000_0000) 1 2 512 512 (omega arith) (refl, refl) (omega arith) (omega arith)

pub rounds : {v : Float} {l u : ℕ} → Lies v l u → u < 2 ^ 52 → Rounds (round_hz v) (l + 512) (u + 512)
unfolding round_hz round_half_up
rounds h U = floored (plus_lies h half_lies (omega arith)) (omega arith)

-- a small one rounds to 0
none : (r : ℕ) → Rounds r 0 512 → r ≡ 0
none r h =
    let a : 1024 * h.whole ≤ 512 = h.high in
    let z : h.whole ≡ 0 = omega arith in
    h.is ∙ ap (λ (n : ℕ). min n (2 ^ 32 - 1)) z

small : (a c : ℕ) → 0 < c → a * 1024 ≤ 512 * c → to_unsigned 32 (floor (round binary64 false a c)) ≡ 0
small a c C h = none _ (floored (rounded a c 0 512 C (omega arith) (omega arith) h) (omega arith))

-- -a / c + b / c with b / c a half
half-sum : (a b c : ℕ) → 0 < c → b * 2 ≡ c → to_unsigned 32 (floor (sum binary64 true a false b c)) ≡ 0
unfolding sum
half-sum a b c C e = go (ltb a b) (ltb b a) (ltb-true a b) (ltb-false a b) (ltb-false b a)
  where
    go : (t w : Bool) → (t ≡ true → a < b) → (t ≡ false → b ≤ a) → (w ≡ false → a ≤ b)
        → to_unsigned 32 (floor (cond t (round binary64 false (b - a) c) (round binary64 (true && w) (a - b) c))) ≡ 0
    go true w f g k = small (b - a) c C (omega arith)
    go false true f g k = negative_32 _ (floor-negative _ (round_negative binary64 (a - b) c))
    go false false f g k = let x = g refl in let y = k refl in small (a - b) c C (omega arith)

pub negative-rounds : (v : Float) → Negative v → round_hz v ≡ 0
unfolding round_hz round_half_up add floor of_bits to_unsigned
negative-rounds nan h = absurd h
negative-rounds (inf true) h = refl
negative-rounds (inf false) h = absurd (true≢false (sym h))
negative-rounds (fin false m e) h = absurd (true≢false (sym h))
negative-rounds (fin true m e) h = half-sum (m * up e * 2) (1 * 1 * down e) (down e * 2) (twice (down e) (down_pos e)) (same (down e))
  where
    twice : (d : ℕ) → 0 < d → 0 < d * 2
    twice d h = omega arith

    same : (d : ℕ) → 1 * 1 * d * 2 ≡ d * 2
    same d = omega arith
