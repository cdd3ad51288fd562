-- A float that stands for w / 10, as 0.3 * rate does for 3 * rate / 10: exact where w / 10 is a half of a whole number, else off by under a 1,024th. Sums keep that, and it decides every comparison with a whole number and the rounding. Assumes nothing.
use mathlib.Core.Path.{◌≡◌, refl, sym, ap, ◌∙◌, subst}
use mathlib.Core.Bool.{Bool, true, false}
use Prim.Native.Nat.{ℕ, suc, ◌+◌, ◌-◌, ◌*◌, ◌/◌, ◌%◌, ◌^◌, ◌≤◌, ◌<◌}
use native.Mathlib.Nat.{mul_assoc, mul-one, mul-le-mul_right, pos_of_ne-zero}
use native.Mathlib.Omega.{arith}
use lib.Arith.{lt_of_le-ne}
use lib.Dec.{leb, ltb, eqb}
use lib.IntN.{negsuc}
use lib.Ieee.{Float, binary64, round, add, mul, lt, le, of_int, to_unsigned}
use lib.Ieee.Positive as P
use borrow.Author.Tests.{eqb-true, eqb-false}
use Rattle.floats.specs.Number.{num}
use Rattle.rates.specs.Rounding.{round_half_away}
use Rattle.rates.proofs.Short.{short}
use Rattle.rates.proofs.Between.{Lies, Factor, rounded, of_value, whole_lies, whole_factor, positive_factor, plus_lies, less_lies, below-whole, above-whole, up_to_whole, rounded-away}

-- by how many 1,024ths it may differ from w / 10
abbrev pub off : ℕ → ℕ
off w = (w % 5 + 4) / 5

-- v stands for w / 10
pub record Tenths (v : Float) (w : ℕ) : Type 0 where
  pub near : Lies v (1024 * w / 10 - off w) (1024 * w / 10 + off w)

-- `off` is 0 where 5 divides w, else 1
module _ (C : ℕ → Type 0) (w : ℕ) (whole : w % 5 ≡ 0 → C 0) (other : 0 < w % 5 → C 1) where
  cases : C (off w)
  cases = go (eqb (w % 5) 0) (eqb-true (w % 5) 0) (eqb-false (w % 5) 0)
    where
      none : (z : ℕ) → z ≡ 0 → 0 ≡ (z + 4) / 5
      none z e = omega arith

      one : (z : ℕ) → 0 < z → z < 5 → 1 ≡ (z + 4) / 5
      one z h k = omega arith

      go : (t : Bool) → (t ≡ true → w % 5 ≡ 0) → (t ≡ false → w % 5 ≡ 0 → ⊥) → C (off w)
      go true p q = subst C (none (w % 5) (p refl)) (whole (p refl))
      go false p q = let h : 0 < w % 5 = pos_of_ne-zero (q refl) in subst C (one (w % 5) h (omega arith)) (other h)

-- a multiple of 5 is met only where 5 divides w
missed : (w n : ℕ) → 0 < w % 5 → w ≡ 5 * n → ⊥
missed w n h e = omega arith

over_five : (w n : ℕ) → 0 < w % 5 → 5 * n ≤ w → 5 * n < w
over_five w n h k = lt_of_le-ne k (λ (e : 5 * n ≡ w). missed w n h (sym e))

under_five : (w n : ℕ) → 0 < w % 5 → w ≤ 5 * n → w < 5 * n
under_five w n h k = lt_of_le-ne k (missed w n h)

-- a / c is w / 10 but for at most one part in 2^54
tenths : (a c w : ℕ) → 0 < c → 10 ≤ w → w ≤ 2 ^ 20 → a < 2 ^ 20 * c → 2 ^ 54 * (w * c) ≤ 2 ^ 54 * (10 * a) + 10 * a → 2 ^ 54 * (10 * a) ≤ 2 ^ 54 * (w * c) + 10 * a → Tenths (round binary64 false a c) w
tenths a c w C W M S above below =
    record { near = cases (λ z. Lies (round binary64 false a c) (1024 * w / 10 - z) (1024 * w / 10 + z)) w exactly nearly }
  where
    fifth : w % 5 ≡ 0 → w * c ≡ 5 * (w / 5 * c)
    fifth e = ap (λ (z : ℕ). z * c) (go w e) ∙ mul_assoc 5 (w / 5) c
      where
        go : (w : ℕ) → w % 5 ≡ 0 → w ≡ 5 * (w / 5)
        go w e = omega arith

    exactly : w % 5 ≡ 0 → Lies (round binary64 false a c) (1024 * w / 10 - 0) (1024 * w / 10 + 0)
    exactly e =
        let f = fifth e in
        of_value (round binary64 false a c) (w / 5) 2 (1024 * w / 10 - 0) (1024 * w / 10 + 0) (omega arith)
        (short a c (w / 5) C (omega arith) (omega arith) (up_to (w * c) (w / 5 * c) a f above) (down_to (w * c) (w / 5 * c) a f below)) (omega arith) (omega arith)
      where
        up_to : (x y a : ℕ) → x ≡ 5 * y → 2 ^ 54 * x ≤ 2 ^ 54 * (10 * a) + 10 * a → 2 ^ 54 * y ≤ 2 ^ 54 * (2 * a) + 2 * a
        up_to x y a e h = omega arith

        down_to : (x y a : ℕ) → x ≡ 5 * y → 2 ^ 54 * (10 * a) ≤ 2 ^ 54 * x + 10 * a → 2 ^ 54 * (2 * a) ≤ 2 ^ 54 * y + 2 * a
        down_to x y a e h = omega arith

    nearly : 0 < w % 5 → Lies (round binary64 false a c) (1024 * w / 10 - 1) (1024 * w / 10 + 1)
    nearly _ =
        rounded a c (1024 * w / 10 - 1) (1024 * w / 10 + 1) C (omega arith)
        (low (w * c) a c ((1024 * w / 10 - 1) * c) (times (1024 * w / 10 - 1) w (omega arith)) S above)
        (high (w * c) a c ((1024 * w / 10 + 1) * c) (times-over (1024 * w / 10 + 1) w (omega arith)) S below)
      where
        times : (t w : ℕ) → 10 * t + 10 ≤ 1024 * w → 10 * (t * c) + 10 * c ≤ 1024 * (w * c)
        times t w h = let m : (10 * t + 10) * c ≤ 1024 * w * c = mul-le-mul_right c h in omega arith

        times-over : (t w : ℕ) → 1024 * w + 1 ≤ 10 * t → 1024 * (w * c) + c ≤ 10 * (t * c)
        times-over t w h = let m : (1024 * w + 1) * c ≤ 10 * t * c = mul-le-mul_right c h in omega arith

        low : (x a c y : ℕ) → 10 * y + 10 * c ≤ 1024 * x → a < 2 ^ 20 * c → 2 ^ 54 * x ≤ 2 ^ 54 * (10 * a) + 10 * a → y ≤ a * 1024
        low x a c y h s k = omega arith

        high : (x a c y : ℕ) → 1024 * x + c ≤ 10 * y → a < 2 ^ 20 * c → 2 ^ 54 * (10 * a) ≤ 2 ^ 54 * x + 10 * a → a * 1024 ≤ y
        high x a c y h s k = omega arith

-- a factor and a whole number n
pub product-tenths : {q : Float} {a c : ℕ} → Factor q a c → (n w : ℕ)
    → (0 < n) × (n ≤ 2 ^ 53) × (10 ≤ w) × (w ≤ 2 ^ 20) × (a * n < 2 ^ 20 * c) × (2 ^ 54 * (w * c) ≤ 2 ^ 54 * (10 * (a * n)) + 10 * (a * n)) × (2 ^ 54 * (10 * (a * n)) ≤ 2 ^ 54 * (w * c) + 10 * (a * n))
    → Tenths (mul binary64 q (num n)) w
product-tenths {q} {a} {c} k n w s =
    let one = whole_factor n s.0 s.1 in
    subst (λ (v : Float). Tenths v w)
    (sym (P.mul_at binary64 q (num n) a c n 1 (positive_factor k) (positive_factor one) k.over_zero.1 (omega arith) k.value one.value ∙ ap (λ (z : ℕ). round binary64 false (a * n) z) (mul-one c)))
    (tenths (a * n) c w k.over_zero.1 s.2 s.3 s.4 s.5 s.6)

module _ {v : Float} {w : ℕ} (h : Tenths v w) (U : w ≤ 2 ^ 20) where
  -- a whole number and v
  pub sum-tenths : (t : ℕ) → t ≤ 2 ^ 41 → 10 ≤ w → Tenths (add binary64 (num t) v) (10 * t + w)
  sum-tenths t M W =
      record {
        near = subst (λ (z : ℕ). Lies (add binary64 (num t) v) z (1024 * (10 * t + w) / 10 + off (10 * t + w))) (low t w W)
            (subst (λ (z : ℕ). Lies (add binary64 (num t) v) (1024 * t + (1024 * w / 10 - off w)) z) (high t w)
            (plus_lies (whole_lies t (omega arith)) h.near (omega arith)));
      }
    where
      same : (t w : ℕ) → (10 * t + w) % 5 ≡ w % 5
      same t w = omega arith

      low : (t w : ℕ) → 10 ≤ w → 1024 * t + (1024 * w / 10 - off w) ≡ 1024 * (10 * t + w) / 10 - off (10 * t + w)
      low t w h = rw (same t w) (omega arith)

      high : (t w : ℕ) → 1024 * t + (1024 * w / 10 + off w) ≡ 1024 * (10 * t + w) / 10 + off (10 * t + w)
      high t w = rw (same t w) (omega arith)

  -- v less 1
  pub less_tenths : 20 ≤ w → Tenths (add binary64 (of_int binary64 (negsuc 0)) v) (w - 10)
  less_tenths W =
      record {
        near = subst (λ (z : ℕ). Lies (add binary64 (of_int binary64 (negsuc 0)) v) z (1024 * (w - 10) / 10 + off (w - 10))) (low w W)
            (subst (λ (z : ℕ). Lies (add binary64 (of_int binary64 (negsuc 0)) v) (1024 * w / 10 - off w - 1024) z) (high w W)
            (less_lies h.near (omega arith) (omega arith)));
      }
    where
      same : (w : ℕ) → 20 ≤ w → (w - 10) % 5 ≡ w % 5
      same w h = omega arith

      low : (w : ℕ) → 20 ≤ w → 1024 * w / 10 - off w - 1024 ≡ 1024 * (w - 10) / 10 - off (w - 10)
      low w h = rw (same w h) (omega arith)

      high : (w : ℕ) → 20 ≤ w → 1024 * w / 10 + off w - 1024 ≡ 1024 * (w - 10) / 10 + off (w - 10)
      high w h = rw (same w h) (omega arith)

-- ---- w / 10 and a whole number d

past : (w d : ℕ) → 10 * d < w → 1024 * d < 1024 * w / 10 - off w
past w d h = omega arith

from : (w d : ℕ) → 10 * d ≤ w → 1024 * d ≤ 1024 * w / 10 - off w
from w d h = cases (λ z. 1024 * d ≤ 1024 * w / 10 - z) w (λ e. omega arith) (λ e. let g = over_five w (2 * d) e (omega arith) in omega arith)

up_to : (w d : ℕ) → w ≤ 10 * d → 1024 * w / 10 + off w ≤ 1024 * d
up_to w d h = cases (λ z. 1024 * w / 10 + z ≤ 1024 * d) w (λ e. omega arith) (λ e. let g = under_five w (2 * d) e (omega arith) in omega arith)

under : (w d : ℕ) → w < 10 * d → 1024 * w / 10 + off w < 1024 * d
under w d h = omega arith

module _ {v : Float} {w : ℕ} (h : Tenths v w) (d : ℕ) (D : d ≤ 2 ^ 53) where
  pub tenths-below : lt v (num d) ≡ ltb w (10 * d)
  tenths-below = below-whole h.near d D w (10 * d) (under w d) (from w d)

  pub tenths-above : lt (num d) v ≡ ltb (10 * d) w
  tenths-above = above-whole h.near d D (10 * d) w (past w d) (up_to w d)

  pub tenths_up_to : le v (num d) ≡ leb w (10 * d)
  tenths_up_to = up_to_whole h.near d D w (10 * d) (up_to w d) (past w d)

-- rounded, halves away from zero
pub tenths-away : {v : Float} {w : ℕ} → Tenths v w → w ≤ 2 ^ 20 → to_unsigned 64 (round_half_away v) ≡ (w + 5) / 10
tenths-away {v} {w} h W = rounded-away h.near ((w + 5) / 10) (omega arith, low w, high w)
  where
    low : (w : ℕ) → 1024 * ((w + 5) / 10) ≤ 1024 * w / 10 - off w + 512
    low w = cases (λ z. 1024 * ((w + 5) / 10) ≤ 1024 * w / 10 - z + 512) w (λ e. omega arith) (λ e. let g = over_five (w + 5) (2 * ((w + 5) / 10)) (omega arith) (omega arith) in omega arith)

    high : (w : ℕ) → 1024 * w / 10 + off w + 512 < 1024 * suc ((w + 5) / 10)
    high w = omega arith
