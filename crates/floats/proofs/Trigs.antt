-- The trigonometry: constants by their bit patterns, as compiled code has them, the turns of the loops, and the test of two zeros. Assumes nothing.
use Rattle.std.proofs.Common.{◌≡◌, ℕ, zero, suc, ◌+◌, ◌-◌, ◌*◌, ◌≤◌, Bool, true, false, ◌&&◌, pos, sym, refl, ap, ◌∙◌, arith}
use lib.Ieee.{Float, binary64, sub, mul, div, eq, of_int, of_bits, round}
use Rattle.floats.specs.Trig.{pi, tau, series, atan_from}
use Rattle.floats.specs.Number.{num, near}

pub zero_is : of_bits binary64 0 ≡ num 0
unfolding of_bits of_int round
zero_is = refl

pub one_is : of_bits binary64 0x3ff0_0000_0000_0000 ≡ num 1
unfolding of_bits of_int round
one_is = refl

pub two_is : of_bits binary64 0x4000_0000_0000_0000 ≡ num 2
unfolding of_bits of_int round
two_is = refl

pub four_is : of_bits binary64 0x4010_0000_0000_0000 ≡ num 4
unfolding of_bits of_int round
four_is = refl

pub half_is : of_bits binary64 0x3fe0_0000_0000_0000 ≡ near 1 2
unfolding of_bits round
half_is = refl

pub two_fifths_is : of_bits binary64 0x3fd9_9999_9999_999a ≡ near 4 10
unfolding of_bits round
two_fifths_is = refl

pub pi_is : of_bits binary64 0x4009_21fb_5444_2d18 ≡ pi
unfolding of_bits round
pi_is = refl

pub tau_is : mul binary64 (of_bits binary64 0x4000_0000_0000_0000) (of_bits binary64 0x4009_21fb_5444_2d18) ≡ tau
tau_is = ap (λ (x : Float). mul binary64 x (of_bits binary64 0x4009_21fb_5444_2d18)) two_is ∙ ap (mul binary64 (num 2)) pi_is

less : (m : ℕ) → suc m - 1 ≡ m
less m = omega arith

none : {A : Type 0} (n : ℕ) → n ≡ 0 → 1 ≤ n → A
none n e h = absurd (go n e h)
  where
    go : (n : ℕ) → n ≡ 0 → 1 ≤ n → ⊥
    go n e h = omega arith

pub series-turn : (o n d : ℕ) (q p : Float) → 1 ≤ n → d ≡ (2 * n - 1 + o) * (2 * n + o)
    → series o (n - 1) q (sub binary64 (of_bits binary64 0x3ff0_0000_0000_0000) (div binary64 (mul binary64 p q) (of_int binary64 (pos d)))) ≡ series o n q p
unfolding series
series-turn o zero d q p h e = none 0 refl h
series-turn o (suc m) d q p h e = rw (less m, one_is, e) refl

pub atan-turn : (k : ℕ) (u p : Float) → 1 ≤ k
    → atan_from (k - 1) u (sub binary64 (div binary64 (of_bits binary64 0x3ff0_0000_0000_0000) (of_int binary64 (pos (2 * (k - 1) + 1)))) (mul binary64 (mul binary64 u u) p)) ≡ atan_from k u p
unfolding atan_from
atan-turn zero u p h = none 0 refl h
atan-turn (suc m) u p h =
    ap (λ (k : ℕ). atan_from k u (sub binary64 (div binary64 (of_bits binary64 0x3ff0_0000_0000_0000) (num (2 * k + 1))) (mul binary64 (mul binary64 u u) p))) (less m)
    ∙ ap (λ (o : Float). atan_from m u (sub binary64 (div binary64 o (num (2 * m + 1))) (mul binary64 (mul binary64 u u) p))) one_is

-- the loops' end
pub series_end : (o n : ℕ) (q p : Float) → n ≡ 0 → series o n q p ≡ p
unfolding series
series_end o n q p e = ap (λ (k : ℕ). series o k q p) e

pub atan_end : (k : ℕ) (u p : Float) → k ≡ 0 → atan_from k u p ≡ p
unfolding atan_from
atan_end k u p e = ap (λ (n : ℕ). atan_from n u p) e

-- ---- the test of two zeros

module _ (s c : Float) where
  pub both_left : eq s (of_bits binary64 0) ≡ true → eq c (of_bits binary64 0) ≡ true → eq s (num 0) && eq c (num 0) ≡ true
  both_left a b = cc (ap (λ (x : Bool). x && eq c (num 0)) (sym (ap (eq s) zero_is) ∙ a), sym (ap (eq c) zero_is) ∙ b)

  pub both_right : eq c (of_bits binary64 0) ≡ false → eq s (num 0) && eq c (num 0) ≡ false
  both_right b = ap (λ (x : Bool). eq s (num 0) && x) (sym (ap (eq c) zero_is) ∙ b) ∙ go (eq s (num 0))
    where
      go : (x : Bool) → x && false ≡ false
      go true = refl
      go false = refl

  pub both_no : eq s (of_bits binary64 0) ≡ false → eq s (num 0) && eq c (num 0) ≡ false
  both_no a = ap (λ (x : Bool). x && eq c (num 0)) (sym (ap (eq s) zero_is) ∙ a)
