-- Signed numbers: the lower and the higher of two, and how far a sum may lie from 0. Assumes nothing.
use Rattle.std.proofs.Common.{◌≡◌, ℕ, suc, ◌+◌, ◌-◌, ◌^◌, ◌<◌, ◌≤◌, min, max, Bool, true, false, cond, ltb, ℤ, pos, negsuc, ◌+ℤ◌, sym, refl, ap, ◌∙◌, true≢false, pow-suc, arith, ltb-false, ltb-true}
use lib.IntN.{sub_ℕ}
use lib.Signed.{mag, lt_z}
use lib.Ieee.{binary64, of_bits, of_int, round}
use Rattle.floats.specs.Number.{num}
use Rattle.std.specs.Int.{int_min, int_max}
use Rattle.fleet_sheet.specs.Fleet.{min_z, max_z}

-- the code's 2.0
pub two_is : of_bits binary64 0x4000_0000_0000_0000 ≡ num 2
unfolding of_bits of_int round
two_is = refl

-- ---- the lower and the higher

pub low_second : (a b : ℤ) → lt_z b a ≡ true → b ≡ min_z a b
unfolding min_z
low_second (pos a) (pos b) h = let l = ltb-true b a h in let e : b ≡ min a b = omega arith in ap pos e
low_second (pos a) (negsuc b) h = refl
low_second (negsuc a) (pos b) h = absurd (true≢false (sym h))
low_second (negsuc a) (negsuc b) h = let l = ltb-true a b h in let e : b ≡ max a b = omega arith in ap negsuc e

pub low_first : (a b : ℤ) → lt_z b a ≡ false → a ≡ min_z a b
unfolding min_z
low_first (pos a) (pos b) h = let l = ltb-false b a h in let e : a ≡ min a b = omega arith in ap pos e
low_first (pos a) (negsuc b) h = absurd (true≢false h)
low_first (negsuc a) (pos b) h = refl
low_first (negsuc a) (negsuc b) h = let l = ltb-false a b h in let e : a ≡ max a b = omega arith in ap negsuc e

pub high-second : (a b : ℤ) → lt_z a b ≡ true → b ≡ max_z a b
unfolding max_z
high-second (pos a) (pos b) h = let l = ltb-true a b h in let e : b ≡ max a b = omega arith in ap pos e
high-second (pos a) (negsuc b) h = absurd (true≢false (sym h))
high-second (negsuc a) (pos b) h = refl
high-second (negsuc a) (negsuc b) h = let l = ltb-true b a h in let e : b ≡ min a b = omega arith in ap negsuc e

pub high_first : (a b : ℤ) → lt_z a b ≡ false → a ≡ max_z a b
unfolding max_z
high_first (pos a) (pos b) h = let l = ltb-false a b h in let e : a ≡ max a b = omega arith in ap pos e
high_first (pos a) (negsuc b) h = refl
high_first (negsuc a) (pos b) h = absurd (true≢false h)
high_first (negsuc a) (negsuc b) h = let l = ltb-false b a h in let e : a ≡ min a b = omega arith in ap negsuc e

-- the library's
pub min_is : (a b : ℤ) → int_min a b ≡ min_z a b
min_is a b = go (lt_z b a) refl
  where
    go : (t : Bool) → lt_z b a ≡ t → cond t b a ≡ min_z a b
    go true e = low_second a b e
    go false e = low_first a b e

pub min_comm : (a b : ℤ) → min_z a b ≡ min_z b a
unfolding min_z
min_comm (pos a) (pos b) = let e : min a b ≡ min b a = omega arith in ap pos e
min_comm (pos a) (negsuc b) = refl
min_comm (negsuc a) (pos b) = refl
min_comm (negsuc a) (negsuc b) = let e : max a b ≡ max b a = omega arith in ap negsuc e

pub max_comm : (a b : ℤ) → max_z a b ≡ max_z b a
unfolding max_z
max_comm (pos a) (pos b) = let e : max a b ≡ max b a = omega arith in ap pos e
max_comm (pos a) (negsuc b) = refl
max_comm (negsuc a) (pos b) = refl
max_comm (negsuc a) (negsuc b) = let e : min a b ≡ min b a = omega arith in ap negsuc e

pub max_is : (a b : ℤ) → int_max a b ≡ max_z a b
max_is a b = go (lt_z b a) refl ∙ max_comm b a
  where
    go : (t : Bool) → lt_z b a ≡ t → cond t a b ≡ max_z b a
    go true e = high-second b a e
    go false e = high_first b a e

pub min_assoc : (a b c : ℤ) → min_z (min_z a b) c ≡ min_z a (min_z b c)
unfolding min_z
min_assoc (pos a) (pos b) (pos c) = let e : min (min a b) c ≡ min a (min b c) = omega arith in ap pos e
min_assoc (pos a) (pos b) (negsuc c) = refl
min_assoc (pos a) (negsuc b) (pos c) = refl
min_assoc (pos a) (negsuc b) (negsuc c) = refl
min_assoc (negsuc a) (pos b) (pos c) = refl
min_assoc (negsuc a) (pos b) (negsuc c) = refl
min_assoc (negsuc a) (negsuc b) (pos c) = refl
min_assoc (negsuc a) (negsuc b) (negsuc c) = let e : max (max a b) c ≡ max a (max b c) = omega arith in ap negsuc e

pub max_assoc : (a b c : ℤ) → max_z (max_z a b) c ≡ max_z a (max_z b c)
unfolding max_z
max_assoc (pos a) (pos b) (pos c) = let e : max (max a b) c ≡ max a (max b c) = omega arith in ap pos e
max_assoc (pos a) (pos b) (negsuc c) = refl
max_assoc (pos a) (negsuc b) (pos c) = refl
max_assoc (pos a) (negsuc b) (negsuc c) = refl
max_assoc (negsuc a) (pos b) (pos c) = refl
max_assoc (negsuc a) (pos b) (negsuc c) = refl
max_assoc (negsuc a) (negsuc b) (pos c) = refl
max_assoc (negsuc a) (negsuc b) (negsuc c) = let e : min (min a b) c ≡ min a (min b c) = omega arith in ap negsuc e

-- ---- a sum's distance from 0

sub-le : (a b : ℕ) → mag (sub_ℕ a (suc b)) ≤ a + b
sub-le a b = go (ltb a (suc b))
  where
    go : (t : Bool) → mag (cond t (negsuc (suc b - suc a)) (pos (a - suc b))) ≤ a + b
    go true = omega arith
    go false = omega arith

pub sum-le : (a b : ℤ) → mag (a +ℤ b) ≤ suc (mag a + mag b)
sum-le (pos a) (pos b) = omega arith
sum-le (pos a) (negsuc b) = omega (arith, sub-le a b)
sum-le (negsuc a) (pos b) = omega (arith, sub-le b a)
sum-le (negsuc a) (negsuc b) = omega arith

pub sum_lt : (h : ℕ) (a b : ℤ) → mag a < 2 ^ h → mag b < 2 ^ h → mag (a +ℤ b) < 2 ^ suc h
sum_lt h a b p q = omega (arith, sum-le a b, pow-suc 2 h)
