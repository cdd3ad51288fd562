-- A dip's depth is a number, and a segment's depths computed. Assumes nothing.
use Rattle.std.proofs.Common.{◌≡◌, ℕ, zero, suc, ◌+◌, ◌-◌, ◌*◌, ◌^◌, ◌<◌, ◌≤◌, min, Bool, true, false, cond, not, ◌&&◌, T, ltb, List, [], ◌∷◌, map, length, get_or, take, sym, refl, subst, true≢false, arith}
use mathlib.Core.Bool.{beq}
use mathlib.Core.List.{map-map}
use lib.Seq.{slice}
use lib.Ieee.{Float, nan, inf, fin, Format, binary64, prec, low, emax, up, down, odd, units, round, sum, add, sub, mul, div, neg, le, lt, eq, ne, is_nan, of_int, of_bits, to_unsigned}
use lib.Ieee.Scale.{finite}
use Rattle.floats.specs.Floor.{floor, round_half_up}
use Rattle.floats.specs.Fold.{max_of, max_from}
use Rattle.floats.specs.Number.{num}
use Rattle.limits.specs.Limits.{lowest_dbm, highest_dbm}
use Rattle.limits.specs.Samples.{is_dbm, all_dbm}
use Rattle.limits.proofs.Samples.{and_left, and_right, all_at, all_take, all_drop}
use Rattle.rates.specs.Rates.{win_of, half_of}
use Rattle.dips.specs.Numbers.{lowest_side}
use Rattle.dips.specs.Dips.{min_of, left_of, right_of, sides, lowest_of, neighbours, is_dip, indices_from, dip_indices, centre, depth_of, Dip, dip_at, found_in, depths_of}

-- ---- the difference of two finite floats is a number

abbrev pub Number : Float → Type 0
Number x = T (not (is_nan x))

-- of each of a list
abbrev pub AllNumbers : List Float → Type 0
AllNumbers [] = T true
AllNumbers (x ∷ l) = Number x × AllNumbers l

odd_number : (d : ℕ) (s : Bool) (q k l : ℕ) → Number (odd d s q k l)
unfolding odd is_nan
odd_number d s zero k l = tt
odd_number d s (suc q) k l = tt

units_number : (f : Format) (s : Bool) (q k : ℕ) → Number (units f s q k)
unfolding units is_nan
units_number f s q k = go (ltb (q * 2 ^ k) (2 ^ (low f + suc (emax f)))) (odd_number (suc (prec f)) s q k (low f))
  where
    go : (t : Bool) → Number (odd (suc (prec f)) s q k (low f)) → Number (cond t (odd (suc (prec f)) s q k (low f)) (inf s))
    go true n = n
    go false n = tt

pub round_number : (f : Format) (s : Bool) (a c : ℕ) → Number (round f s a c)
unfolding round
round_number f s a c = units_number f s _ _

pub sum_number : (f : Format) (s : Bool) (a : ℕ) (t : Bool) (b c : ℕ) → Number (sum f s a t b c)
unfolding sum
sum_number f s a t b c = go (beq s t) (ltb a b)
  where
    go : (x y : Bool) → Number (cond x (round f s (a + b) c) (cond y (round f t (b - a) c) (round f (s && ltb b a) (a - b) c)))
    go true y = round_number f s (a + b) c
    go false true = round_number f t (b - a) c
    go false false = round_number f (s && ltb b a) (a - b) c

difference : (x y : Float) → T (finite x) → T (finite y) → Number (sub binary64 x y)
unfolding sub add neg
difference nan y p q = absurd p
difference (inf s) y p q = absurd p
difference (fin s m e) nan p q = absurd q
difference (fin s m e) (inf t) p q = absurd q
difference (fin s m e) (fin t k d) p q = sum_number binary64 s (m * up e * down d) (not t) (k * up d * down e) (down e * down d)

dbm_finite : (x : Float) → is_dbm x ≡ true → T (finite x)
unfolding le lt eq neg of_int round
dbm_finite nan h = absurd (true≢false (sym (and_right (le lowest_dbm nan) (le nan highest_dbm) h)))
dbm_finite (inf true) h = absurd (true≢false (sym (and_left (le lowest_dbm (inf true)) (le (inf true) highest_dbm) h)))
dbm_finite (inf false) h = absurd (true≢false (sym (and_right (le lowest_dbm (inf false)) (le (inf false) highest_dbm) h)))
dbm_finite (fin s m e) h = tt

-- ---- a depth is one

picked : (t : Bool) (x y : Float) → is_dbm x ≡ true → is_dbm y ≡ true → is_dbm (cond t x y) ≡ true
picked true x y a b = a
picked false x y a b = b

highest : (m : Float) (l : List Float) → is_dbm m ≡ true → all_dbm l ≡ true → is_dbm (max_from m l) ≡ true
unfolding max_from all_dbm
highest m [] a v = a
highest m (x ∷ l) a v = highest (max_of m x) l (picked (lt m x) x m (and_left (is_dbm x) (all_dbm l) v) a) (and_right (is_dbm x) (all_dbm l) v)

lowest_dbm_lem : is_dbm lowest_side ≡ true
unfolding le lt eq neg of_int round
lowest_dbm_lem = refl

module _ (seg : List Float) (v : all_dbm seg ≡ true) where
  side : (from to : ℕ) → is_dbm (max_from lowest_side (slice from to seg)) ≡ true
  side from to = highest lowest_side (slice from to seg) lowest_dbm_lem (all_drop from (take to seg) (all_take to seg v))

  depth-number : (win i : ℕ) → i < length seg → Number (depth_of win seg i)
  unfolding depth_of left_of right_of
  depth-number win i h =
      let l = max_from lowest_side (slice (i - win) i seg) in
      let r = max_from lowest_side (slice (i + 1) (min (i + 1 + win) (length seg)) seg) in
      difference (min_of l r) (get_or seg i nan)
      (dbm_finite (min_of l r) (picked (lt r l) r l (side (i + 1) (min (i + 1 + win) (length seg))) (side (i - win) i)))
      (dbm_finite (get_or seg i nan) (all_at seg i h v))

  depths_from_lem : (win : ℕ) (test : ℕ → Bool) (n i : ℕ) → ((k : ℕ) → i ≤ k → k < i + n → k < length seg) → AllNumbers (map (depth_of win seg) (indices_from test n i))
  unfolding indices_from
  depths_from_lem win test zero i h = tt
  depths_from_lem win test (suc n) i h = go (test i) (depth-number win i (h i (omega arith) (omega arith))) (depths_from_lem win test n (suc i) (λ k a b. h k (omega arith) (omega arith)))
    where
      go : (t : Bool) → Number (depth_of win seg i) → AllNumbers (map (depth_of win seg) (indices_from test n (suc i)))
          → AllNumbers (map (depth_of win seg) (cond t (i ∷ indices_from test n (suc i)) (indices_from test n (suc i))))
      go true a b = (a, b)
      go false a b = b

  pub depths-numbers : (rate : ℕ) (level : Float) → AllNumbers (depths_of (found_in seg rate level))
  unfolding found_in dip_indices dip_at
  depths-numbers rate level =
      subst AllNumbers (sym (map-map (λ (d : Dip). d.depth) (dip_at (win_of rate) seg) (dip_indices seg rate level)))
      (depths_from_lem (win_of rate) (is_dip level (win_of rate) (half_of rate) seg) (length seg - 1 - 1) 1 (λ k a b. omega arith))

-- ---- a segment at 200/s, where a side is 3 samples and the half window 1

-- under -60 on the left and -58 on the right
segment : List Float
segment = neg (num 60) ∷ neg (num 60) ∷ neg (num 60) ∷ neg (num 90) ∷ neg (num 58) ∷ neg (num 58) ∷ neg (num 58) ∷ []

one_depth : depths_of (found_in segment 200 (neg (num 60))) ≡ num 30 ∷ []
unfolding segment found_in dip_at depth_of dip_indices indices_from is_dip centre win_of half_of round_half_up floor mul div to_unsigned neighbours lowest_of sides left_of right_of max_from add sub lt le eq ne round of_int of_bits neg
one_depth = refl
