-- No NaN stands in what a burst of valid samples gives: its peak, and its times where the first sample's time is in range; and the peak of binary32
-- samples is a binary32 number. Assumes nothing.
use mathlib.Core.Path.{◌≡◌, sym, subst}
use mathlib.Core.Bool.{Bool, beq, true, false, cond, not, ◌&&◌, true≢false}
use mathlib.Core.List.{List, [], ◌∷◌, ◌++◌}
use Prim.Native.Nat.{ℕ, zero, suc, ◌+◌, ◌-◌, ◌*◌, ◌^◌, ◌≤◌}
use native.Mathlib.Nat.{le_trans}
use native.Mathlib.Omega.{arith}
use lib.Dec.{T, ltb, lit≤}
use lib.ListN.{take, drop}
use lib.Ieee.{Float, Format, nan, inf, fin, prec, low, emax, up, down, odd, units, round, sum, add, div, neg, le, lt, eq, is_nan, fits, of_int, binary32, binary64}
use lib.Ieee.Fits.{cond-fits}
use Rattle.floats.specs.Number.{num}
use Rattle.floats.specs.Fold.{max_of, max_from}
use Rattle.limits.specs.Limits.{lowest_rate, highest_rate, longest_stream, farthest_s}
use Rattle.limits.specs.Samples.{is_dbm, all_dbm, time_ok}
use Rattle.limits.proofs.Samples.{and_left, and_right, number, all_take, all_drop}
use Rattle.rates.proofs.Near.{div_at, int_value}
use Rattle.bursts.specs.Numbers.{lowest_peak}
use Rattle.bursts.specs.Bursts.{Cluster, long_enough, threshold, gap_samples, none, clusters, between, burst_of, bursts_in, bursts_of}
use Rattle.bursts.specs.declared.BurstOptions.{BurstOptions}
use Rattle.bursts.specs.declared.Burst.{Burst}
use Rattle.demod.specs.Decode.{time_at}

abbrev pub Number : Float → Type 0
Number x = T (not (is_nan x))

-- ---- times

odd_number : (d : ℕ) (s : Bool) (q k l : ℕ) → Number (odd d s q k l)
unfolding odd is_nan
odd_number d s zero k l = tt
odd_number d s (suc q) k l = tt

units_number : (f : Format) (s : Bool) (q k : ℕ) → Number (units f s q k)
unfolding units is_nan
units_number f s q k = go (ltb (q * 2 ^ k) (2 ^ (low f + suc (emax f)))) (odd_number (suc (prec f)) s q k (low f))
  where
    go : (t : Bool) → Number (odd (suc (prec f)) s q k (low f)) → Number (cond t (odd (suc (prec f)) s q k (low f)) (inf s))
    go true n = n
    go false n = tt

pub round_number : (f : Format) (s : Bool) (a c : ℕ) → Number (round f s a c)
unfolding round
round_number f s a c = units_number f s _ _

sum_number : (f : Format) (s : Bool) (a : ℕ) (t : Bool) (b c : ℕ) → Number (sum f s a t b c)
unfolding sum
sum_number f s a t b c = go (beq s t) (ltb a b)
  where
    go : (x y : Bool) → Number (cond x (round f s (a + b) c) (cond y (round f t (b - a) c) (round f (s && ltb b a) (a - b) c)))
    go true y = round_number f s (a + b) c
    go false true = round_number f t (b - a) c
    go false false = round_number f (s && ltb b a) (a - b) c

-- a time in range is finite, so the sum of it and a number is one
pub sum_of : (t x : Float) → time_ok t ≡ true → Number x → Number (add binary64 t x)
unfolding add is_nan le lt eq neg of_int round
sum_of nan x h n = absurd (true≢false (sym (and_right (le (neg farthest_s) nan) (le nan farthest_s) h)))
sum_of (inf true) x h n = absurd (true≢false (sym (and_left (le (neg farthest_s) (inf true)) (le (inf true) farthest_s) h)))
sum_of (inf false) x h n = absurd (true≢false (sym (and_right (le (neg farthest_s) (inf false)) (le (inf false) farthest_s) h)))
sum_of (fin s m e) nan h n = n
sum_of (fin s m e) (inf t) h n = tt
sum_of (fin s m e) (fin t k d) h n = sum_number binary64 s (m * up e * down d) t (k * up d * down e) (down e * down d)

pub time-number : (t0 : Float) (rate i : ℕ) → time_ok t0 ≡ true → lowest_rate ≤ rate → rate ≤ highest_rate → i ≤ longest_stream → Number (time_at t0 rate i)
time-number t0 rate i h lo hi b =
    let e : div binary64 (num i) (num rate) ≡ round binary64 false i rate =
    div_at binary64 (num i) (num rate) i rate (omega arith) (int_value i (le_trans b (lit≤ tt))) (int_value rate (le_trans hi (lit≤ tt))) in
    sum_of t0 (div binary64 (num i) (num rate)) h (subst Number (sym e) (round_number binary64 false i rate))

-- ---- peaks

max_number : (m : Float) (l : List Float) → Number m → all_dbm l ≡ true → Number (max_from m l)
unfolding max_from all_dbm
max_number m [] n v = n
max_number m (x ∷ l) n v = max_number (max_of m x) l (go (lt m x)) (and_right (is_dbm x) (all_dbm l) v)
  where
    go : (t : Bool) → Number (cond t x m)
    go true = number x (and_left (is_dbm x) (all_dbm l) v)
    go false = n

lowest-number : Number lowest_peak
unfolding neg of_int round is_nan
lowest-number = tt

-- every burst of a list of clusters has a number for its peak
pub data Peaked : List Burst → Type 0 where
  none_left : Peaked []
  peak : {b : Burst} {bs : List Burst} → Number b.peak_dbm → Peaked bs → Peaked (b ∷ bs)

module _ (dbm : List Float) (rate : ℕ) (o : BurstOptions) (floor : Float) (v : all_dbm dbm ≡ true) where
  peaked_in : (cs : List Cluster) → Peaked (bursts_in dbm rate o floor cs)
  unfolding bursts_in burst_of
  peaked_in [] = none_left
  peaked_in (c ∷ cs) = go (long_enough o rate c) (peaked_in cs)
    where
      go : (t : Bool) → Peaked (bursts_in dbm rate o floor cs) → Peaked (cond t (burst_of dbm floor c ∷ bursts_in dbm rate o floor cs) (bursts_in dbm rate o floor cs))
      go true p = peak (max_number lowest_peak (take (c.last + 1 - c.first) (drop c.first dbm)) lowest-number (all_take (c.last + 1 - c.first) (drop c.first dbm) (all_drop c.first dbm v))) p
      go false p = p

  pub bursts_peaked : Peaked (bursts_of dbm rate o floor)
  unfolding bursts_of
  bursts_peaked = peaked_in (clusters (threshold o floor) (gap_samples o rate) none 0 dbm)

-- ---- binary32

abbrev pub Single : Float → Type 0
Single x = T (fits binary32 x)

abbrev pub Singles : List Float → Type 0
Singles [] = Unit
Singles (x ∷ l) = Single x × Singles l

pub singles-take : (n : ℕ) (l : List Float) → Singles l → Singles (take n l)
singles-take zero l w = tt
singles-take (suc n) [] w = tt
singles-take (suc n) (x ∷ l) w = (w.0, singles-take n l w.1)

pub singles-drop : (n : ℕ) (l : List Float) → Singles l → Singles (drop n l)
singles-drop zero l w = w
singles-drop (suc n) [] w = tt
singles-drop (suc n) (x ∷ l) w = singles-drop n l w.1

pub singles-join : (a b : List Float) → Singles a → Singles b → Singles (a ++ b)
singles-join [] b w v = v
singles-join (x ∷ a) b w v = (w.0, singles-join a b w.1 v)

max_single : (m : Float) (l : List Float) → Single m → Singles l → Single (max_from m l)
unfolding max_from
max_single m [] n w = n
max_single m (x ∷ l) n w = max_single (max_of m x) l (cond-fits binary32 (lt m x) x m w.0 n) w.1

lowest-single : Single lowest_peak
unfolding neg of_int round fits
lowest-single = tt

-- every burst has such a peak
abbrev pub SinglePeaks : List Burst → Type 0
SinglePeaks [] = Unit
SinglePeaks (b ∷ bs) = Single b.peak_dbm × SinglePeaks bs

module _ (dbm : List Float) (rate : ℕ) (o : BurstOptions) (floor : Float) (w : Singles dbm) where
  single_in : (cs : List Cluster) → SinglePeaks (bursts_in dbm rate o floor cs)
  unfolding bursts_in burst_of
  single_in [] = tt
  single_in (c ∷ cs) = go (long_enough o rate c) (single_in cs)
    where
      go : (t : Bool) → SinglePeaks (bursts_in dbm rate o floor cs) → SinglePeaks (cond t (burst_of dbm floor c ∷ bursts_in dbm rate o floor cs) (bursts_in dbm rate o floor cs))
      go true p = (
        max_single lowest_peak (between c.first c.last dbm) lowest-single
            (singles-take (c.last + 1 - c.first) (drop c.first dbm) (singles-drop c.first dbm w)),
        p,
      )
      go false p = p

  pub bursts-single : SinglePeaks (bursts_of dbm rate o floor)
  unfolding bursts_of
  bursts-single = single_in (clusters (threshold o floor) (gap_samples o rate) none 0 dbm)
