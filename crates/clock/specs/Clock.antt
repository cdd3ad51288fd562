-- The bit clock of `burst_bits` (demod.rs): each dip is assigned to a bit index with the current estimate, then period and phase are fitted anew by least squares
-- to all points. Assumes nothing.
use Rattle.std.specs.Prelude.{ℕ, Bool, true, false, cond, ◌&&◌, ◌||◌, List, [], ◌∷◌, ◌++◌, length, take, ℤ, pos, negsuc, is_nan, nat_le, nat_lt, Float, Option, None, Some}
use Rattle.std.specs.Float.{binary64}
use Rattle.std.specs.Float.Ieee.{add, sub, mul, div, lt, of_int, to_signed, to_unsigned}
use Rattle.floats.specs.Floor.{round_half_up}
use Rattle.floats.specs.Number.{num}
use Rattle.floats.specs.Trig.{tau, cosine, sine, magnitude, arctangent}
use Rattle.dips.specs.Dips.{Dip}
use Rattle.clock.specs.Numbers.{off_grid, anchors, refits, farthest_bit}

-- s, and f of each element added to it, in order (the Rust's `fold`, and its sums in a loop)
unfoldable pub sum_from : {A : Type 0} → (A → Float) → Float → List A → Float
sum_from f s [] = s
sum_from f s (x ∷ xs) = sum_from f (add binary64 s (f x)) xs

-- ---- the anchor: the mean phase of the first dips (circular mean modulo one bit)

-- 2 * PI * (d - dips[0]) / nominal
unfoldable pub angle : Float → Float → Float → Float
angle nominal d₀ d = div binary64 (mul binary64 tau (sub binary64 d d₀)) nominal

-- dips[0] + atan2(s, c) / (2 * PI) * nominal
unfoldable pub turned : Float → Float → Float → Float → Float
turned nominal d₀ s c = add binary64 d₀ (mul binary64 (div binary64 (arctangent s c) tau) nominal)

-- the phase before the first dip, of the sums of sines and cosines by 01's stand-ins
unfoldable pub anchor : Float → Float → List Float → Float
unfolding sum_from angle turned
anchor nominal d₀ ds =
    turned nominal d₀
    (sum_from (λ d. sine (angle nominal d₀ d)) (num 0) (take anchors ds))
    (sum_from (λ d. cosine (angle nominal d₀ d)) (num 0) (take anchors ds))

-- ---- bit indexes

-- k.abs() as u64
unfoldable pub size_of : Float → ℕ
size_of k = to_unsigned 64 (magnitude k)

-- 01: a bit index that is not a number, or beyond ±2^31
unfoldable pub lost : Float → Bool
unfolding size_of
lost k = is_nan k || nat_lt farthest_bit (size_of k)

-- `as i64` of a float, and `as f64` of an index
abbrev pub as_index : Float → ℤ
as_index x = to_signed 63 x

abbrev pub as_float : ℤ → Float
as_float k = of_int binary64 k

-- j <= k
unfoldable pub at_most : ℤ → ℤ → Bool
at_most (pos m) (pos n) = nat_le m n
at_most (pos m) (negsuc n) = false
at_most (negsuc m) (pos n) = true
at_most (negsuc m) (negsuc n) = nat_le n m

-- ---- points

-- (k, d): a bit index and the dip that stands there, with its depth
pub record Point : Type 0 where
  pub index : ℤ
  pub dip : Dip

-- the Rust's `period`, `phase` and `points`
pub record BitClock : Type 0 where
  pub period : Float
  pub phase : Float
  pub points : List Point

-- points[0].0 and points[points.len() - 1].0, where there are points
unfoldable pub first_index : List Point → ℤ
first_index [] = pos 0
first_index (p ∷ ps) = p.index

unfoldable pub last_index : List Point → ℤ
last_index [] = pos 0
last_index (p ∷ []) = p.index
last_index (p ∷ (q ∷ ps)) = last_index (q ∷ ps)

-- ---- the fit

-- sk, sd, skk and skd: sums over all points, from 0.0 on
unfoldable pub sum_k : List Point → Float
unfolding sum_from
sum_k ps = sum_from (λ p. as_float p.index) (num 0) ps

unfoldable pub sum_d : List Point → Float
unfolding sum_from
sum_d ps = sum_from (λ p. p.dip.at) (num 0) ps

unfoldable pub sum_kk : List Point → Float
unfolding sum_from
sum_kk ps = sum_from (λ p. mul binary64 (as_float p.index) (as_float p.index)) (num 0) ps

unfoldable pub sum_kd : List Point → Float
unfolding sum_from
sum_kd ps = sum_from (λ p. mul binary64 (as_float p.index) p.dip.at) (num 0) ps

-- n * skk - sk * sk
unfoldable pub det : List Point → Float
unfolding sum_k sum_kk
det ps = sub binary64 (mul binary64 (num (length ps)) (sum_kk ps)) (mul binary64 (sum_k ps) (sum_k ps))

-- (n * skd - sk * sd) / det
unfoldable pub slope : List Point → Float
unfolding sum_k sum_d sum_kd det
slope ps = div binary64 (sub binary64 (mul binary64 (num (length ps)) (sum_kd ps)) (mul binary64 (sum_k ps) (sum_d ps))) (det ps)

-- (sd - period * sk) / n
unfoldable pub offset : List Point → Float
unfolding sum_k sum_d slope
offset ps = div binary64 (sub binary64 (sum_d ps) (mul binary64 (slope ps) (sum_k ps))) (num (length ps))

-- period and phase by least squares, from the fourth point on, where det > 0.0
unfoldable pub refit : BitClock → BitClock
unfolding det slope offset
refit c =
    cond (nat_le refits (length c.points) && lt (num 0) (det c.points))
    (record { period = slope c.points; phase = offset c.points; points = c.points })
    c

-- ---- one dip

-- round((d - phase) / period)
unfoldable pub index_at : BitClock → Float → Float
index_at c d = round_half_up (div binary64 (sub binary64 d c.phase) c.period)

-- (d - predicted).abs() > 0.35 * period, or k <= the last point's index
unfoldable pub skips : BitClock → Float → ℤ → Bool
unfolding at_most last_index
skips c d k =
    lt (mul binary64 off_grid c.period) (magnitude (sub binary64 d (add binary64 c.phase (mul binary64 (as_float k) c.period))))
    || (nat_lt 0 (length c.points) && at_most k (last_index c.points))

-- points.push((k, d))
unfoldable pub pushed : BitClock → Dip → ℤ → BitClock
pushed c d k = record { period = c.period; phase = c.phase; points = c.points ++ (record { index = k; dip = d } ∷ []) }

unfoldable pub joined : BitClock → Dip → ℤ → BitClock
unfolding skips pushed refit
joined c d k = cond (skips c d.at k) c (refit (pushed c d k))

-- ---- all dips

-- in order; 01: none where an index is lost, of a dip later skipped too
unfoldable pub track : BitClock → List Dip → Option BitClock
unfolding lost index_at joined
track c [] = Some c
track c (d ∷ ds) = cond (lost (index_at c d.at)) None (track (joined c d (as_index (index_at c d.at))) ds)

-- before the first dip
unfoldable pub start_clock : Float → Float → BitClock
start_clock nominal phase = record { period = nominal; phase = phase; points = [] }
