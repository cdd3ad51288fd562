-- A clock computed over four dips, of which one is skipped: the median is of the depths of the others. Assumes nothing.
use Rattle.std.proofs.Common.{◌≡◌, List, [], ◌∷◌, ℤ, pos, refl, Some}
use lib.Ieee.{Float, round, add, sub, mul, div, lt, le, eq, neg, is_nan, of_int, of_bits, to_bits, to_signed, to_unsigned}
use Rattle.floats.specs.Floor.{floor, round_half_up}
use Rattle.floats.specs.Number.{num}
use Rattle.floats.specs.Trig.{magnitude}
use Rattle.order.specs.Sorted.{insert, sorted}
use Rattle.order.specs.Order.{place, key, kth}
use Rattle.dips.specs.Dips.{Dip}
use Rattle.clock.specs.Clock.{size_of, lost, at_most, Point, last_index, refit, index_at, skips, pushed, joined, track, start_clock}
use Rattle.clock.specs.Bits.{median_depth}

dip : Float → Float → Dip
dip at depth = record { at = at; depth = depth }

-- at 10 samples a bit: 14 is too far from 10, and skipped
dips : List Dip
dips = dip (num 0) (num 9) ∷ dip (num 10) (num 7) ∷ dip (num 14) (num 30) ∷ dip (num 20) (num 8) ∷ []

point : ℤ → Dip → Point
point k d = record { index = k; dip = d }

points : List Point
points = point (pos 0) (dip (num 0) (num 9)) ∷ point (pos 1) (dip (num 10) (num 7)) ∷ point (pos 2) (dip (num 20) (num 8)) ∷ []

tracked : track (start_clock (num 10) (num 0)) dips ≡ Some (record { period = num 10; phase = num 0; points = points })
unfolding dip dips point points track start_clock joined skips pushed refit index_at lost size_of at_most last_index round_half_up floor magnitude round add sub mul div lt le eq neg is_nan of_int of_bits to_signed to_unsigned
tracked = refl

-- index 1 of 7, 8, 9; with the skipped dip it would be 9, index 2 of 7, 8, 9, 30
median : median_depth points ≡ num 8
unfolding dip points point median_depth kth sorted insert key place round of_int to_bits
median = refl
