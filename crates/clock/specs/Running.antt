-- Scaffolding. The bit clock as the code keeps it, with its four sums and its bit indexes moved up by 2^31, and the outcome from there.
-- Law `running-is` of the proofs says that it is `Clock`'s and `Bits`'. Assumes nothing.
use Rattle.std.specs.Prelude.{ℕ, ◌+◌, ◌-◌, ◌/◌, max, Bool, true, false, cond, ◌&&◌, ◌||◌, List, [], ◌∷◌, ◌==◌, nat_le, nat_lt, Float, Option, None, Some}
use Rattle.std.specs.Float.{binary64}
use Rattle.std.specs.Float.Ieee.{add, sub, mul, div, lt}
use Rattle.floats.specs.Floor.{round_half_up}
use Rattle.floats.specs.Number.{num}
use Rattle.floats.specs.Trig.{magnitude}
use Rattle.order.specs.Order.{kth}
use Rattle.rates.specs.Rates.{nominal_of}
use Rattle.clock.specs.Numbers.{off_grid, refits, enough_points, farthest_bit}
use Rattle.clock.specs.Clock.{size_of, lost}
use Rattle.clock.specs.Bits.{end_index, ppm_of, Outcome}
use Rattle.clock.specs.Walk.{placed_bits}
use Rattle.clock.specs.declared.Clock.{Clock}
use Rattle.clock.specs.declared.Step.{Step}
use Rattle.clock.specs.declared.Step.TheVariants.{Lost, Skipped, Joined}

-- k + 2^31, a natural number
unfoldable pub place : Float → ℕ
unfolding size_of
place k = cond (lt k (num 0)) (farthest_bit - size_of k) (farthest_bit + size_of k)

-- ---- one dip

-- round((d - phase) / period)
unfoldable pub index_at : Clock → Float → Float
index_at c d = round_half_up (div binary64 (sub binary64 d c.phase) c.period)

-- too far from its place, or not after the last point
unfoldable pub skips : Clock → Float → Float → Bool
unfolding place
skips c d k =
    lt (mul binary64 off_grid c.period) (magnitude (sub binary64 d (add binary64 c.phase (mul binary64 k c.period))))
    || (nat_lt 0 c.count && nat_le (place k) c.last)

-- the point in the sums
unfoldable pub summed : Clock → Float → Float → Clock
unfolding place
summed c d k =
    record {
      period = c.period;
      phase = c.phase;
      sk = add binary64 c.sk k;
      sd = add binary64 c.sd d;
      skk = add binary64 c.skk (mul binary64 k k);
      skd = add binary64 c.skd (mul binary64 k d);
      count = c.count + 1;
      first = cond (c.count == 0) (place k) c.first;
      last = place k;
    }

-- n * skk - sk * sk
unfoldable pub det : Clock → Float
det c = sub binary64 (mul binary64 (num c.count) c.skk) (mul binary64 c.sk c.sk)

-- (n * skd - sk * sd) / det
unfoldable pub slope : Clock → Float
unfolding det
slope c = div binary64 (sub binary64 (mul binary64 (num c.count) c.skd) (mul binary64 c.sk c.sd)) (det c)

-- period and phase by least squares, from the fourth point on, where the determinant is over zero
unfoldable pub refitted : Clock → Clock
unfolding slope
refitted c =
    record {
      period = slope c;
      phase = div binary64 (sub binary64 c.sd (mul binary64 (slope c) c.sk)) (num c.count);
      sk = c.sk;
      sd = c.sd;
      skk = c.skk;
      skd = c.skd;
      count = c.count;
      first = c.first;
      last = c.last;
    }

unfoldable pub refit : Clock → Clock
unfolding det refitted
refit c = cond (nat_le refits c.count && lt (num 0) (det c)) (refitted c) c

-- what one dip does: it may be lost, skipped, or join
unfoldable pub step : Clock → Float → Step
unfolding lost skips summed refit index_at
step c d = cond (lost (index_at c d)) Lost (cond (skips c d (index_at c d)) Skipped (Joined (refit (summed c d (index_at c d)))))

-- ---- all dips, in order

unfoldable pub astray : Step → Bool
astray Lost = true
astray Skipped = false
astray (Joined c) = false

unfoldable pub after : Clock → Step → Clock
after c Lost = c
after c Skipped = c
after c (Joined d) = d

unfoldable pub added : Step → List ℕ → List ℕ
added Lost l = l
added Skipped l = l
added (Joined c) l = c.last ∷ l

-- the clock after all dips, none where one is lost
unfoldable pub fit_from : Clock → List Float → Option Clock
unfolding step astray after
fit_from c [] = Some c
fit_from c (d ∷ ds) = cond (astray (step c d)) None (fit_from (after c (step c d)) ds)

-- the places of the accepted points
unfoldable pub points_from : Clock → List Float → List ℕ
unfolding step after added
points_from c [] = []
points_from c (d ∷ ds) = added (step c d) (points_from (after c (step c d)) ds)

unfoldable pub kept : Step → Float → List Float → List Float
kept Lost h l = l
kept Skipped h l = l
kept (Joined c) h l = h ∷ l

-- the depths of the accepted dips, of the depths of all
unfoldable pub depths_from : Clock → List Float → List Float → List Float
unfolding step after kept
depths_from c [] hs = []
depths_from c (d ∷ ds) [] = []
depths_from c (d ∷ ds) (h ∷ hs) = kept (step c d) h (depths_from (after c (step c d)) ds hs)

-- before the first dip
unfoldable pub start_clock : Float → Float → Clock
start_clock nominal phase =
    record { period = nominal; phase = phase; sk = num 0; sd = num 0; skk = num 0; skd = num 0; count = 0; first = 0; last = 0 }

-- ---- the outcome

unfoldable pub ended : List Float → ℕ → Float → List ℕ → List Float → Clock → Outcome
ended seg rate level points depths c =
    cond (lost (end_index level seg c.period c.phase)) None
    (Some (record {
      bits = placed_bits points c.first (max c.last (place (end_index level seg c.period c.phase)));
      period = c.period;
      ppm = ppm_of c.period (nominal_of rate);
      level = level;
      dips = c.count;
      depth = kth binary64 depths (c.count / 2);
    }))

unfoldable pub clocked : List Float → ℕ → Float → List ℕ → List Float → Option Clock → Outcome
unfolding ended
clocked seg rate level points depths None = None
clocked seg rate level points depths (Some c) = cond (nat_lt c.count enough_points) None (ended seg rate level points depths c)
