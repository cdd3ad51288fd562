-- Scaffolding. What `fit_clock` promises: the clock after the dips, and where it is fitted the places of its points in front of the one slice
-- and the depths of their dips in front of the other. Assumes nothing.
use Rattle.std.specs.Prelude.{◌≡◌, List, map, take, Float, Option, Some}
use Rattle.floats.specs.Number.{num}
use Rattle.clock.specs.Running.{fit_from, points_from, depths_from}
use Rattle.clock.specs.declared.Clock.{Clock}

pub record Tracked (start : Clock) (ds hs : List Float) (r : Option Clock) (now deep : List Float) : Type 0 where
  pub fit : r ≡ fit_from start ds
  pub holds : (c : Clock) → r ≡ Some c → take c.count now ≡ map num (points_from start ds)
  pub depths : (c : Clock) → r ≡ Some c → take c.count deep ≡ depths_from start ds hs
