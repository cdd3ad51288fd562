-- Scaffolding. What the tests of a sample answer: a dip, with its depth, or none. Assumes nothing.
use Rattle.std.specs.Prelude.{Bool, cond, Float, Option, Some, None}

unfoldable pub tested : Bool → Float → Option Float
tested dip depth = cond dip (Some depth) None
