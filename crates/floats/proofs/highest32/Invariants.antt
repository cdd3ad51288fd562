-- The invariant: the highest of what is left, from m on, is the whole's.
use Rattle.std.proofs.Common.{◌≡◌, drop}
use Rattle.floats.specs.Fold.{max_from}
use Rattle.floats.proofs.highest32.Given as goal

abbrev pub invariant-loop-x : goal.invariant-loop-x
invariant-loop-x l = max_from l.m (drop l.x-index l.xs) ≡ max_from l.from l.xs
