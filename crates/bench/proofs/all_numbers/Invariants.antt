use mathlib.Core.Path.{◌≡◌}
use mathlib.Core.Bool.{◌&&◌}
use lib.ListN.{drop}
use Rattle.bench.specs.Select.{selfsame}
use Rattle.bench.proofs.all_numbers.Given as goal

abbrev pub invariant-loop-x : goal.invariant-loop-x
invariant-loop-x g l = l.ok && selfsame g.T.PartialEq.eq (drop l.x-index l.xs) ≡ selfsame g.T.PartialEq.eq l.xs
