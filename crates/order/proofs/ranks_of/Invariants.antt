use Rattle.std.proofs.Common.{◌≡◌, ◌+◌, take}
use Rattle.order.specs.Sorted.{below}
use Rattle.order.proofs.ranks_of.Given as goal

abbrev pub invariant-loop-x : goal.invariant-loop-x
invariant-loop-x g l = (l.under ≡ below g.T.Ranked.key l.v (take l.x-index l.xs.items.now)) × (l.upto ≡ below g.T.Ranked.key (l.v + 1) (take l.x-index l.xs.items.now))
