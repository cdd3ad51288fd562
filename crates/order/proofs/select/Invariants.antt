use Rattle.std.proofs.Common.{◌≡◌, ◌^◌}
use Rattle.order.specs.Search.{index, Searched}
use Rattle.order.proofs.select.Given as goal

abbrev pub invariant-loop-r : goal.invariant-loop-r
invariant-loop-r g l = Searched g.T.Ranked.key l.placed.items.now (2 ^ g.T.At.Place.width) l.r × (index g.T.Ranked.key l.placed.items.now l.r ≡ l.k)

abbrev pub decreases-loop-r : goal.decreases-loop-r
decreases-loop-r g l = l.r.span
