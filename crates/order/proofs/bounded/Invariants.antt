use Rattle.order.proofs.Bounds.{Passed}
use Rattle.order.proofs.bounded.Given as goal

abbrev pub invariant-loop-x : goal.invariant-loop-x
invariant-loop-x g l = Passed g.T.Ranked.key l.xs.items.now l.r.lo l.r.span (g.T.At.Place.number l.least) (g.T.At.Place.number l.most) l.x-index
