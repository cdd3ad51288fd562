use Rattle.std.proofs.Common.{◌≡◌, ◌^◌, length, take}
use Rattle.order.specs.Search.{bins, Counted}
use Rattle.order.proofs.count.Given as goal

abbrev pub invariant-loop-x : goal.invariant-loop-x
invariant-loop-x g l = (length l.counts ≡ bins) × Counted g.T.Ranked.key (take l.x-index l.xs.items.now) l.r.lo l.r.span (2 ^ l.shift) l.counts
