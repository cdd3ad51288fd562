use Rattle.std.proofs.Common.{◌≡◌, ◌+◌, ◌-◌, ◌<◌}
use Rattle.order.specs.Search.{bins, total}
use Rattle.order.proofs.find_bin.Given as goal

abbrev pub invariant-loop-rank : goal.invariant-loop-rank
invariant-loop-rank l = (l.at < bins) × (total l.counts l.at + l.rank ≡ l.k)

abbrev pub decreases-loop-rank : goal.decreases-loop-rank
decreases-loop-rank l = bins - l.at
