use Rattle.std.proofs.Common.{arith}
use Rattle.order.specs.Search.{bins}
use Rattle.order.proofs.Cut.{total_none, goes_on}
use Rattle.order.proofs.find_bin.Goals as goal

pub loop-rank-init : goal.loop-rank-init
loop-rank-init c = (omega arith, total_none c.args.counts.now c.args.k)

pub loop-rank-preserved : goal.loop-rank-preserved
loop-rank-preserved c =
    let l = c.loop-rank in
    let a = c.args in
    goes_on a.counts.now bins l.at l.rank a.k l.invariant.1 c.if-rank-here.false c.requires l.invariant.0
