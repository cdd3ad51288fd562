use mathlib.Core.Path.{refl}
use native.Mathlib.Omega.{arith}
use Rattle.bench.proofs.Numbers.{turn, end}
use Rattle.bench.proofs.all_numbers.Goals as goal

pub loop-x-init : goal.loop-x-init
loop-x-init g c = refl

pub loop-x-preserved : goal.loop-x-preserved
loop-x-preserved g c =
    rw c.eq-ok.ensures (turn g.T.PartialEq.eq c.loop-x.ok c.args.xs.now c.loop-x.x-index _ c.loop-x.invariant c.x-item.result c.loop-x-test.true c.x-item.is)

pub returns : goal.returns
returns g c = end g.T.PartialEq.eq c.loop-x.ok c.args.xs.now c.loop-x.x-index _ c.loop-x.invariant (omega arith)
