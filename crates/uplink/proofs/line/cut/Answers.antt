use native.Mathlib.Omega.{arith}
use Rattle.uplink.proofs.Words.{cut_start, cut_turn, cut_here, cut_past}
use Rattle.uplink.proofs.line.cut.Goals as goal

pub loop-i-init : goal.loop-i-init
loop-i-init c = cut_start c.args.line.now

pub returns-then-c-eq-SPACE : goal.returns-then-c-eq-SPACE
returns-then-c-eq-SPACE c = cut_here c.args.line.now c.loop-i.i c.loop-i.invariant (omega arith) c.if-c-eq-SPACE.true

pub loop-i-preserved : goal.loop-i-preserved
loop-i-preserved c = cut_turn c.args.line.now c.loop-i.i c.loop-i.invariant (omega arith) c.if-c-eq-SPACE.false

pub returns : goal.returns
returns c = cut_past c.args.line.now c.loop-i.i c.loop-i.invariant (omega arith)
