use mathlib.Core.Path.{sym, ap}
use native.Mathlib.Omega.{arith}
use Rattle.record.specs.Record.{rank_bit}
use Rattle.record.proofs.PartLaws.{rank_none}
use Rattle.record.proofs.fields.rank_bit.Goals as goal

pub returns-then-rank-eq0 : goal.returns-then-rank-eq0
returns-then-rank-eq0 c = (sym (ap rank_bit c.if-rank-eq0.true), omega arith)

pub returns-then-rank-eq1 : goal.returns-then-rank-eq1
returns-then-rank-eq1 c = (sym (ap rank_bit c.if-rank-eq1.true), omega arith)

pub returns-then-rank-eq2 : goal.returns-then-rank-eq2
returns-then-rank-eq2 c = (sym (ap rank_bit c.if-rank-eq2.true), omega arith)

pub returns-else-rank-eq2 : goal.returns-else-rank-eq2
returns-else-rank-eq2 c = (rank_none c.args.rank c.if-rank-eq0.false c.if-rank-eq1.false c.if-rank-eq2.false, omega arith)
