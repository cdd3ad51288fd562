use mathlib.Core.Path.{refl}
use borrow.Author.Tests.{eq-eqb, ne_eqb}
use Rattle.receiver_message.proofs.end_after.Goals as goal

pub returns-then-rank-eq0 : goal.returns-then-rank-eq0
returns-then-rank-eq0 c = rw (eq-eqb c.args.rank 0 c.if-rank-eq0.true) refl

pub returns : goal.returns
returns c = rw (ne_eqb c.args.rank 0 c.if-rank-eq0.false) refl
