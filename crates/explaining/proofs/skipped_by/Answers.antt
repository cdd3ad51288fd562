use Rattle.std.proofs.Common.{refl}
use Rattle.explaining.specs.Verdicts.{skipped_by}
use Rattle.explaining.proofs.skipped_by.Goals as goal

pub returns-then-far : goal.returns-then-far
unfolding skipped_by
returns-then-far c = rw c.if-far.true refl

pub returns : goal.returns
unfolding skipped_by
returns c = rw c.if-far.false refl
