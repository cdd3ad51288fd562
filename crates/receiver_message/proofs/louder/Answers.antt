use mathlib.Core.Path.{refl}
use Rattle.ledger.specs.Merge.{louder}
use Rattle.receiver_message.proofs.louder.Goals as goal

pub returns-then-a-b : goal.returns-then-a-b
unfolding louder
returns-then-a-b c = rw c.if-a-b.true refl

pub returns-else-a-b : goal.returns-else-a-b
unfolding louder
returns-else-a-b c = rw c.if-a-b.false refl
