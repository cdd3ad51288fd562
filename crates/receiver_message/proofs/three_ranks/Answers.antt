use mathlib.Core.Path.{refl}
use Rattle.ledger.specs.Merge.{three_ranks}
use Rattle.receiver_message.proofs.three_ranks.Goals as goal

pub returns : goal.returns
unfolding three_ranks
returns c = rw (c.has-zero.ensures, c.has-one.ensures, c.has-two.ensures) refl
