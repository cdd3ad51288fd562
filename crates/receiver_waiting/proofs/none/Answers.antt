use mathlib.Core.Path.{refl}
use Rattle.receiver_waiting.specs.Waiting.{none}
use Rattle.receiver_waiting.proofs.none.Goals as goal

pub returns : goal.returns
unfolding none
returns c = rw c.blank-p.ensures refl
