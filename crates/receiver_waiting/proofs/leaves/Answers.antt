use mathlib.Core.Path.{◌∙◌, refl}
use Rattle.receiver_waiting.specs.Waiting.{leaves}
use Rattle.receiver_waiting.proofs.leaves.Goals as goal

pub returns-in-All : goal.returns-in-All
unfolding leaves
returns-in-All c = rw c.in-All.is refl

pub returns-in-CompleteAt : goal.returns-in-CompleteAt
unfolding leaves
returns-in-CompleteAt c = rw c.in-CompleteAt.is c.expires.ensures
