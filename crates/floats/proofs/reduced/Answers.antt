use Rattle.floats.specs.Trig.{reduce}
use Rattle.floats.proofs.Trigs.{tau_is, half_is}
use Rattle.floats.proofs.reduced.Goals as goal

pub returns : goal.returns
unfolding reduce
returns c = cc (tau_is, half_is, c.floor64.ensures)
