use Rattle.floats.specs.Floor.{round_half_up}
use Rattle.floats.proofs.round_half_up.Goals as goal

pub returns : goal.returns
unfolding round_half_up
returns c = c.floor64.ensures
