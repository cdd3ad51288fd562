use Rattle.floats.proofs.Trigs.{tau_is}
use Rattle.clock.specs.Clock.{angle}
use Rattle.clock.proofs.angle_of.Goals as goal

pub returns : goal.returns
unfolding angle
returns c = rw tau_is
