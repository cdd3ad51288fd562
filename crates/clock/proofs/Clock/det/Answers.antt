use Rattle.clock.specs.Running.{det}
use Rattle.clock.proofs.Clock.det.Goals as goal

pub returns : goal.returns
unfolding det
returns c = rw c.count_as_f64.ensures
