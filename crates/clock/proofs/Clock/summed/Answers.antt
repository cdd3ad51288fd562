use Rattle.clock.specs.Running.{summed}
use Rattle.clock.proofs.Clock.summed.Goals as goal

pub returns : goal.returns
unfolding summed
returns c = rw (c.pick.ensures, c.place-p.ensures.0)
