use Rattle.clock.specs.Running.{index_at}
use Rattle.clock.proofs.Clock.index_at.Goals as goal

pub returns : goal.returns
unfolding index_at
returns c = c.round_half_up.ensures
