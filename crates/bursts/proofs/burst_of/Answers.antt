use Rattle.bursts.specs.Bursts.{burst_of}
use Rattle.bursts.proofs.burst_of.Goals as goal

pub returns : goal.returns
unfolding burst_of
returns c = rw c.peak.ensures
