use Rattle.floats.proofs.Trigs.{zero_is}
use Rattle.bursts.proofs.within.Goals as goal

pub returns : goal.returns
returns c = rw zero_is
