use Rattle.limits.proofs.Constants.{farthest_is}
use Rattle.limits.proofs.time_ok.Goals as goal

pub returns : goal.returns
returns c = cc farthest_is
