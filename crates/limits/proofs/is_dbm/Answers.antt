use Rattle.limits.proofs.Constants.{lowest_is, highest_is}
use Rattle.limits.proofs.is_dbm.Goals as goal

pub returns : goal.returns
returns c = rw (lowest_is, highest_is)
