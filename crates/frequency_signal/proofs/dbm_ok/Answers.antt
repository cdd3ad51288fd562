use Rattle.limits.proofs.Constants.{lowest_is, highest_is}
use Rattle.frequency_signal.proofs.dbm_ok.Goals as goal

pub returns : goal.returns
returns c = cc (lowest_is, highest_is)
