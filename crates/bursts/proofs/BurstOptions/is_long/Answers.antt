use Rattle.bursts.proofs.Constants.{ms_per_s_is}
use Rattle.bursts.proofs.BurstOptions.is_long.Goals as goal

pub returns : goal.returns
returns c = cc (c.count_as_f64.ensures, ms_per_s_is)
