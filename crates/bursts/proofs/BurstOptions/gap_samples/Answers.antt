use Rattle.bursts.proofs.Constants.{ms_per_s_is}
use Rattle.bursts.proofs.BurstOptions.gap_samples.Goals as goal

pub returns : goal.returns
returns c = cc (c.to_usize_saturating.ensures, c.round_half_up.ensures, ms_per_s_is)
