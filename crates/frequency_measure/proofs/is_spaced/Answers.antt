use Rattle.frequency_measure.proofs.Constants.{delta_is, low_is, high_is}
use Rattle.frequency_measure.proofs.is_spaced.Goals as goal

pub returns : goal.returns
returns c = cc (delta_is, low_is, high_is)
