use Rattle.frequency_measure.proofs.Constants.{max_offset_is}
use Rattle.frequency_measure.proofs.is_near.Goals as goal

pub returns : goal.returns
returns c = cc max_offset_is
