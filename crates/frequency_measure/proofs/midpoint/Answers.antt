use Rattle.frequency_measure.proofs.Constants.{two_is}
use Rattle.frequency_measure.specs.Measured.{middle}
use Rattle.frequency_measure.proofs.midpoint.Goals as goal

pub returns : goal.returns
unfolding middle
returns c = cc two_is
