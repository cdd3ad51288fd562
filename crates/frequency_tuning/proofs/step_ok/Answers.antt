use Rattle.frequency_tuning.proofs.Constants.{zero_is, step_is}
use Rattle.frequency_tuning.proofs.step_ok.Goals as goal

pub returns : goal.returns
returns c = cc (zero_is, step_is)
