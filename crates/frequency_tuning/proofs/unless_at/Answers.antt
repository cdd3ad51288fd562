use Rattle.std.proofs.Common.{◌∙◌}
use Rattle.frequency_measure.proofs.Picked.{then_some-not}
use Rattle.frequency_tuning.proofs.unless_at.Goals as goal

pub returns : goal.returns
returns c = c.then_some.ensures ∙ then_some-not _ _
