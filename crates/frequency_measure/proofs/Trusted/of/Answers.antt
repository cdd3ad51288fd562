use Rattle.frequency_measure.proofs.Constants.{settle_is}
use Rattle.frequency_measure.proofs.Trusted.of.Goals as goal

pub returns-clause-first : goal.returns-clause-first
returns-clause-first c = cc settle_is
