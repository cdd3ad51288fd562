use Rattle.std.proofs.Common.{rules}
use lib.Ieee.{div}
use Rattle.explaining.specs.Verdicts.{off_by}
use Rattle.explaining.proofs.off_by.Goals as goal

pub returns : goal.returns
unfolding div off_by
returns c = search rules
