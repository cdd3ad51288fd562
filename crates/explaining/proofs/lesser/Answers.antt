use Rattle.std.proofs.Common.{rules}
use Rattle.explaining.specs.Margins.{lesser}
use Rattle.explaining.proofs.lesser.Goals as goal

pub returns : goal.returns
unfolding lesser
returns c = search rules
