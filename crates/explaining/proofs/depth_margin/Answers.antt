use Rattle.std.proofs.Common.{rules}
use lib.Ieee.{sub, of_bits, of_int}
use Rattle.explaining.specs.Margins.{depth_margin}
use Rattle.explaining.proofs.depth_margin.Goals as goal

pub returns : goal.returns
unfolding sub depth_margin of_bits of_int
returns c = search rules
