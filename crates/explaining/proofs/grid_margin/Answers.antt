use Rattle.std.proofs.Common.{refl}
use lib.Ieee.{of_bits, round}
use Rattle.explaining.specs.Margins.{grid_margin}
use Rattle.explaining.proofs.grid_margin.Goals as goal

pub returns : goal.returns
unfolding grid_margin of_bits round
returns c = rw c.abs64.ensures refl
