use Rattle.std.proofs.Common.{refl}
use lib.Ieee.{of_bits, round}
use Rattle.explaining.specs.Verdicts.{is_far}
use Rattle.explaining.proofs.is_far.Goals as goal

pub returns : goal.returns
unfolding is_far of_bits round
returns c = rw c.abs64.ensures refl
