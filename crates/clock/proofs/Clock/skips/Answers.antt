use Rattle.clock.specs.Running.{skips}
use Rattle.std.proofs.Common.{refl}
use lib.Ieee.{of_bits, round}
use Rattle.clock.proofs.Clock.skips.Goals as goal

pub returns : goal.returns
unfolding skips of_bits round
returns c = rw (c.abs64.ensures, c.place.ensures.0) refl
