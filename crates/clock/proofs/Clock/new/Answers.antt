use Rattle.std.proofs.Common.{refl}
use Rattle.floats.proofs.Trigs.{zero_is}
use Rattle.clock.specs.Running.{start_clock}
use Rattle.clock.proofs.Clock.new.Goals as goal

pub returns : goal.returns
unfolding start_clock
returns c = (rw zero_is, refl)
