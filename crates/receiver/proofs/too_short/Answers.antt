use mathlib.Core.Path.{refl}
use Rattle.receiver.proofs.too_short.Goals as goal

pub returns : goal.returns
returns c = rw c.capacity-capacity.ensures refl
