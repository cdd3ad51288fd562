use mathlib.Core.Path.{refl}
use Rattle.shifts.proofs.Times.{zero_is, farthest_is}
use Rattle.shifts.proofs.in_range.Goals as goal

pub returns : goal.returns
returns c = rw (zero_is, farthest_is) refl
