use mathlib.Core.Path.{refl}
use Rattle.receiver_waiting.proofs.WaitingLaws.{zero_is, zero32_is}
use Rattle.receiver_waiting.proofs.blank.Goals as goal

pub returns : goal.returns
returns c = rw (zero_is, zero32_is) refl
