use mathlib.Core.Path.{refl}
use Rattle.receiver_message.proofs.SpanLaws.{gap_is}
use Rattle.receiver_message.proofs.end_before.Goals as goal

pub returns : goal.returns
returns c = rw gap_is refl
