use mathlib.Core.Path.{refl}
use Rattle.ledger.specs.Frames.{rank_of}
use Rattle.ledger.specs.Merge.{span_of}
use Rattle.receiver_message.proofs.span_of.Goals as goal

pub returns : goal.returns
unfolding span_of rank_of
returns c = refl
