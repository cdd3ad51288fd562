use Rattle.std.proofs.Common.{refl}
use Rattle.ledger.specs.Frames.{rank_of, rssi_of, time_of}
use Rattle.ledger.specs.Merge.{merge, end_after}
use Rattle.receiver_message.specs.Messages.{frame_of}
use Rattle.receiver_message.proofs.merged.Goals as goal

pub returns : goal.returns
unfolding merge end_after rank_of rssi_of time_of
returns c =
    rw (c.end_after-q.ensures, c.louder-q.ensures, c.meet-q.ensures (frame_of c.args.f c.args.r) c.span_of.ensures) refl
