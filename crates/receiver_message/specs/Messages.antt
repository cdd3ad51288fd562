-- A frame of the ledger by the two structs that the code has of it, and the answer of a search among spans. Assumes nothing.
use Rattle.std.specs.Prelude.{ℕ, List, cond, not, Float, Option}
use Rattle.limits.specs.Limits.{bad_number}
use Rattle.limits.specs.Answer.{Answer, answer}
use Rattle.record.specs.Spans.{spans_ok}
use Rattle.ledger.specs.Merge.{estimate}
use Rattle.frame.specs.declared.UplinkFrame.{UplinkFrame}
use Rattle.record.specs.declared.Reception.{Reception}
use Rattle.record.specs.declared.FrameSpan.{FrameSpan}
use Rattle.ledger.specs.Frames.{Frame}

abbrev pub frame_of : UplinkFrame → Reception → Frame
frame_of f r = record { uplink = f; reception = r }

-- the cause that applies, 0 where none does: 9
unfoldable pub estimate_cause : List FrameSpan → ℕ
estimate_cause l = cond (not (spans_ok l)) bad_number 0

-- receiver.rs `estimate_first_frame_end`; an unknown end is an ordinary answer
unfoldable pub estimate_answer : List FrameSpan → Answer (Option Float)
unfolding estimate_cause
estimate_answer l = answer (estimate_cause l) (estimate l)
