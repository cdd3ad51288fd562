-- What the C function answers and leaves in its record (01: '0 and the record (clock, RSSI, times and start 0), 255 and nothing written for no frame, or a refusal'). Assumes nothing.
use Rattle.std.specs.Prelude.{ℕ, cond, List, ltb, length, pos, Option, None, Some}
use Rattle.std.proofs.lemmas.List.Edits.{sets}
use Rattle.std.specs.Float.{binary32, binary64}
use Rattle.std.specs.Float.Ieee.{of_bits}
use Rattle.limits.specs.Limits.{short, record_size}
use Rattle.limits.specs.Answer.{Answer, refused, accepted}
use Rattle.frame.specs.Decode.{uplink_answer}
use Rattle.frame.specs.declared.UplinkFrame.{UplinkFrame}
use Rattle.record.specs.Record.{frame_record}
use Rattle.record.specs.declared.Reception.{Reception}

-- bits alone have no clock, RSSI, times and start; "the C function, which has no dips, writes 0" (02, request 05)
abbrev pub unheard : Reception
unheard = record { clock_error_ppm = pos 0; rssi = of_bits binary32 0; time = of_bits binary64 0; end = of_bits binary64 0; start = 0; depth = 0 }

-- the number that C is told of an answer: 0 with a frame, 255 for no frame, or a refusal's
abbrev pub number_of : Answer (Option UplinkFrame) → ℕ
number_of (refused n) = n
number_of (accepted None) = 255
number_of (accepted (Some f)) = 0

unfoldable pub decode_number : List ℕ → List ℕ → ℕ
decode_number bits out = cond (ltb (length out) record_size) short (number_of (uplink_answer bits))

-- the record after it: written where there is a frame
abbrev pub record_by : Answer (Option UplinkFrame) → List ℕ → List ℕ
record_by (refused n) was = was
record_by (accepted None) was = was
record_by (accepted (Some f)) was = sets was 0 (frame_record f unheard)

unfoldable pub decode_record : List ℕ → List ℕ → List ℕ
decode_record bits out = cond (ltb (length out) record_size) out (record_by (uplink_answer bits) out)
