-- The 120-byte event record, by 01's table: little-endian, spare bytes 0. A frame's and a message's are the same seven parts. Assumes nothing.
use Rattle.std.specs.Prelude.{ℕ, ◌+◌, Bool, cond, List, ◌∷◌, ◌++◌, eqb, length, take, replicate, get_or, ℤ, Float, Option, None, Some}
use Rattle.std.specs.Float.{nan, binary32, binary64}
use Rattle.std.specs.Float.Ieee.{of_bits}
use Rattle.endian.specs.Bytes.{bytes_of, bits_of, signed_bits}
use Rattle.frame.specs.Fields.{padded}
use Rattle.frame.specs.declared.Repair.{Repair}
use Rattle.frame.specs.declared.Repair.TheVariants.{Inserted, Deleted, Flipped}
use Rattle.frame.specs.declared.UplinkFrame.{UplinkFrame}
use Rattle.record.specs.declared.Reception.{Reception}
use Rattle.record.specs.declared.FrameSpan.{FrameSpan}
use Rattle.record.specs.declared.SigfoxMessage.{SigfoxMessage}
use Rattle.record.specs.declared.parts.Head.{Head}
use Rattle.record.specs.declared.parts.Marks.{Marks}

-- bytes that no field has
abbrev pub spare : ℕ → List ℕ
spare n = replicate n 0

-- an array whose first bytes count, as payload and auth: its other places are spare, whatever a state has there
unfoldable pub up_to : ℕ → List ℕ → List ℕ
up_to len l = padded (length l) (take len l)

-- byte 0: kind 1 frame, 2 message
abbrev pub frame_kind : ℕ
frame_kind = 1

abbrev pub message_kind : ℕ
message_kind = 2

-- byte 2: sum of 1 downlink, 2 control, 4 CRC right, 8 bit present, 16 bit true, 32 first-frame end known
abbrev pub flag : ℕ → Bool → ℕ
flag w b = cond b w 0

abbrev pub bit_flags : Option Bool → ℕ
bit_flags None = 0
bit_flags (Some b) = 8 + flag 16 b

abbrev pub known_flag : Option Float → ℕ
known_flag (Some t) = 32
known_flag None = 0

abbrev pub frame_flags : UplinkFrame → ℕ
frame_flags f = flag 1 f.downlink + flag 2 f.control + flag 4 f.crc_ok + bit_flags f.bit

-- 'in a message byte 2 includes the value 4'
abbrev pub message_flags : SigfoxMessage → ℕ
message_flags m = flag 1 m.downlink + flag 2 m.control + 4 + bit_flags m.bit + known_flag m.first_frame_end

-- byte 5: repair 0 none, 1 inserted false, 2 inserted true, 3 deleted, 4 flipped; 6-7: its place
abbrev pub repair_number : Option Repair → ℕ
repair_number None = 0
repair_number (Some (Inserted b i)) = cond b 2 1
repair_number (Some (Deleted i)) = 3
repair_number (Some (Flipped i)) = 4

abbrev pub repair_place : Option Repair → ℕ
repair_place None = 0
repair_place (Some (Inserted b i)) = i
repair_place (Some (Deleted i)) = i
repair_place (Some (Flipped i)) = i

-- byte 1 of a message: sum of 1, 2, 4 for ranks 0, 1, 2; 255 is no span
abbrev pub no_rank : ℕ
no_rank = 255

abbrev pub rank_bit : ℕ → ℕ
rank_bit r = cond (eqb r 0) 1 (cond (eqb r 1) 2 (cond (eqb r 2) 4 0))

abbrev pub blank_span : FrameSpan
blank_span = record { rank = 0; time = nan; end = nan }

abbrev pub span_of : SigfoxMessage → ℕ → FrameSpan
span_of m i = get_or m.spans i blank_span

abbrev pub mask_of : SigfoxMessage → ℕ
mask_of m = rank_bit (span_of m 0).rank + rank_bit (span_of m 1).rank + rank_bit (span_of m 2).rank

-- ---- the seven parts

-- 0-7: kind, rank or mask, flags, payload and auth length, repair and its place
unfoldable pub head_bytes : Head → List ℕ
head_bytes h = h.kind ∷ h.rank ∷ h.flags ∷ h.payload_len ∷ h.auth_len ∷ h.repair ∷ bytes_of 2 h.place

-- 33-35: "Event byte 33 gives it in half decibels" (02, request 05: the depth), "Event byte 34 holds the mark" (request 03), a spare byte
unfoldable pub mark_bytes : Marks → List ℕ
mark_bytes k = k.depth ∷ k.shift ∷ spare 1

-- 8-35: device, counter, payload and auth with their lengths, marks
unfoldable pub identity_bytes : ℕ → ℕ → ℕ → List ℕ → ℕ → List ℕ → Marks → List ℕ
unfolding up_to mark_bytes
identity_bytes device counter n payload m auth k = bytes_of 4 device ++ (bytes_of 2 counter ++ (spare 2 ++ (up_to n payload ++ (up_to m auth ++ mark_bytes k))))

-- 36-43: clock ppm, RSSI
unfoldable pub level_bytes : ℤ → Float → List ℕ
level_bytes ppm rssi = bytes_of 4 (signed_bits 32 ppm) ++ bytes_of 4 (bits_of binary32 rssi)

-- 44-47: ranks of the spans in arrival order
unfoldable pub rank_bytes : ℕ → ℕ → ℕ → List ℕ
rank_bytes a b c = a ∷ b ∷ c ∷ spare 1

-- 48-63: time; end, or first-frame end or 0
unfoldable pub time_bytes : Float → Float → List ℕ
time_bytes time end = bytes_of 8 (bits_of binary64 time) ++ bytes_of 8 (bits_of binary64 end)

abbrev pub end_of : Option Float → Float
end_of (Some t) = t
end_of None = of_bits binary64 0

-- 64-111: three spans; 'unused spans are 0'
unfoldable pub span_bytes : FrameSpan → List ℕ
unfolding time_bytes
span_bytes s = cond (eqb s.rank no_rank) (spare 16) (time_bytes s.time s.end)

-- 112-119: absolute start sample
abbrev pub start_bytes : ℕ → List ℕ
start_bytes start = bytes_of 8 start

-- ---- the records

abbrev pub frame_head : UplinkFrame → Head
frame_head f = record {
  kind = frame_kind;
  rank = f.rank;
  flags = frame_flags f;
  payload_len = f.payload_len;
  auth_len = f.auth_len;
  repair = repair_number f.repaired;
  place = repair_place f.repaired;
}

-- a frame has a depth and no mark
abbrev pub frame_marks : Reception → Marks
frame_marks r = record { depth = r.depth; shift = 0 }

unfoldable pub frame_record : UplinkFrame → Reception → List ℕ
unfolding head_bytes identity_bytes level_bytes rank_bytes time_bytes
frame_record f r =
    head_bytes (frame_head f)
    ++ (identity_bytes f.device_id f.counter f.payload_len f.payload f.auth_len f.auth (frame_marks r)
    ++ (level_bytes r.clock_error_ppm r.rssi
    ++ (rank_bytes no_rank no_rank no_rank
    ++ (time_bytes r.time r.end
    ++ (spare 48
    ++ start_bytes r.start)))))

abbrev pub message_head : SigfoxMessage → Head
message_head m = record {
  kind = message_kind;
  rank = mask_of m;
  flags = message_flags m;
  payload_len = m.payload_len;
  auth_len = m.auth_len;
  repair = 0;
  place = 0;
}

abbrev pub message_marks : ℕ → SigfoxMessage → Marks
message_marks mark m = record { depth = m.depth; shift = mark }

-- a message with its mark
unfoldable pub message_record : ℕ → SigfoxMessage → List ℕ
unfolding head_bytes identity_bytes level_bytes rank_bytes time_bytes span_bytes
message_record mark m =
    head_bytes (message_head m)
    ++ (identity_bytes m.device_id m.counter m.payload_len m.payload m.auth_len m.auth (message_marks mark m)
    ++ (level_bytes m.clock_error_ppm m.rssi
    ++ (rank_bytes (span_of m 0).rank (span_of m 1).rank (span_of m 2).rank
    ++ (time_bytes m.time (end_of m.first_frame_end)
    ++ ((span_bytes (span_of m 0) ++ (span_bytes (span_of m 1) ++ span_bytes (span_of m 2)))
    ++ start_bytes m.start)))))
