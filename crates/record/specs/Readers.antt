-- The fields of a record, read back by 01's table: one definition for each. Assumes nothing.
use Rattle.std.specs.Prelude.{ℕ, ◌+◌, ◌*◌, List, [], ◌∷◌, take, drop, ℤ, Float}
use Rattle.std.specs.Float.{binary32, binary64}
use Rattle.endian.specs.Bytes.{number_at, signed_of, float_at}
use Rattle.frame.specs.Fields.{byte_at}
use Rattle.record.specs.declared.FrameSpan.{FrameSpan}

abbrev pub kind_of : List ℕ → ℕ
kind_of l = byte_at l 0

-- the rank of a frame, the mask of a message
abbrev pub rank_of : List ℕ → ℕ
rank_of l = byte_at l 1

abbrev pub flags_of : List ℕ → ℕ
flags_of l = byte_at l 2

abbrev pub payload_len_of : List ℕ → ℕ
payload_len_of l = byte_at l 3

abbrev pub auth_len_of : List ℕ → ℕ
auth_len_of l = byte_at l 4

abbrev pub repair_of : List ℕ → ℕ
repair_of l = byte_at l 5

abbrev pub place_of : List ℕ → ℕ
place_of l = number_at 2 l 6

abbrev pub device_of : List ℕ → ℕ
device_of l = number_at 4 l 8

abbrev pub counter_of : List ℕ → ℕ
counter_of l = number_at 2 l 12

abbrev pub payload_of : List ℕ → List ℕ
payload_of l = take 12 (drop 16 l)

abbrev pub auth_of : List ℕ → List ℕ
auth_of l = take 5 (drop 28 l)

-- the dips' depth in half decibels (02, request 05)
abbrev pub depth_of : List ℕ → ℕ
depth_of l = byte_at l 33

-- the mark of a message (02, request 03)
abbrev pub mark_of : List ℕ → ℕ
mark_of l = byte_at l 34

abbrev pub ppm_of : List ℕ → ℤ
ppm_of l = signed_of 32 (number_at 4 l 36)

abbrev pub rssi_of : List ℕ → Float
rssi_of l = float_at binary32 4 l 40

-- of span i
abbrev pub span_rank_of : List ℕ → ℕ → ℕ
span_rank_of l i = byte_at l (44 + i)

abbrev pub time_of : List ℕ → Float
time_of l = float_at binary64 8 l 48

-- the end of a frame, the first-frame end of a message
abbrev pub end_of : List ℕ → Float
end_of l = float_at binary64 8 l 56

abbrev pub span_time_of : List ℕ → ℕ → Float
span_time_of l i = float_at binary64 8 l (64 + 16 * i)

abbrev pub span_end_of : List ℕ → ℕ → Float
span_end_of l i = float_at binary64 8 l (72 + 16 * i)

abbrev pub start_of : List ℕ → ℕ
start_of l = number_at 8 l 112

-- a message's span i, and its three
abbrev pub span_at : List ℕ → ℕ → FrameSpan
span_at l i = record { rank = span_rank_of l i; time = span_time_of l i; end = span_end_of l i }

abbrev pub spans_of : List ℕ → List FrameSpan
spans_of l = span_at l 0 ∷ span_at l 1 ∷ span_at l 2 ∷ []
