-- The bytes of the ledger's records, and what a client reads off the bytes of a record. Assumes nothing.
use Rattle.std.specs.Prelude.{◌≡◌, List, [], ◌∷◌, ◌++◌, cond, ℕ, zero, suc, ◌*◌, ◌/◌, ◌%◌, length, take, drop, eqb, Float}
use Rattle.limits.specs.Limits.{record_size}
use Rattle.record.specs.Record.{frame_kind, frame_record, message_record}
use Rattle.record.specs.Readers.{kind_of, rank_of, flags_of, device_of, counter_of, rssi_of, time_of, start_of}
use Rattle.demod.specs.Capture.{joined}
use Rattle.ledger.specs.Frames.{Key, Frame}
use Rattle.ledger.specs.Ledger.{Event, of_frame, of_message}
use Rattle.ledger.specs.Demand3.{Seen, frame, message}

-- "a frame record .. with the table's bytes"
abbrev pub frame_bytes : Frame → List ℕ
frame_bytes f = frame_record f.uplink f.reception

-- "A message's bytes are the table's"; 02, request 03: "every message is marked .. by its time", in a call whose marks are these
unfoldable pub record_of : (Float → ℕ) → Event → List ℕ
record_of mark (of_frame f) = frame_bytes f
record_of mark (of_message m) = message_record (mark m.time) m

-- each record has its 120 bytes
abbrev pub Sized : List (List ℕ) → Type 0
Sized [] = Unit
Sized (r ∷ rs) = (length r ≡ record_size) × Sized rs

-- an event buffer with records at its start: "event bytes past the count .. keep their contents"
unfoldable pub with_records : List (List ℕ) → List ℕ → List ℕ
with_records rs old = joined rs ++ drop (record_size * length rs) old

-- the first n records of an event buffer: "A call's records are those its count names, as it returns"
unfoldable pub records_in : ℕ → List ℕ → List (List ℕ)
records_in zero events = []
records_in (suc n) events = take record_size events ∷ records_in n (drop record_size events)

abbrev pub key_in : List ℕ → Key
key_in r = record { device = device_of r; counter = counter_of r }

-- byte 2 includes the value 4: the CRC is right
unfoldable pub seen_in : List ℕ → Seen
seen_in r =
    cond (eqb (kind_of r) frame_kind)
    (frame (record { key = key_in r; rank = rank_of r; right = eqb (flags_of r / 4 % 2) 1; rssi = rssi_of r; time = time_of r; start = start_of r }))
    (message (record { key = key_in r; mask = rank_of r; rssi = rssi_of r; time = time_of r; start = start_of r }))
