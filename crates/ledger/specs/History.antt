-- The run of 01's ledger over a list of calls, refused ones included, as a client sees it. Assumes nothing.
use Rattle.std.specs.Prelude.{List, [], ◌∷◌, map, cond, ℕ, ◌+◌}
use Rattle.ledger.specs.Types.{FrameSpan, SigfoxMessage}
use Rattle.ledger.specs.Frames.{Frame, key_of, rank_of, right_crc, rssi_of, time_of, start_of}
use Rattle.ledger.specs.Merge.{has}
use Rattle.ledger.specs.Ledger.{by_frames, Demod, Ledger, fresh, Event, of_frame, of_message}
use Rattle.ledger.specs.Causes.{Attempt, number, after_call, call_events}
use Rattle.ledger.specs.Demand3.{SeenFrame, SeenMessage, Seen, frame, message, Turn}

-- what a client reads off a frame's record
unfoldable pub see_frame : Frame → SeenFrame
see_frame f = record { key = key_of f; rank = rank_of f; right = right_crc f; rssi = rssi_of f; time = time_of f; start = start_of f }

-- byte 1 of a message: "sum of 1, 2, 4 for ranks 0, 1, 2"
unfoldable pub mask_of : List FrameSpan → ℕ
mask_of l = cond (has 0 l) 1 0 + (cond (has 1 l) 2 0 + cond (has 2 l) 4 0)

-- what it reads off a message's
unfoldable pub see_message : SigfoxMessage → SeenMessage
see_message m =
    record {
      key = record { device = m.device_id; counter = m.counter };
      mask = mask_of m.spans;
      rssi = m.rssi;
      time = m.time;
      start = m.start;
    }

unfoldable pub see : Event → Seen
see (of_frame f) = frame (see_frame f)
see (of_message m) = message (see_message m)

-- one call, from the ledger l
abbrev pub turn_of : ℕ → Demod → Ledger by_frames → Attempt → Turn
turn_of rate d l a =
    record { call = a.call; refusal = number rate l a; records = map see (call_events rate d l a.call (number rate l a)) }

unfoldable pub history : ℕ → Demod → Ledger by_frames → List Attempt → List Turn
history rate d l [] = []
history rate d l (a ∷ cs) = turn_of rate d l a ∷ history rate d (after_call rate d l a.call (number rate l a)) cs

-- "from a fresh receiver"
abbrev pub run_of : ℕ → Demod → List Attempt → List Turn
run_of rate d cs = history rate d fresh cs
