-- What receiver.rs keeps of an open message (`Pending`), how it merges frames into it, and the message that it writes. Assumes nothing.
use Rattle.std.specs.Prelude.{ℕ, Bool, false, not, ◌&&◌, ◌||◌, cond, List, [], ◌∷◌, leb, ltb, eqb, Float, None, Some, Option}
use Rattle.std.specs.Float.{binary64}
use Rattle.std.specs.Float.Ieee.{lt, sub, add, mul}
use Rattle.floats.specs.Number.{num}
use Rattle.floats.specs.Number as number
use Rattle.record.specs.Record.{no_rank}
use Rattle.ledger.specs.Types.{FrameSpan, SigfoxMessage, Pending}
use Rattle.ledger.specs.Frames.{Key, Frame, rank_of, rssi_of, time_of}

-- 10 s: receiver.rs QUIET_S. Repetitions start about 4 s apart and a frame is decoded about 2 s after its start, so a message waits this long for the next
abbrev pub quiet_s : Float
quiet_s = num 10

-- receiver.rs FRAME_GAP_S: from the end of one repetition to the start of the next
abbrev pub frame_gap_s : Float
frame_gap_s = number.near 243 100

-- the rank of a place that holds no span, as in the record's bytes 44 to 46
abbrev pub no_span : ℕ
no_span = no_rank

unfoldable pub entry_key : Pending → Key
entry_key e = record { device = e.message.device_id; counter = e.message.counter }

-- ---- spans

abbrev pub empty_span : FrameSpan
empty_span = record { rank = no_span; time = num 0; end = num 0 }

unfoldable pub span_of : Frame → FrameSpan
span_of f = record { rank = rank_of f; time = f.reception.time; end = f.reception.end }

-- the rank r is there
unfoldable pub has : ℕ → List FrameSpan → Bool
has r [] = false
has r (s ∷ l) = eqb s.rank r || has r l

-- into the first place that holds no span
unfoldable pub place : Frame → List FrameSpan → List FrameSpan
place f [] = []
place f (s ∷ l) = cond (eqb s.rank no_span) (span_of f ∷ l) (s ∷ place f l)

-- `if !m.ranks.contains(&f.rank)`: the first frame of each rank has a span, in arrival order
unfoldable pub meet : List FrameSpan → Frame → List FrameSpan
meet l f = cond (has (rank_of f) l) l (place f l)

-- all three ranks
unfoldable pub three_ranks : List FrameSpan → Bool
three_ranks l = has 0 l && (has 1 l && has 2 l)

-- ---- `merge`

-- `if f.rank == 0`: the end of the last frame of rank 0
unfoldable pub end_after : Option Float → Frame → Option Float
end_after o f = cond (eqb (rank_of f) 0) (Some f.reception.end) o

-- `m.rssi.max(d.rssi)`
unfoldable pub louder : Float → Float → Float
louder v w = cond (lt v w) w v

-- where no message is open with its device and counter; "a message has its first frame's" depth (02, request 05)
unfoldable pub open_entry : Frame → Pending
open_entry f =
    record {
      message =
          record {
            device_id = f.uplink.device_id;
            counter = f.uplink.counter;
            payload = f.uplink.payload;
            payload_len = f.uplink.payload_len;
            bit = f.uplink.bit;
            downlink = f.uplink.downlink;
            control = f.uplink.control;
            auth = f.uplink.auth;
            auth_len = f.uplink.auth_len;
            time = f.reception.time;
            first_frame_end = end_after None f;
            rssi = f.reception.rssi;
            spans = span_of f ∷ empty_span ∷ empty_span ∷ [];
            clock_error_ppm = f.reception.clock_error_ppm;
            start = f.reception.start;
            depth = f.reception.depth;
          };
      last = f.reception.time;
    }

-- where one is
unfoldable pub merge : Pending → Frame → Pending
merge e f =
    record {
      message =
          record {
            device_id = e.message.device_id;
            counter = e.message.counter;
            payload = e.message.payload;
            payload_len = e.message.payload_len;
            bit = e.message.bit;
            downlink = e.message.downlink;
            control = e.message.control;
            auth = e.message.auth;
            auth_len = e.message.auth_len;
            time = e.message.time;
            first_frame_end = end_after e.message.first_frame_end f;
            rssi = louder e.message.rssi (rssi_of f);
            spans = meet e.message.spans f;
            clock_error_ppm = e.message.clock_error_ppm;
            start = e.message.start;
            depth = e.message.depth;
          };
      last = time_of f;
    }

unfoldable pub merge_all : Pending → List Frame → Pending
merge_all e [] = e
merge_all e (f ∷ l) = merge_all (merge e f) l

-- ---- `expire`

-- three ranks, or a time over 10 s past the frame that joined last
unfoldable pub expires : Float → Pending → Bool
expires t e = three_ranks e.message.spans || lt quiet_s (sub binary64 t e.last)

-- a span of rank 1 or 2
abbrev pub later : FrameSpan → Bool
later s = ltb 0 s.rank && not (eqb s.rank no_span)

-- `min_by_key(|x| x.rank)`: the first of the lowest rank
unfoldable pub lower : FrameSpan → Option FrameSpan → FrameSpan
lower s None = s
lower s (Some t) = cond (leb s.rank t.rank) s t

unfoldable pub lowest_later : List FrameSpan → Option FrameSpan
lowest_later [] = None
lowest_later (s ∷ l) = cond (later s) (Some (lower s (lowest_later l))) (lowest_later l)

-- `f.end - f.rank as f64 * (f.end - f.time + FRAME_GAP_S)`
abbrev pub end_before : FrameSpan → Float
end_before s = sub binary64 s.end (mul binary64 (num s.rank) (add binary64 (sub binary64 s.end s.time) frame_gap_s))

unfoldable pub known_of : Option FrameSpan → Option Float
known_of None = None
known_of (Some s) = Some (end_before s)

-- `estimate_first_frame_end`: all three repetitions last as long and are the gap apart
abbrev pub estimate : List FrameSpan → Option Float
estimate l = known_of (lowest_later l)

-- `.or_else(..)`: the estimate is used where rank 0 is missing
unfoldable pub or_else : Option Float → Option Float → Option Float
or_else (Some t) o = Some t
or_else None o = o

-- the message as it is written
unfoldable pub finished : Pending → SigfoxMessage
finished e =
    record {
      device_id = e.message.device_id;
      counter = e.message.counter;
      payload = e.message.payload;
      payload_len = e.message.payload_len;
      bit = e.message.bit;
      downlink = e.message.downlink;
      control = e.message.control;
      auth = e.message.auth;
      auth_len = e.message.auth_len;
      time = e.message.time;
      first_frame_end = or_else e.message.first_frame_end (estimate e.message.spans);
      rssi = e.message.rssi;
      spans = e.message.spans;
      clock_error_ppm = e.message.clock_error_ppm;
      start = e.message.start;
      depth = e.message.depth;
    }
