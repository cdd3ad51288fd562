-- What a call's records make `listen` print and count (01, frequency.rs: its lines `M`, `R` and `E`): a frame is counted, a message is counted and printed, nothing after a refusal. Assumes nothing.
use Rattle.std.specs.Prelude.{ℕ, ◌+◌, ◌*◌, ◌%◌, ◌≤◌, ◌≡◌, Bool, cond, List, [], ◌∷◌, ◌++◌, eqb, length, Float, Option, None}
use Rattle.std.specs.Float.{binary64}
use Rattle.std.specs.Float.Ieee.{sub, div}
use Rattle.floats.specs.Number.{num}
use Rattle.record.specs.declared.FrameSpan.{FrameSpan}
use Rattle.record.specs.Record.{frame_kind}
use Rattle.record.specs.Readers.{kind_of, flags_of, span_at}
use Rattle.frequency_lists.specs.declared.Reading.{Reading}
use Rattle.frequency.specs.declared.FrequencyTracker.{FrequencyTracker}
use Rattle.limits.specs.Answer.{Answer, refused, accepted}
use Rattle.frequency.specs.Calls.{frame1_answer}
use Rattle.listening_lines.specs.Text.{Added, widest}
use Rattle.listening_lines.specs.Lines.{message_line}
use Rattle.listening_records.specs.declared.Told.{Told}
use Rattle.listening_records.specs.declared.tracked.Tracked.{Tracked}

-- the number of a refusal or 0, what was counted ("E samples frames messages"), and the text of the lines
pub record Emission : Type 0 where
  pub refused : ℕ
  pub frames : ℕ
  pub messages : ℕ
  pub text : List ℕ

-- 02, request 04: "earlier by the samples passed over/1000", in binary64
abbrev pub earlier : ℕ → Float
earlier passed = div binary64 (num passed) (num 1000)

-- a message's spans and flag, read off its record, its times earlier by that; the rank is as it is
abbrev pub shifted : Float → FrameSpan → FrameSpan
shifted by s = record { rank = s.rank; time = sub binary64 s.time by; end = sub binary64 s.end by }

abbrev pub span_in : Float → List ℕ → ℕ → FrameSpan
span_in by e i = shifted by (span_at e i)

abbrev pub spans_in : Float → List ℕ → List FrameSpan
spans_in by e = span_in by e 0 ∷ span_in by e 1 ∷ span_in by e 2 ∷ []

-- byte 2 includes the value 1
abbrev pub downlink_in : List ℕ → Bool
downlink_in e = eqb (flags_of e % 2) 1

-- a frame is counted
abbrev pub with_frame : Emission → Emission
with_frame p = record { refused = 0; frames = p.frames + 1; messages = p.messages; text = p.text }

-- a message is counted and printed, with its frequency or `-`
abbrev pub with_line : List ℕ → Option ℕ → Emission → Emission
with_line e hz p = record { refused = 0; frames = p.frames; messages = p.messages + 1; text = p.text ++ message_line e hz }

-- by the answer of `frame1`: "on a refusal" its number, and nothing of the message
unfoldable pub with_message : List ℕ → Answer (Option ℕ) → Emission → Emission
with_message e (refused n) p = record { refused = n; frames = p.frames; messages = p.messages; text = p.text }
with_message e (accepted hz) p = with_line e hz p

-- what `frame1` is asked of: whether a frequency has come, the samples passed over before the tracker's first record, the tracker with its readings, and the room of its scratch
pub record Asked : Type 0 where
  pub started : Bool
  pub passed : ℕ
  pub tracker : FrequencyTracker
  pub readings : List Reading
  pub room : ℕ

abbrev pub asked : Tracked → ℕ → Asked
asked q room = record { started = q.started; passed = q.passed; tracker = q.tracker; readings = q.readings.now; room = room }

-- the answer of `frame1` for a message; 02, request 04: "A message written while no frequency has come prints `-` for hz"
unfoldable pub answer_for : Asked → List ℕ → Answer (Option ℕ)
answer_for q e =
    cond q.started (frame1_answer q.tracker q.readings q.room (spans_in (earlier q.passed) e) (downlink_in e)) (accepted None)

-- one record; nothing after a refusal
unfoldable pub emitted : Asked → Emission → List ℕ → Emission
unfolding answer_for with_message
emitted q p e = cond (eqb p.refused 0) (cond (eqb (kind_of e) frame_kind) (with_frame p) (with_message e (answer_for q e) p)) p

-- a call's records, in order
unfoldable pub emitted_all : Asked → Emission → List (List ℕ) → Emission
emitted_all q p [] = p
emitted_all q p (e ∷ es) = emitted_all q (emitted q p e) es

-- what the code has of it, with the number of its refusal or 0: the counts, and the text behind what stood in a buffer
pub record Tells (p : Emission) (old : List ℕ) (start number : ℕ) (r : Told) (new : List ℕ) : Type 0 where
  pub refused : number ≡ p.refused
  pub frames : r.frames ≡ p.frames
  pub messages : r.messages ≡ p.messages
  pub text : Added old start p.text r.end new

-- what bounds it: a record adds a line and one to each count at the most
pub record Within (t r : Told) (old new : List ℕ) : Type 0 where
  pub end : r.end ≤ t.end + widest
  pub frames : r.frames ≤ t.frames + 1
  pub messages : r.messages ≤ t.messages + 1
  pub room : length new ≡ length old

-- and so each of a call's records
pub record Grown (count : ℕ) (t r : Told) (old new : List ℕ) : Type 0 where
  pub end : r.end ≤ t.end + widest * count
  pub frames : r.frames ≤ t.frames + count
  pub messages : r.messages ≤ t.messages + count
  pub room : length new ≡ length old
