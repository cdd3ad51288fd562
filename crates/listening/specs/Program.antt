-- 01's program `listen` (01, frequency.rs): from the bytes of its input the text of all its lines. Assumes nothing.
use Rattle.std.specs.Prelude.{ℕ, zero, suc, ◌+◌, ◌/◌, ◌%◌, ◌≡◌, Bool, true, false, not, ◌&&◌, cond, List, [], ◌++◌, map, eqb, length, take, drop, replicate, Float}
use Rattle.std.specs.Float.{binary64}
use Rattle.std.specs.Float.Ieee.{of_bits}
use Rattle.endian.specs.Bytes.{number_at}
use Rattle.ledger.specs.Ledger as ledger
use Rattle.ledger.specs.Ledger.{by_frames, Ledger, Call, push_raw, flush, dbm_of}
use Rattle.frequency_lists.specs.declared.Reading.{Reading}
use Rattle.frequency_lists.specs.declared.Tuning.{Tuning}
use Rattle.frequency.specs.declared.FrequencyTracker.{FrequencyTracker}
use Rattle.frequency.specs.Lent.{Lists, lists}
use Rattle.frequency.specs.Calls.{fresh}
use Rattle.listening_lines.specs.Lines.{tune_line, refusal_line, end_line}
use Rattle.listening_tracker.specs.Turn.{reading_places, Turn, stop, on, turn}
use Rattle.listening_records.specs.Emission.{Emission, Asked}
use Rattle.listening_receiver.specs.Hearing.{rate, heard, ledger_after}

-- ---- a record: "16-byte little-endian records, no header: 8 raw RSSI bytes, CFO u16, receiver frequency u32 in Hz, two bytes not read"
abbrev pub record_bytes : ℕ
record_bytes = 16

abbrev pub samples_each : ℕ
samples_each = 8

abbrev pub raw_of : List ℕ → List ℕ
raw_of r = take samples_each r

abbrev pub cfo_of : List ℕ → ℕ
cfo_of r = number_at 2 r 8

abbrev pub hz_of : List ℕ → ℕ
hz_of r = number_at 4 r 10

-- ---- between two records

-- whether a frequency that isn't 0 has come, and the samples passed over before it; the tracker and its lists; the receiver, as 01's ledger; samples handed to the receiver, frames and messages counted
pub record State : Type 0 where
  pub started : Bool
  pub passed : ℕ
  pub tracker : FrequencyTracker
  pub lists : Lists
  pub ledger : Ledger by_frames
  pub samples : ℕ
  pub frames : ℕ
  pub messages : ℕ

-- after a record: the number of a refusal or 0, the text of its lines without `R`, and the state
pub record Went : Type 0 where
  pub refused : ℕ
  pub text : List ℕ
  pub state : State

-- "the step is 122.0703125 Hz": 15,625 / 128, by its bits
abbrev pub step_hz : Float
step_hz = of_bits binary64 4638290351528869888

-- "8,000 readings and 64 tunings fit"
abbrev pub tuning_places : ℕ
tuning_places = 64

-- 02, request 04: "the base frequency is from now on that of the first record that isn't 0"
abbrev pub begun : Bool → FrequencyTracker → ℕ → FrequencyTracker
begun true t hz = t
begun false t hz = fresh rate hz step_hz

abbrev pub emission : State → List ℕ → Emission
emission s text = record { refused = 0; frames = s.frames; messages = s.messages; text = text }

abbrev pub asked_of : State → Asked
asked_of s = record { started = s.started; passed = s.passed; tracker = s.tracker; readings = s.lists.readings; room = reading_places }

-- a call of the receiver: its M lines behind the text
unfoldable pub received : State → List ℕ → Call → Went
received s text c =
    let e = heard (asked_of s) (emission s text) s.ledger c in
    record {
      refused = e.refused;
      text = e.text;
      state = record {
        started = s.started;
        passed = s.passed;
        tracker = s.tracker;
        lists = s.lists;
        ledger = ledger_after s.ledger c;
        samples = s.samples;
        frames = e.frames;
        messages = e.messages;
      };
    }

-- by what the tracker's calls answered: a refusal; or the T line, then `push_raw`
unfoldable pub turned : State → List ℕ → Turn → Went
unfolding received
turned s raw (stop k t l) =
    record {
      refused = k;
      text = [];
      state = record { started = true; passed = s.passed; tracker = t; lists = l; ledger = s.ledger; samples = s.samples; frames = s.frames; messages = s.messages };
    }
turned s raw (on t l f) =
    received
    (record { started = true; passed = s.passed; tracker = t; lists = l; ledger = s.ledger; samples = s.samples + samples_each; frames = s.frames; messages = s.messages })
    (tune_line f) (push_raw raw)

-- 02, request 04: "records before it feed the receiver but not the tracker"
unfoldable pub passed_over : State → List ℕ → Went
unfolding received
passed_over s raw =
    received
    (record {
      started = s.started;
      passed = s.passed + samples_each;
      tracker = s.tracker;
      lists = s.lists;
      ledger = s.ledger;
      samples = s.samples + samples_each;
      frames = s.frames;
      messages = s.messages;
    })
    [] (push_raw raw)

-- a record of the tracker and the receiver: "`tuned`, `samples`, `cfo`, `next_tuning`, `push_raw`"
unfoldable pub heard_by_both : State → List ℕ → Went
unfolding turned
heard_by_both s r = turned s (raw_of r) (turn reading_places (hz_of r) (map dbm_of (raw_of r)) (cfo_of r) (begun s.started s.tracker (hz_of r)) s.lists)

-- no frequency has come, nor does it with this one
abbrev pub waits : Bool → ℕ → Bool
waits started hz = not started && eqb hz 0

-- one record
unfoldable pub step : State → List ℕ → Went
unfolding passed_over heard_by_both
step s r = cond (waits s.started (hz_of r)) (passed_over s (raw_of r)) (heard_by_both s r)

-- ---- the whole input

-- "`R number` on a refusal"
unfoldable pub refusal_text : ℕ → List ℕ
refusal_text zero = []
refusal_text (suc k) = refusal_line (suc k)

-- what a record brings
abbrev pub handed : Went → List ℕ
handed w = w.text ++ refusal_text w.refused

-- "then nothing"
unfoldable pub unless_refused : ℕ → List ℕ → List ℕ
unless_refused zero rest = rest
unless_refused (suc k) rest = []

-- "then flush", "last `E samples frames messages leftover-bytes`"
unfoldable pub ending : State → ℕ → List ℕ
unfolding received refusal_text unless_refused
ending s leftover =
    let w = received s [] flush in
    handed w ++ unless_refused w.refused (end_line w.state.samples w.state.frames w.state.messages leftover)

-- the next n records, then the end
unfoldable pub texts : ℕ → State → ℕ → List ℕ → List ℕ
unfolding step ending refusal_text unless_refused
texts zero s leftover bytes = ending s leftover
texts (suc n) s leftover bytes =
    let w = step s (take record_bytes bytes) in
    handed w ++ unless_refused w.refused (texts n w.state leftover (drop record_bytes bytes))

-- 0.0, by its bits
abbrev pub zero64 : Float
zero64 = of_bits binary64 0

-- what stands in the places of the lists
abbrev pub no_reading : Reading
no_reading = record { at = 0; lo = 0; hz = zero64 }

abbrev pub no_tuning : Tuning
no_tuning = record { at = 0; freq = 0 }

unfoldable pub nothing_heard : State
nothing_heard = record {
  started = false;
  passed = 0;
  tracker = fresh rate 0 step_hz;
  lists = lists (replicate reading_places no_reading) (replicate tuning_places no_tuning);
  ledger = ledger.fresh;
  samples = 0;
  frames = 0;
  messages = 0;
}

unfoldable pub listen : List ℕ → List ℕ
unfolding texts nothing_heard
listen bytes = texts (length bytes / record_bytes) nothing_heard (length bytes % record_bytes) bytes

-- ---- the first n records: the state after them, what they bring, and that none of their calls was refused

unfoldable pub after : ℕ → State → List ℕ → State
unfolding step
after zero s bytes = s
after (suc n) s bytes = after n (step s (take record_bytes bytes)).state (drop record_bytes bytes)

unfoldable pub said : ℕ → State → List ℕ → List ℕ
unfolding step
said zero s bytes = []
said (suc n) s bytes = (step s (take record_bytes bytes)).text ++ said n (step s (take record_bytes bytes)).state (drop record_bytes bytes)

unfoldable pub Accepted : ℕ → State → List ℕ → Type 0
unfolding step
Accepted zero s bytes = Unit
Accepted (suc n) s bytes = ((step s (take record_bytes bytes)).refused ≡ 0) × Accepted n (step s (take record_bytes bytes)).state (drop record_bytes bytes)
