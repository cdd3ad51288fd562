-- What a call of the receiver does in `listen` (01, frequency.rs): by 01's ledger its refusal, or its records told. Assumes nothing.
use Rattle.std.specs.Prelude.{ℕ, zero, suc, List, map}
use Rattle.shifts.specs.Shifts.{no_schedule, mark_by}
use Rattle.ledger.specs.Ledger.{by_frames, Ledger, Call}
use Rattle.ledger.specs.Causes.{Lent, Attempt, number, after_call, call_events}
use Rattle.ledger.specs.Demodulation.{demod_of}
use Rattle.ledger.specs.Records.{record_of}
use Rattle.listening_records.specs.Emission.{Emission, Asked, emitted_all}

-- "runs both at 1,000 samples/s"
abbrev pub rate : ℕ
rate = 1000

-- what `listen` lends: samples and scratch of 12 × rate places, 256 records of 120 bytes, and as many f64 as readings fit ("8,000 readings")
abbrev pub lent_lengths : Lent
lent_lengths = record { samples = 12000; events = 30720; scratch32 = 12000; scratch64 = 8000 }

-- records that the event buffer holds
abbrev pub most : ℕ
most = 256

-- a call of the receiver as `listen` makes it: without shifts
abbrev pub attempt : Call → Attempt
attempt c = record { call = c; lent = lent_lengths; schedule = no_schedule }

-- the number of its refusal or 0, its records, and the ledger after it
abbrev pub call_refusal : Ledger by_frames → Call → ℕ
call_refusal l c = number rate l (attempt c)

abbrev pub call_records : Ledger by_frames → Call → List (List ℕ)
call_records l c = map (record_of (mark_by no_schedule)) (call_events rate (demod_of rate) l c (call_refusal l c))

abbrev pub ledger_after : Ledger by_frames → Call → Ledger by_frames
ledger_after l c = after_call rate (demod_of rate) l c (call_refusal l c)

-- a refused call brings its number and no record; one that is accepted has its records told
unfoldable pub heard_by : ℕ → Asked → Emission → List (List ℕ) → Emission
heard_by zero q p rs = emitted_all q p rs
heard_by (suc k) q p rs = record { refused = suc k; frames = p.frames; messages = p.messages; text = p.text }

unfoldable pub heard : Asked → Emission → Ledger by_frames → Call → Emission
unfolding heard_by
heard q p l c = heard_by (call_refusal l c) q p (call_records l c)
