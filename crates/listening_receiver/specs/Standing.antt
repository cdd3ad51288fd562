-- Scaffolding. What the code has of a call of the receiver in `listen`: the port stands for a ledger, before the call and after it. Assumes nothing.
use Rattle.std.specs.Prelude.{ℕ, ◌+◌, ◌*◌, ◌≤◌, ◌≡◌, List, length, replicate, Float, Result, Ok, Err}
use Rattle.limits.specs.declared.Refusal.{Refusal}
use Rattle.floats.specs.Number.{num}
use Rattle.shifts.specs.Shifts.{no_schedule}
use Rattle.ledger.specs.Ledger.{by_frames, Ledger, Call}
use Rattle.ledger.specs.Records.{with_records}
use Rattle.receiver.specs.declared.SigfoxReceiver.{SigfoxReceiver}
use Rattle.receiver.specs.Calls.{Memory, refusal_of, records_of, state_after, samples_after}
use Rattle.history.proofs.Standing.{Stands}
use Rattle.listening_lines.specs.Text.{widest}
use Rattle.listening_records.specs.Emission.{Emission, Asked, Tells}
use Rattle.listening_records.specs.declared.Told.{Told}
use Rattle.listening_receiver.specs.Hearing.{rate, most, heard, ledger_after}

-- the sample buffer at first; only its length counts
unfoldable pub silence : List Float
silence = replicate 12000 (num 0)

-- the receiver and its sample buffer stand for a ledger (demand 3's relation between the port and 01's ledger)
abbrev pub StandsFor : SigfoxReceiver → List Float → Ledger by_frames → Type 0
StandsFor s samples l = Stands rate silence (record { receiver = s; samples = samples }) l

-- they stand for some ledger
pub record Standing (s : SigfoxReceiver) (samples : List Float) : Type 0 where
  pub ledger : Ledger by_frames
  pub stands : StandsFor s samples ledger

-- how many records a call wrote
abbrev pub count_of : Result ℕ Refusal → ℕ
count_of (Ok n) = n
count_of (Err e) = 0

-- after a call: the number of a refusal or 0, what was told, and the receiver
pub record Heard : Type 0 where
  pub refused : ℕ
  pub told : Told
  pub receiver : SigfoxReceiver

-- what a call leaves: for every ledger that the port stands for, the text and counts are those of that ledger's call, and the port stands for the ledger after it;
-- the receiver, its samples and the event buffer by equation; room for a line a record
pub record Hears (q : Asked) (s : SigfoxReceiver) (c : Call) (before : Memory) (t : Told) (out : List ℕ) (r : Heard) (samples' : List Float) (events' out' : List ℕ) : Type 0 where
  pub told : (l : Ledger by_frames) → StandsFor s before.samples l → (old : List ℕ) (start : ℕ) (p : Emission) → Tells p old start 0 t out → Tells (heard q p l c) old start r.refused r.told out'
  pub stands : (l : Ledger by_frames) → StandsFor s before.samples l → StandsFor r.receiver samples' (ledger_after l c)
  pub receiver : r.receiver ≡ state_after s c before.samples (refusal_of s c no_schedule before)
  pub samples : samples' ≡ samples_after s c before.samples (refusal_of s c no_schedule before)
  pub events : events' ≡ with_records (records_of s c no_schedule before.samples (refusal_of s c no_schedule before)) before.events
  pub end : r.told.end ≤ t.end + widest * most
  pub frames : r.told.frames ≤ t.frames + most
  pub messages : r.told.messages ≤ t.messages + most
  pub room : length out' ≡ length out
