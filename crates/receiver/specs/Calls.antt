-- What push, push_raw and flush answer and leave, for any state that is given: one record for the three. Assumes nothing.
use Rattle.std.specs.Prelude.{◌≡◌, List, map, ℕ, zero, suc, length, Float, Result, Ok, Err}
unfoldable pub use Rattle.limits.specs.Answer.{Free}
use Rattle.limits.specs.Refusals.{number_of}
use Rattle.limits.specs.declared.Refusal.{Refusal}
use Rattle.ledger.specs.Ledger.{Call, push, flush, closed, scans}
use Rattle.shifts.specs.Shifts.{Schedule, mark_by}
use Rattle.ledger.specs.Causes.{Lent, cause_with, call_events}
use Rattle.ledger.specs.Demodulation.{demod_of}
use Rattle.ledger.specs.Records.{record_of, with_records}
use Rattle.receiver_samples.specs.Buffer.{all_filled}
use Rattle.receiver.specs.State.{ledger_of, counts_of, state_over}
use Rattle.receiver.specs.declared.SigfoxReceiver.{SigfoxReceiver}
use Rattle.receiver.specs.declared.Lent as declared

-- what is lent to a call: the contents
pub record Memory : Type 0 where
  pub samples : List Float
  pub events : List ℕ
  pub scratch32 : List Float
  pub scratch64 : List Float

abbrev pub memory : declared.Lent → Memory
memory l = record { samples = l.samples.now; events = l.events.now; scratch32 = l.scratch32.now; scratch64 = l.scratch64.now }

abbrev pub lengths_of : Memory → Lent
lengths_of b =
    record { samples = length b.samples; events = length b.events; scratch32 = length b.scratch32; scratch64 = length b.scratch64 }

-- the same references to as many places: a caller reads through its own what a call left
pub record Same (a b : declared.Lent) : Type 0 where
  pub samples : b.samples.ghost_name ≡ a.samples.ghost_name
  pub events : b.events.ghost_name ≡ a.events.ghost_name
  pub scratch32 : b.scratch32.ghost_name ≡ a.scratch32.ghost_name
  pub scratch64 : b.scratch64.ghost_name ≡ a.scratch64.ghost_name
  pub lengths : lengths_of (memory b) ≡ lengths_of (memory a)

-- the number of a call's refusal, 0 for none: 01's causes, on the ledger that the state stands for, and 11
abbrev pub refusal_of : SigfoxReceiver → Call → Schedule → Memory → ℕ
refusal_of s c p b = cause_with s.rate (lengths_of b) (counts_of s) (ledger_of s b.samples) c p

-- the records of a call with that number: the ledger's, with their marks
abbrev pub records_of : SigfoxReceiver → Call → Schedule → List Float → ℕ → List (List ℕ)
records_of s c p samples n = map (record_of (mark_by p)) (call_events s.rate (demod_of s.rate) (ledger_of s samples) c n)

-- the state after it: for the ledger after the call, or as it was
unfoldable pub state_after : SigfoxReceiver → Call → List Float → ℕ → SigfoxReceiver
state_after s c samples zero = state_over s (closed s.rate c (scans s.rate (demod_of s.rate) (ledger_of s samples) c))
state_after s c samples (suc n) = s

-- the sample buffer after it: "sample places not written keep their contents"
unfoldable pub samples_after : SigfoxReceiver → Call → List Float → ℕ → List Float
samples_after s (push xs) samples zero = (all_filled s.rate (length xs) (record { held = s.held; places = samples }) xs).places
samples_after s flush samples zero = samples
samples_after s c samples (suc n) = samples

-- what a call answers, with the receiver after it: the number of its refusal, 0 for none, and how many records it wrote
pub record Received : Type 0 where
  pub refused : ℕ
  pub count : ℕ
  pub receiver : SigfoxReceiver

abbrev pub received : Result ℕ Refusal → SigfoxReceiver → Received
received (Ok n) s = record { refused = 0; count = n; receiver = s }
received (Err e) s = record { refused = number_of e; count = 0; receiver = s }

-- a call c on the state s with the schedule p, with what was lent before and after it
pub record Answered (s : SigfoxReceiver) (c : Call) (p : Schedule) (before after : Memory) (r : Received) : Type 0 where
  pub refused : r.refused ≡ refusal_of s c p before
  pub count : r.count ≡ length (records_of s c p before.samples (refusal_of s c p before))
  pub state : r.receiver ≡ state_after s c before.samples (refusal_of s c p before)
  pub samples : after.samples ≡ samples_after s c before.samples (refusal_of s c p before)
  pub events : after.events ≡ with_records (records_of s c p before.samples (refusal_of s c p before)) before.events
  pub scratch32 : Free (refusal_of s c p before) before.scratch32 after.scratch32
  pub scratch64 : Free (refusal_of s c p before) before.scratch64 after.scratch64
