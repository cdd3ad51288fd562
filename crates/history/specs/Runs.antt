-- Runs of the port: lists of calls of push, push_raw and flush, each with its own memory, made of what the exported contracts say and of nothing else.
-- Assumes nothing.
use Rattle.std.specs.Prelude.{List, [], ◌∷◌, map, ℕ, T, Float}
use Rattle.std.specs.Float.{binary32}
use Rattle.std.specs.Float.Ieee.{fits}
use Rattle.shifts.specs.Shifts.{Schedule}
use Rattle.ledger.specs.Ledger.{Call, push, push_raw, flush}
use Rattle.ledger.specs.Causes.{Attempt}
use Rattle.ledger.specs.Records.{records_in, seen_in}
use Rattle.ledger.specs.Demand3.{Turn}
use Rattle.receiver.specs.State.{new_state}
use Rattle.receiver.specs.Calls.{Memory, Received, lengths_of, Answered}
use Rattle.receiver.specs.declared.SigfoxReceiver.{SigfoxReceiver}

-- ---- a call

-- which function is called, with its samples
pub data Request : Type 0 where
  ask_push : List Float → Request
  ask_raw : List ℕ → Request
  ask_flush : Request

-- what the ledger is fed of it
unfoldable pub call_of : Request → Call
call_of (ask_push xs) = push xs
call_of (ask_raw bs) = push_raw bs
call_of ask_flush = flush

-- samples that are handed in as f32 are binary32 numbers
abbrev pub Singles : List Float → Type 0
Singles [] = Unit
Singles (x ∷ xs) = T (fits binary32 x) × Singles xs

abbrev pub Typed : Request → Type 0
Typed (ask_push xs) = Singles xs
Typed (ask_raw bs) = Unit
Typed ask_flush = Unit

-- "event buffer and scratch may be others at each call, of any length", and so may start second, windows and closed dates
pub record Asked : Type 0 where
  pub request : Request
  pub schedule : Schedule
  pub events : List ℕ
  pub scratch32 : List Float
  pub scratch64 : List Float

-- what came back: the answer, and what stands in the memory then
pub record Reply : Type 0 where
  pub received : Received
  pub after : Memory

pub record Exchange : Type 0 where
  pub asked : Asked
  pub reply : Reply

-- ---- a run

-- the port between two calls: its state, and the sample buffer that nobody else writes
pub record Port : Type 0 where
  pub receiver : SigfoxReceiver
  pub samples : List Float

abbrev pub memory_of : Port → Asked → Memory
memory_of p a = record { samples = p.samples; events = a.events; scratch32 = a.scratch32; scratch64 = a.scratch64 }

-- one call: what `push`, `push_raw` or `flush` ensures
abbrev pub Did : Port → Exchange → Type 0
Did p x = Typed x.asked.request × Answered p.receiver (call_of x.asked.request) x.asked.schedule (memory_of p x.asked) x.reply.after x.reply.received

abbrev pub port_after : Exchange → Port
port_after x = record { receiver = x.reply.received.receiver; samples = x.reply.after.samples }

-- each call gets the state and the sample buffer that the call before it left
abbrev pub Run : Port → List Exchange → Type 0
Run p [] = Unit
Run p (x ∷ xs) = Did p x × Run (port_after x) xs

-- what `SigfoxReceiver::new` answers, with a sample buffer of any length and first contents
abbrev pub fresh_port : ℕ → List Float → Port
fresh_port rate samples = record { receiver = new_state rate; samples = samples }

-- ---- what a client sees of it

-- the records of a call, as bytes
abbrev pub records_from : Exchange → List (List ℕ)
records_from x = records_in x.reply.received.count x.reply.after.events

abbrev pub turn_from : Exchange → Turn
turn_from x = record { call = call_of x.asked.request; refusal = x.reply.received.refused; records = map seen_in (records_from x) }

-- the same call as the ledger's causes look at it: the sample buffer is as long as it was at first
abbrev pub attempt_of : List Float → Exchange → Attempt
attempt_of samples x =
    record {
      call = call_of x.asked.request;
      lent = lengths_of (record { samples = samples; events = x.asked.events; scratch32 = x.asked.scratch32; scratch64 = x.asked.scratch64 });
      schedule = x.asked.schedule;
    }
