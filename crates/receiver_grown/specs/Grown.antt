-- Scaffolding. Receivers grown from a fresh one by any calls, refused ones included, each with the sample buffer as the last call left it. Assumes nothing.
-- A call is what `push`, `push_raw`, `add_raw` or `flush` ensures (history's Runs), with its own events, scratch, shifts and dates.
use Rattle.std.specs.Prelude.{List, ℕ, Float}
use Rattle.shifts.specs.Shifts.{Schedule}
use Rattle.receiver.specs.State.{new_state}
use Rattle.receiver.specs.Calls.{Memory, Received, Answered}
use Rattle.receiver.specs.declared.SigfoxReceiver.{SigfoxReceiver}
use Rattle.history.specs.Runs.{Request, call_of, Typed}

pub data Grown : SigfoxReceiver → List Float → Type 0 where
  new : (rate : ℕ) (samples : List Float) → Grown (new_state rate) samples
  called : {s : SigfoxReceiver} {m n : Memory} {r : Received} (q : Request) (p : Schedule) → Typed q → Grown s m.samples → Answered s (call_of q) p m n r
      → Grown r.receiver n.samples
