-- THE EXPORTED CALLS, AS THE CHECKER KNOWS THEM. Of a function it keeps two things, made from the source: what the contract asks of a caller (`Asked`), and what a caller
-- then learns (`Learnt`), for all arguments a, results r and contents s at the exit. Every call in every program rests on these two and on nothing else.
-- `Contracts` says that `new`, `push`, `push_raw` and `flush` ask nothing, and that what is learnt of them is `new_state`, and `Same` and `Answered`: what stands in
-- the lent memory after a call stands in the caller's own slices. So a statement over `Answered`, as demand 3's theorem, is one about the code. A weaker contract,
-- with a body that it allows, fails here. Assumes nothing.
use mathlib.Core.Path.{◌≡◌}
use contract.Lifetimes.{Lfts}
use borrow.Fn.World.{ArgsD, ResD}
use borrow.Fn.Kinds.{ended_of}
use denote.Triple.Clauses.{AtExit}
use Rattle.ledger.specs.Ledger as call
use Rattle.shifts.specs.Shifts.{schedule}
use Rattle.receiver.specs.State.{new_state}
use Rattle.receiver.specs.Calls.{Answered, Same, memory, received}
use Rattle.receiver.specs.contracts.SigfoxReceiver.new as new-fn
use Rattle.receiver.proofs.SigfoxReceiver.new.Kinds as new-kinds
use Rattle.receiver.proofs.SigfoxReceiver.new.Reads as new-reads
use Rattle.receiver.specs.contracts.SigfoxReceiver.push as push-fn
use Rattle.receiver.proofs.SigfoxReceiver.push.Kinds as push-kinds
use Rattle.receiver.proofs.SigfoxReceiver.push.Reads as push-reads
use Rattle.receiver.specs.contracts.SigfoxReceiver.push_raw as raw-fn
use Rattle.receiver.proofs.SigfoxReceiver.push_raw.Kinds as raw-kinds
use Rattle.receiver.proofs.SigfoxReceiver.push_raw.Reads as raw-reads
use Rattle.receiver.specs.contracts.SigfoxReceiver.flush as flush-fn
use Rattle.receiver.proofs.SigfoxReceiver.flush.Kinds as flush-kinds
use Rattle.receiver.proofs.SigfoxReceiver.flush.Reads as flush-reads

-- ---- what a contract tells a caller

abbrev pub NewTells : Type 0
NewTells =
    (κs : Lfts 0) (a : ArgsD new-fn.signature κs) (r : ResD new-fn.signature κs) (s : AtExit (ended_of 0 new-kinds.ps new-kinds.r) κs)
    → new-reads.Learnt κs a r s → r ≡ new_state a.0

abbrev pub PushTells : Type 0
PushTells =
    (κs : Lfts 9) (a : ArgsD push-fn.signature κs) (r : ResD push-fn.signature κs) (s : AtExit (ended_of 9 push-kinds.ps push-kinds.r) κs)
    → push-reads.Learnt κs a r s
    → Answered a.0.now (call.push a.1.0.now) (schedule a.1.1.0.now) (memory a.1.1.1.0.now) (memory s.1.1.1.0.now) (received r s.0.now)

abbrev pub PushLends : Type 0
PushLends =
    (κs : Lfts 9) (a : ArgsD push-fn.signature κs) (r : ResD push-fn.signature κs) (s : AtExit (ended_of 9 push-kinds.ps push-kinds.r) κs)
    → push-reads.Learnt κs a r s → Same a.1.1.1.0.now s.1.1.1.0.now

abbrev pub PushRawTells : Type 0
PushRawTells =
    (κs : Lfts 9) (a : ArgsD raw-fn.signature κs) (r : ResD raw-fn.signature κs) (s : AtExit (ended_of 9 raw-kinds.ps raw-kinds.r) κs)
    → raw-reads.Learnt κs a r s
    → Answered a.0.now (call.push_raw a.1.0.now) (schedule a.1.1.0.now) (memory a.1.1.1.0.now) (memory s.1.1.1.0.now) (received r s.0.now)

abbrev pub PushRawLends : Type 0
PushRawLends =
    (κs : Lfts 9) (a : ArgsD raw-fn.signature κs) (r : ResD raw-fn.signature κs) (s : AtExit (ended_of 9 raw-kinds.ps raw-kinds.r) κs)
    → raw-reads.Learnt κs a r s → Same a.1.1.1.0.now s.1.1.1.0.now

abbrev pub FlushTells : Type 0
FlushTells =
    (κs : Lfts 8) (a : ArgsD flush-fn.signature κs) (r : ResD flush-fn.signature κs) (s : AtExit (ended_of 8 flush-kinds.ps flush-kinds.r) κs)
    → flush-reads.Learnt κs a r s
    → Answered a.0.now call.flush (schedule a.1.0.now) (memory a.1.1.0.now) (memory s.1.1.0.now) (received r s.0.now)

abbrev pub FlushLends : Type 0
FlushLends =
    (κs : Lfts 8) (a : ArgsD flush-fn.signature κs) (r : ResD flush-fn.signature κs) (s : AtExit (ended_of 8 flush-kinds.ps flush-kinds.r) κs)
    → flush-reads.Learnt κs a r s → Same a.1.1.0.now s.1.1.0.now

-- ---- the statement, and its proof: what is learnt is `Same` and `Answered` themselves

pub record Contracts : Type 0 where
  pub new_tells : NewTells
  pub push-tells : PushTells
  pub push-lends : PushLends
  pub push-raw-tells : PushRawTells
  pub push-raw-lends : PushRawLends
  pub flush-tells : FlushTells
  pub flush-lends : FlushLends
  pub new_asks-nothing : (κs : Lfts 0) (a : ArgsD new-fn.signature κs) → new-reads.Asked κs a
  pub push-asks-nothing : (κs : Lfts 9) (a : ArgsD push-fn.signature κs) → push-reads.Asked κs a
  pub push-raw-asks-nothing : (κs : Lfts 9) (a : ArgsD raw-fn.signature κs) → raw-reads.Asked κs a
  pub flush-asks-nothing : (κs : Lfts 8) (a : ArgsD flush-fn.signature κs) → flush-reads.Asked κs a

pub contracts : Contracts
contracts =
    record {
      new_tells = λ κs a r s p. p;
      push-tells = λ κs a r s p. p.1;
      push-lends = λ κs a r s p. p.0;
      push-raw-tells = λ κs a r s p. p.1;
      push-raw-lends = λ κs a r s p. p.0;
      flush-tells = λ κs a r s p. p.1;
      flush-lends = λ κs a r s p. p.0;
      new_asks-nothing = λ κs a. tt;
      push-asks-nothing = λ κs a. tt;
      push-raw-asks-nothing = λ κs a. tt;
      flush-asks-nothing = λ κs a. tt;
    }
