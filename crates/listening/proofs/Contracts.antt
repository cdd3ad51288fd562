-- `record_step` AND `finish`, AS THE CHECKER KNOWS THEM. What a caller learns of a call (`Learnt`) is made from the source; that it is what the runs of specs/Runs.antt are made of
-- stands here, so a weaker contract, with a body that it allows, fails here. Assumes nothing.
use contract.Lifetimes.{Lfts}
use borrow.Fn.World.{ArgsD, ResD}
use borrow.Fn.Kinds.{ended_of}
use denote.Triple.Clauses.{AtExit}
use mathlib.Core.List.{List}
use Rattle.ledger.specs.Ledger.{by_frames, Ledger}
use Rattle.frequency_lists.specs.declared.Tuning.{Tuning}
use Rattle.frequency.specs.Lent.{lists}
use Rattle.listening_lines.specs.Text.{Added}
use Rattle.listening_receiver.specs.Standing.{StandsFor}
use Rattle.listening.specs.Program.{step, ending}
use Rattle.listening.specs.Hand.{state_of, Goes, stepped}
use Rattle.listening.specs.contracts.stepping.record_step as record-fn
use Rattle.listening.proofs.stepping.record_step.Kinds as record-kinds
use Rattle.listening.proofs.stepping.record_step.Reads as record-reads
use Rattle.listening.specs.contracts.ending.finish as finish-fn
use Rattle.listening.proofs.ending.finish.Kinds as finish-kinds
use Rattle.listening.proofs.ending.finish.Reads as finish-reads

-- arguments and contents at the exit stand in the parameters' order
pub record_tells : (κs : Lfts 7) (a : ArgsD record-fn.signature κs) (r : ResD record-fn.signature κs) (s : AtExit (ended_of 7 record-kinds.ps record-kinds.r) κs)
    → record-reads.Learnt κs a r s → (g : Ledger by_frames) → StandsFor a.1.0.now a.1.1.1.1.1.0.now.samples g
    → Goes
    (step (state_of a.0.now (lists a.1.1.1.0.now a.1.1.1.1.0.now) g) a.1.1.0.now)
    a.1.1.1.1.1.1.0.now (stepped r s.0.now s.1.0.now)
    (lists s.1.1.1.0.now s.1.1.1.1.0.now)
    s.1.1.1.1.1.0.now.samples s.1.1.1.1.1.1.0.now
record_tells κs a r s h = h.0

pub finish-tells : (κs : Lfts 3) (a : ArgsD finish-fn.signature κs) (r : ResD finish-fn.signature κs) (s : AtExit (ended_of 3 finish-kinds.ps finish-kinds.r) κs)
    → finish-reads.Learnt κs a r s → (g : Ledger by_frames) (ts : List Tuning) → StandsFor a.1.0 a.1.1.1.1.0.now.samples g
    → Added a.1.1.1.1.1.0.now 0
    (ending (state_of a.0 (lists a.1.1.1.0.now ts) g) a.1.1.0) r
    s.1.1.1.1.1.0.now
finish-tells κs a r s h = h.0
