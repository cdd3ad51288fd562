-- THE TRACKER'S EXPORTED CALLS, AS THE CHECKER KNOWS THEM (receiver's proofs/Contracts.antt has those of the receiver, and says what `Asked` and `Learnt` are).
-- `Contracts` says that the calls ask nothing, and that what is learnt of them is what specs/Calls.antt says of each: so a statement over these, as `Grown` and request 14's bound,
-- is one about the code. A weaker contract, with a body that it allows, fails here. Assumes nothing.
use mathlib.Core.Path.{◌≡◌}
use contract.Lifetimes.{Lfts}
use borrow.Fn.World.{ArgsD, ResD}
use borrow.Fn.Kinds.{ended_of}
use denote.Triple.Clauses.{AtExit}
use Rattle.limits.specs.Answer.{said, cause_of}
use Rattle.frequency.specs.Lent.{lists}
use Rattle.frequency.specs.Order.{cause_new}
use Rattle.frequency.specs.Calls.{SamplesEnd, CfoEnd, TunedEnd, NextEnd, FrameEnd, Frame1End, freq_answer, tune_of, fresh, cause_of_new, tracker_of}
use Rattle.frequency.specs.contracts.FrequencyTracker.new as new-fn
use Rattle.frequency.proofs.FrequencyTracker.new.Kinds as new-kinds
use Rattle.frequency.proofs.FrequencyTracker.new.Reads as new-reads
use Rattle.frequency.specs.contracts.FrequencyTracker.freq as freq-fn
use Rattle.frequency.proofs.FrequencyTracker.freq.Kinds as freq-kinds
use Rattle.frequency.proofs.FrequencyTracker.freq.Reads as freq-reads
use Rattle.frequency.specs.contracts.FrequencyTracker.tuned as tuned-fn
use Rattle.frequency.proofs.FrequencyTracker.tuned.Kinds as tuned-kinds
use Rattle.frequency.proofs.FrequencyTracker.tuned.Reads as tuned-reads
use Rattle.frequency.specs.contracts.FrequencyTracker.samples as samples-fn
use Rattle.frequency.proofs.FrequencyTracker.samples.Kinds as samples-kinds
use Rattle.frequency.proofs.FrequencyTracker.samples.Reads as samples-reads
use Rattle.frequency.specs.contracts.FrequencyTracker.cfo as cfo-fn
use Rattle.frequency.proofs.FrequencyTracker.cfo.Kinds as cfo-kinds
use Rattle.frequency.proofs.FrequencyTracker.cfo.Reads as cfo-reads
use Rattle.frequency.specs.contracts.FrequencyTracker.next_tuning as next-fn
use Rattle.frequency.proofs.FrequencyTracker.next_tuning.Kinds as next-kinds
use Rattle.frequency.proofs.FrequencyTracker.next_tuning.Reads as next-reads
use Rattle.frequency.specs.contracts.FrequencyTracker.frame_frequency as frame-fn
use Rattle.frequency.proofs.FrequencyTracker.frame_frequency.Kinds as frame-kinds
use Rattle.frequency.proofs.FrequencyTracker.frame_frequency.Reads as frame-reads
use Rattle.frequency.specs.contracts.FrequencyTracker.frame1 as first-fn
use Rattle.frequency.proofs.FrequencyTracker.frame1.Kinds as first-kinds
use Rattle.frequency.proofs.FrequencyTracker.frame1.Reads as first_reads

-- ---- what a contract tells a caller

abbrev pub NewTells : Type 0
NewTells =
    (κs : Lfts 0) (a : ArgsD new-fn.signature κs) (r : ResD new-fn.signature κs) (s : AtExit (ended_of 0 new-kinds.ps new-kinds.r) κs)
    → new-reads.Learnt κs a r s → (cause_of_new r ≡ cause_new a.0 a.1.1.0) × (tracker_of r ≡ fresh a.0 a.1.0 a.1.1.0)

abbrev pub FreqTells : Type 0
FreqTells =
    (κs : Lfts 2) (a : ArgsD freq-fn.signature κs) (r : ResD freq-fn.signature κs) (s : AtExit (ended_of 2 freq-kinds.ps freq-kinds.r) κs)
    → freq-reads.Learnt κs a r s → said r ≡ freq_answer a.0.now a.1.0.now

abbrev pub TunedTells : Type 0
TunedTells =
    (κs : Lfts 2) (a : ArgsD tuned-fn.signature κs) (r : ResD tuned-fn.signature κs) (s : AtExit (ended_of 2 tuned-kinds.ps tuned-kinds.r) κs)
    → tuned-reads.Learnt κs a r s → TunedEnd a.0.now a.1.0 a.1.1.0.now (cause_of r) s.0.now s.1.1.0.now

abbrev pub SamplesTells : Type 0
SamplesTells =
    (κs : Lfts 4) (a : ArgsD samples-fn.signature κs) (r : ResD samples-fn.signature κs) (s : AtExit (ended_of 4 samples-kinds.ps samples-kinds.r) κs)
    → samples-reads.Learnt κs a r s → SamplesEnd a.0.now a.1.0.now (lists a.1.1.0.now a.1.1.1.0.now) (cause_of r) s.0.now (lists s.1.1.0.now s.1.1.1.0.now)

abbrev pub CfoTells : Type 0
CfoTells =
    (κs : Lfts 4) (a : ArgsD cfo-fn.signature κs) (r : ResD cfo-fn.signature κs) (s : AtExit (ended_of 4 cfo-kinds.ps cfo-kinds.r) κs)
    → cfo-reads.Learnt κs a r s → CfoEnd a.0.now a.1.0.now (lists a.1.1.0.now a.1.1.1.0.now) (cause_of r) s.0.now (lists s.1.1.0.now a.1.1.1.0.now)

abbrev pub NextTuningTells : Type 0
NextTuningTells =
    (κs : Lfts 4) (a : ArgsD next-fn.signature κs) (r : ResD next-fn.signature κs) (s : AtExit (ended_of 4 next-kinds.ps next-kinds.r) κs)
    → next-reads.Learnt κs a r s → NextEnd a.0.now (lists a.1.0.now a.1.1.0.now) a.1.1.1.0.now (cause_of r) s.0.now (tune_of r) s.1.1.1.0.now

abbrev pub FrameFrequencyTells : Type 0
FrameFrequencyTells =
    (κs : Lfts 3) (a : ArgsD frame-fn.signature κs) (r : ResD frame-fn.signature κs) (s : AtExit (ended_of 3 frame-kinds.ps frame-kinds.r) κs)
    → frame-reads.Learnt κs a r s → FrameEnd a.0.now a.1.0 a.1.1.0.now a.1.1.1.0.now r s.1.1.1.0.now

abbrev pub Frame1Tells : Type 0
Frame1Tells =
    (κs : Lfts 3) (a : ArgsD first-fn.signature κs) (r : ResD first-fn.signature κs) (s : AtExit (ended_of 3 first-kinds.ps first-kinds.r) κs)
    → first_reads.Learnt κs a r s → Frame1End a.0.now a.1.0 a.1.1.0 a.1.1.1.0.now a.1.1.1.1.0.now r s.1.1.1.1.0.now

-- ---- the statement, and its proof: what is learnt is that itself

pub record Contracts : Type 0 where
  pub new_tells : NewTells
  pub freq-tells : FreqTells
  pub tuned-tells : TunedTells
  pub samples-tells : SamplesTells
  pub cfo-tells : CfoTells
  pub next_tuning_tells : NextTuningTells
  pub frame_frequency_tells : FrameFrequencyTells
  pub frame1-tells : Frame1Tells
  pub new_asks-nothing : (κs : Lfts 0) (a : ArgsD new-fn.signature κs) → new-reads.Asked κs a
  pub freq-asks-nothing : (κs : Lfts 2) (a : ArgsD freq-fn.signature κs) → freq-reads.Asked κs a
  pub tuned-asks-nothing : (κs : Lfts 2) (a : ArgsD tuned-fn.signature κs) → tuned-reads.Asked κs a
  pub samples-asks-nothing : (κs : Lfts 4) (a : ArgsD samples-fn.signature κs) → samples-reads.Asked κs a
  pub cfo-asks-nothing : (κs : Lfts 4) (a : ArgsD cfo-fn.signature κs) → cfo-reads.Asked κs a
  pub next_tuning_asks-nothing : (κs : Lfts 4) (a : ArgsD next-fn.signature κs) → next-reads.Asked κs a
  pub frame_frequency_asks-nothing : (κs : Lfts 3) (a : ArgsD frame-fn.signature κs) → frame-reads.Asked κs a
  pub frame1-asks-nothing : (κs : Lfts 3) (a : ArgsD first-fn.signature κs) → first_reads.Asked κs a

pub contracts : Contracts
contracts =
    record {
      new_tells = λ κs a r s p. p;
      freq-tells = λ κs a r s p. p;
      tuned-tells = λ κs a r s p. p;
      samples-tells = λ κs a r s p. p;
      cfo-tells = λ κs a r s p. p;
      next_tuning_tells = λ κs a r s p. p;
      frame_frequency_tells = λ κs a r s p. p;
      frame1-tells = λ κs a r s p. p;
      new_asks-nothing = λ κs a. tt;
      freq-asks-nothing = λ κs a. tt;
      tuned-asks-nothing = λ κs a. tt;
      samples-asks-nothing = λ κs a. tt;
      cfo-asks-nothing = λ κs a. tt;
      next_tuning_asks-nothing = λ κs a. tt;
      frame_frequency_asks-nothing = λ κs a. tt;
      frame1-asks-nothing = λ κs a. tt;
    }
