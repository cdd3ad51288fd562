use native.Mathlib.Omega.{arith}
use Rattle.limits.specs.Answer.{cause_of}
use Rattle.limits.proofs.AnswerLaws.{number-positive}
use Rattle.listening_tracker.proofs.TurnLaws.{cfo-stop, cfo_on, next-turned}
use Rattle.frequency_grown.proofs.KnownLaws.{grown-known}
use Rattle.frequency_grown.proofs.RisingLaws.{single-grown, after_cfo, after_next}
use Rattle.listening_tracker.proofs.read.Goals as goal

pub cfo-requires : goal.cfo-requires
cfo-requires c = grown-known (single-grown c.requires)

pub returns-in_err-cfo : goal.returns-in_err-cfo
unfolding cause_of
returns-in_err-cfo c = record {
  turned = cfo-stop _ _ _ c.in_err-cfo.field-0.0 c.from_residual.ensures.1 _ _ _ _ c.in_err-cfo.ensures;
  single = after_cfo _ _ (omega arith) c.requires c.in_err-cfo.ensures;
}

pub next_tuning-requires : goal.next_tuning-requires
unfolding cause_of
next_tuning-requires c = grown-known (single-grown (after_cfo _ _ (omega arith) c.requires c.in_ok-cfo.ensures))

pub returns : goal.returns
unfolding cause_of
returns c = record {
  turned = cfo_on _ _ _ _ _ _ _ _ _ c.in_ok-cfo.ensures (next-turned _ _ _ _ _ _ _ (omega arith) c.next_tuning.ensures);
  single = after_next _ _ _ _ (after_cfo _ _ (omega arith) c.requires c.in_ok-cfo.ensures) c.next_tuning.ensures;
}
