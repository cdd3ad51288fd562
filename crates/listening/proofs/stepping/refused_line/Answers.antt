use mathlib.Core.Path.{refl, sym}
use Rattle.limits.specs.Answer.{cause_of}
use Rattle.listening.proofs.StepLaws.{refusal-text, refusal-zero}
use Rattle.listening.proofs.stepping.refused_line.Goals as goal

pub returns-in-Ok : goal.returns-in-Ok
unfolding cause_of
returns-in-Ok c = rw (c.in-Ok.is, c.new.ensures) (sym (refusal-zero 0 refl))

pub returns-in-Err : goal.returns-in-Err
unfolding cause_of
returns-in-Err c = rw (c.in-Err.is, c.refusal_line.ensures) (refusal-text c.in-Err.refusal)
