use mathlib.Core.Path.{refl}
use Rattle.limits.specs.Answer.{cause_of}
use Rattle.limits.specs.Refusals.{number_of}
use Rattle.limits.proofs.AnswerLaws.{number-positive}
use Rattle.listening.proofs.StepLaws.{last_refused, last_end}
use Rattle.listening.proofs.ending.last_line.Goals as goal

pub returns-in-Ok : goal.returns-in-Ok
unfolding cause_of
returns-in-Ok c = rw (c.in-Ok.is, c.end_line.ensures) (last_end 0 _ refl)

pub returns-in-Err : goal.returns-in-Err
unfolding cause_of
returns-in-Err c =
    let e = c.in-Err.refusal in
    rw (c.in-Err.is, c.refusal_line.ensures) (last_refused (number_of e) _ (number-positive e))
