use Rattle.limits.specs.Answer.{cause_of}
use Rattle.limits.proofs.AnswerLaws.{said_refused}
use Rattle.bursts.specs.Bursts.{burst_answer}
use Rattle.bursts.proofs.find_bursts.Goals as goal

pub returns-in_err-check_bursts : goal.returns-in_err-check_bursts
unfolding cause_of burst_answer
returns-in_err-check_bursts c = said_refused _ _ _ c.from_residual.ensures.1 c.in_err-check_bursts.ensures _
