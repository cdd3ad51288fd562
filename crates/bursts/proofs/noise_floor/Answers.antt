use Rattle.std.proofs.Common.{refl}
use Rattle.limits.specs.Answer.{cause_of}
use Rattle.limits.proofs.AnswerLaws.{said_refused}
use Rattle.bursts.specs.Levels.{floor_answer}
use Rattle.bursts.proofs.noise_floor.Goals as goal

pub returns-in_err-check_floor : goal.returns-in_err-check_floor
unfolding cause_of floor_answer
returns-in_err-check_floor c = (said_refused _ _ _ c.from_residual.ensures.1 c.in_err-check_floor.ensures _, refl)
