use Rattle.std.proofs.Common.{refl, sym}
use Rattle.limits.specs.Answer.{cause_of}
use Rattle.limits.proofs.AnswerLaws.{cause_refused}
use Rattle.frequency.proofs.FrequencyTracker.cfo.Goals as goal

pub returns-in_err-check_cfo : goal.returns-in_err-check_cfo
unfolding cause_of
returns-in_err-check_cfo c =
    let r = cause_refused _ _ _ c.from_residual.ensures.1 c.in_err-check_cfo.ensures in
    record { refusal = r.0; state = λ e. absurd (r.1 e); lists = λ e. absurd (r.1 e); same_state = λ e. refl; same_lists = λ e. refl }

pub read_line-requires : goal.read_line-requires
unfolding cause_of
read_line-requires c = sym c.in_ok-check_cfo.ensures

pub returns : goal.returns
unfolding cause_of
returns c = c.read_line.ensures
