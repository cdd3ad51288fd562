use Rattle.std.proofs.Common.{refl, sym}
use Rattle.std.proofs.lemmas.Result.{err_from_is_err_and}
use Rattle.limits.specs.Answer.{cause_of}
use Rattle.limits.proofs.AnswerLaws.{cause_refused}
use Rattle.frequency.proofs.FrequencyTracker.next_tuning.Goals as goal

pub returns-in_err-check_next : goal.returns-in_err-check_next
unfolding cause_of
returns-in_err-check_next c =
    let i = c.from_residual.ensures.1 in
    let r = cause_refused _ _ _ i c.in_err-check_next.ensures in
    record { refusal = r.0; state = λ e. absurd (r.1 e); answer = λ e. absurd (r.1 e); same_state = λ e. refl; no_answer = λ e. rw (err_from_is_err_and c.from_residual.result i).1 refl; same_scratch = λ e. refl }

pub choose_tuning-requires : goal.choose_tuning-requires
unfolding cause_of
choose_tuning-requires c = sym c.in_ok-check_next.ensures

pub returns : goal.returns
unfolding cause_of
returns c = c.choose_tuning.ensures
