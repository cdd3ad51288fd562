use Rattle.std.proofs.Common.{refl, sym, ◌∙◌}
use Rattle.limits.specs.Answer.{cause_of}
use Rattle.limits.proofs.AnswerLaws.{cause_refused}
use Rattle.frequency.proofs.Ordered.{ordered_of}
use Rattle.frequency.specs.Lent.{lists}
use Rattle.frequency_grown.proofs.KnownLaws.{samples-cause}
use Rattle.frequency_grown.proofs.hear.Goals as goal

pub check_line-requires : goal.check_line-requires
check_line-requires c = let a = c.args in (ordered_of a.t.now (lists a.readings.now a.tunings.now) c.requires.0.order).t.signals.stream

pub returns-in_err-check_line : goal.returns-in_err-check_line
unfolding cause_of
returns-in_err-check_line c =
    let a = c.args in
    let r = cause_refused _ _ _ c.from_residual.ensures.1 (c.in_err-check_line.ensures ∙ sym (samples-cause a.t.now (lists a.readings.now a.tunings.now) c.requires.0 a.dbm.now)) in
    record { refusal = r.0; state = λ e. absurd (r.1 e); lists = λ e. absurd (r.1 e); same_state = λ e. refl; same_lists = λ e. refl }

pub hear_line-requires : goal.hear_line-requires
unfolding cause_of
hear_line-requires c = let a = c.args in (samples-cause a.t.now (lists a.readings.now a.tunings.now) c.requires.0 a.dbm.now ∙ sym c.in_ok-check_line.ensures, c.requires.1)

pub returns : goal.returns
unfolding cause_of
returns c = c.hear_line.ensures
