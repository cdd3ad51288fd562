use Rattle.std.proofs.Common.{refl, sym, ◌∙◌}
use Rattle.limits.specs.Answer.{cause_of}
use Rattle.limits.proofs.AnswerLaws.{cause_refused}
use Rattle.frequency.proofs.Ordered.{ordered_of}
use Rattle.frequency.specs.Lent.{lists}
use Rattle.frequency_grown.proofs.KnownLaws.{cfo-cause}
use Rattle.frequency_grown.proofs.cfo.Goals as goal

pub check_values-requires : goal.check_values-requires
check_values-requires c = let a = c.args in (ordered_of a.t.now (lists a.readings.now a.tunings.now) c.requires.order).r.places

pub returns-in_err-check_values : goal.returns-in_err-check_values
unfolding cause_of
returns-in_err-check_values c =
    let a = c.args in
    let r = cause_refused _ _ _ c.from_residual.ensures.1 (c.in_err-check_values.ensures ∙ sym (cfo-cause a.t.now (lists a.readings.now a.tunings.now) c.requires a.raw.now)) in
    record { refusal = r.0; state = λ e. absurd (r.1 e); lists = λ e. absurd (r.1 e); same_state = λ e. refl; same_lists = λ e. refl }

pub read_line-requires : goal.read_line-requires
unfolding cause_of
read_line-requires c = let a = c.args in cfo-cause a.t.now (lists a.readings.now a.tunings.now) c.requires a.raw.now ∙ sym c.in_ok-check_values.ensures

pub returns : goal.returns
unfolding cause_of
returns c = c.read_line.ensures
