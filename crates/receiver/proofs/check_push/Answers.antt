use mathlib.Core.Path.{◌∙◌, refl, sym}
use lib.ListN.{length}
use Rattle.limits.specs.Answer.{cause_of}
use Rattle.limits.specs.Limits.{bad_sample}
use Rattle.receiver.proofs.AnswerLaws.{at_least}
use Rattle.receiver.proofs.CauseLaws.{exit_cause, given-fits, given_same, push_first, push-later}
use Rattle.receiver.specs.Running.{viewed}
use Rattle.receiver.proofs.check_push.Goals as goal

pub returns-in_err-check_given : goal.returns-in_err-check_given
unfolding cause_of
returns-in_err-check_given c =
    let a = c.args in
    let e = c.in_err-check_given.field-0.0 in
    exit_cause c.from_residual.result e c.from_residual.ensures.1
    ∙ push_first a.s.now a.lent.samples.now (viewed a.lent) a.dbm.now (length a.dbm.now) _ refl (given_same _ _ c.lengths.ensures c.in_err-check_given.ensures) (at_least e)

pub returns-then-not-all_dbm : goal.returns-then-not-all_dbm
unfolding cause_of
returns-then-not-all_dbm c =
    let a = c.args in
    push-later a.s.now a.lent.samples.now (viewed a.lent) a.dbm.now (length a.dbm.now) bad_sample refl (sym (given_same _ _ c.lengths.ensures c.in_ok-check_given.ensures)) (rw (sym c.all_dbm.ensures ∙ c.if-not-all_dbm.true) refl)

pub check_state-requires : goal.check_state-requires
unfolding cause_of
check_state-requires c =
    let a = c.args in
    let f = given-fits a.s.now.rate (viewed a.lent) (length a.dbm.now) (sym (given_same _ _ c.lengths.ensures c.in_ok-check_given.ensures)) in
    f

pub returns : goal.returns
unfolding cause_of
returns c =
    let a = c.args in
    push-later a.s.now a.lent.samples.now (viewed a.lent) a.dbm.now (length a.dbm.now) _ refl (sym (given_same _ _ c.lengths.ensures c.in_ok-check_given.ensures)) (c.check_state.ensures ∙ rw (sym c.all_dbm.ensures ∙ c.if-not-all_dbm.false) refl)
