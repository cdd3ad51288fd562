use mathlib.Core.Path.{◌∙◌, sym}
use Rattle.limits.specs.Answer.{cause_of}
use Rattle.limits.specs.Limits.{bad_state}
use Rattle.receiver.proofs.AnswerLaws.{at_least}
use Rattle.receiver.proofs.CauseLaws.{exit_cause, flush_first, flush-later, given-fits, given_same, order-messages, order-samples}
use Rattle.receiver.specs.Running.{viewed}
use Rattle.receiver.proofs.check_flush.Goals as goal

pub returns-in_err-check_given : goal.returns-in_err-check_given
unfolding cause_of
returns-in_err-check_given c =
    let a = c.args in
    let e = c.in_err-check_given.field-0.0 in
    exit_cause c.from_residual.result e c.from_residual.ensures.1 ∙ flush_first a.s.now a.lent.samples.now (viewed a.lent) _ (given_same _ _ c.lengths.ensures c.in_err-check_given.ensures) (at_least e)

pub samples_in_order-requires : goal.samples_in_order-requires
unfolding cause_of
samples_in_order-requires c =
    let a = c.args in
    let f = given-fits a.s.now.rate (viewed a.lent) 0 (sym (given_same _ _ c.lengths.ensures c.in_ok-check_given.ensures)) in
    f.0

pub returns-then-not-samples_in_order : goal.returns-then-not-samples_in_order
unfolding cause_of
returns-then-not-samples_in_order c =
    let a = c.args in
    flush-later a.s.now a.lent.samples.now (viewed a.lent) bad_state (sym (given_same _ _ c.lengths.ensures c.in_ok-check_given.ensures)) (order-samples a.s.now a.lent.samples.now (sym c.samples_in_order.ensures ∙ c.if-not-samples_in_order.true))

pub returns : goal.returns
unfolding cause_of
returns c =
    let a = c.args in
    flush-later a.s.now a.lent.samples.now (viewed a.lent) _ (sym (given_same _ _ c.lengths.ensures c.in_ok-check_given.ensures)) (c.check_messages.ensures ∙ order-messages a.s.now a.lent.samples.now (sym c.samples_in_order.ensures ∙ c.if-not-samples_in_order.false))
