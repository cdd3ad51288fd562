use Rattle.limits.specs.Answer.{cause_of}
use Rattle.frequency.proofs.Ordered.{ordered_of}
use Rattle.frequency.proofs.Choices.{chosen, passed}
use Rattle.frequency.specs.Order.{cause_samples}
use Rattle.frequency.specs.Lent.{lists}
use mathlib.Core.Bool.{not}
use mathlib.Core.Path.{sym, ap, ◌∙◌}
use native.Mathlib.Omega.{arith}
use borrow.Author.Tests.{lt-ltb, le-ltb}
use Rattle.frequency.proofs.check_samples.Goals as goal

pub returns-then-not-rate_ok : goal.returns-then-not-rate_ok
unfolding cause_of cause_samples
returns-then-not-rate_ok c =
    let a = c.args in sym (chosen 1 _ (ap not (sym c.rate_ok.ensures ∙ c.if-not-rate_ok.true)))

pub returns-then-dbm-t : goal.returns-then-dbm-t
unfolding cause_of cause_samples
returns-then-dbm-t c =
    let a = c.args in sym (passed 1 _ (ap not (sym c.rate_ok.ensures ∙ c.if-not-rate_ok.false)) ∙ chosen 3 _ (lt-ltb _ _ c.if-dbm-t.true))

pub returns-then-not-all_dbm : goal.returns-then-not-all_dbm
unfolding cause_of cause_samples
returns-then-not-all_dbm c =
    let a = c.args in sym (passed 1 _ (ap not (sym c.rate_ok.ensures ∙ c.if-not-rate_ok.false)) ∙ passed 3 _ (le-ltb _ _ c.if-dbm-t.false) ∙ chosen 4 _ (ap not (sym c.all_dbm.ensures ∙ c.if-not-all_dbm.true)))

pub in_order-requires : goal.in_order-requires
in_order-requires c =
    c.requires

pub returns-then-not-in_order : goal.returns-then-not-in_order
unfolding cause_of cause_samples
returns-then-not-in_order c =
    let a = c.args in sym (passed 1 _ (ap not (sym c.rate_ok.ensures ∙ c.if-not-rate_ok.false)) ∙ passed 3 _ (le-ltb _ _ c.if-dbm-t.false) ∙ passed 4 _ (ap not (sym c.all_dbm.ensures ∙ c.if-not-all_dbm.false)) ∙ chosen 5 _ (ap not (sym c.in_order.ensures ∙ c.if-not-in_order.true)))

pub overflow_add-t : goal.overflow_add-t
overflow_add-t c =
    let a = c.args in
    let o = ordered_of a.t.now (lists a.readings.now a.tunings.now) (sym c.in_order.ensures ∙ c.if-not-in_order.false) in
    let h = o.t.signals.stream in
    record { fits = omega arith }

pub returns-then-t-dbm-gt-LONGEST_STREAM : goal.returns-then-t-dbm-gt-LONGEST_STREAM
unfolding cause_of cause_samples
returns-then-t-dbm-gt-LONGEST_STREAM c =
    let a = c.args in sym (passed 1 _ (ap not (sym c.rate_ok.ensures ∙ c.if-not-rate_ok.false)) ∙ passed 3 _ (le-ltb _ _ c.if-dbm-t.false) ∙ passed 4 _ (ap not (sym c.all_dbm.ensures ∙ c.if-not-all_dbm.false)) ∙ passed 5 _ (ap not (sym c.in_order.ensures ∙ c.if-not-in_order.false)) ∙ chosen 7 _ (lt-ltb _ _ c.if-t-dbm-gt-LONGEST_STREAM.true))

pub numbers_ok-requires : goal.numbers_ok-requires
numbers_ok-requires c =
    let a = c.args in
    ((ordered_of a.t.now (lists a.readings.now a.tunings.now) (sym c.in_order.ensures ∙ c.if-not-in_order.false)).r.places, c.requires)

pub returns-then-not-numbers_ok : goal.returns-then-not-numbers_ok
unfolding cause_of cause_samples
returns-then-not-numbers_ok c =
    let a = c.args in sym (passed 1 _ (ap not (sym c.rate_ok.ensures ∙ c.if-not-rate_ok.false)) ∙ passed 3 _ (le-ltb _ _ c.if-dbm-t.false) ∙ passed 4 _ (ap not (sym c.all_dbm.ensures ∙ c.if-not-all_dbm.false)) ∙ passed 5 _ (ap not (sym c.in_order.ensures ∙ c.if-not-in_order.false)) ∙ passed 7 _ (le-ltb _ _ c.if-t-dbm-gt-LONGEST_STREAM.false) ∙ chosen 9 _ (ap not (sym c.numbers_ok.ensures ∙ c.if-not-numbers_ok.true)))

pub returns : goal.returns
unfolding cause_of cause_samples
returns c =
    let a = c.args in sym (passed 1 _ (ap not (sym c.rate_ok.ensures ∙ c.if-not-rate_ok.false)) ∙ passed 3 _ (le-ltb _ _ c.if-dbm-t.false) ∙ passed 4 _ (ap not (sym c.all_dbm.ensures ∙ c.if-not-all_dbm.false)) ∙ passed 5 _ (ap not (sym c.in_order.ensures ∙ c.if-not-in_order.false)) ∙ passed 7 _ (le-ltb _ _ c.if-t-dbm-gt-LONGEST_STREAM.false) ∙ passed 9 _ (ap not (sym c.numbers_ok.ensures ∙ c.if-not-numbers_ok.false)))
