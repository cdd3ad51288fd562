use Rattle.limits.specs.Answer.{cause_of}
use Rattle.frequency.proofs.Ordered.{ordered_of}
use Rattle.frequency.proofs.Choices.{chosen, passed}
use Rattle.frequency.specs.Order.{cause_next}
use Rattle.frequency.specs.Lent.{lists}
use mathlib.Core.Bool.{not}
use mathlib.Core.Path.{sym, ap, ◌∙◌}
use borrow.Author.Tests.{lt-ltb, le-ltb}
use Rattle.frequency.proofs.check_next.Goals as goal

pub returns-then-not-rate_ok : goal.returns-then-not-rate_ok
unfolding cause_of cause_next
returns-then-not-rate_ok c = let a = c.args in sym (chosen 1 _ (ap not (sym c.rate_ok.ensures ∙ c.if-not-rate_ok.true)))

pub returns-then-room-t : goal.returns-then-room-t
unfolding cause_of cause_next
returns-then-room-t c =
    let a = c.args in sym (passed 1 _ (ap not (sym c.rate_ok.ensures ∙ c.if-not-rate_ok.false)) ∙ chosen 2 _ (lt-ltb _ _ c.if-room-t.true))

pub returns-then-not-in_order : goal.returns-then-not-in_order
unfolding cause_of cause_next
returns-then-not-in_order c =
    let a = c.args in sym (passed 1 _ (ap not (sym c.rate_ok.ensures ∙ c.if-not-rate_ok.false)) ∙ passed 2 _ (le-ltb _ _ c.if-room-t.false) ∙ chosen 5 _ (ap not (sym c.in_order.ensures ∙ c.if-not-in_order.true)))

pub numbers_ok-requires : goal.numbers_ok-requires
numbers_ok-requires c =
    let a = c.args in
    ((ordered_of a.t.now (lists a.readings.now a.tunings.now) (sym c.in_order.ensures ∙ c.if-not-in_order.false)).r.places, c.is_sound-settled.ensures)

pub returns-then-not-numbers_ok : goal.returns-then-not-numbers_ok
unfolding cause_of cause_next
returns-then-not-numbers_ok c =
    let a = c.args in sym (passed 1 _ (ap not (sym c.rate_ok.ensures ∙ c.if-not-rate_ok.false)) ∙ passed 2 _ (le-ltb _ _ c.if-room-t.false) ∙ passed 5 _ (ap not (sym c.in_order.ensures ∙ c.if-not-in_order.false)) ∙ chosen 9 _ (ap not (sym c.numbers_ok.ensures ∙ c.if-not-numbers_ok.true)))

pub returns : goal.returns
unfolding cause_of cause_next
returns c =
    let a = c.args in sym (passed 1 _ (ap not (sym c.rate_ok.ensures ∙ c.if-not-rate_ok.false)) ∙ passed 2 _ (le-ltb _ _ c.if-room-t.false) ∙ passed 5 _ (ap not (sym c.in_order.ensures ∙ c.if-not-in_order.false)) ∙ passed 9 _ (ap not (sym c.numbers_ok.ensures ∙ c.if-not-numbers_ok.false)))
