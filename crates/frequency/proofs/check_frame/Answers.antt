use Rattle.limits.specs.Answer.{cause_of}
use Rattle.frequency.proofs.Ordered.{ordered-r}
use Rattle.frequency.proofs.Choices.{chosen, passed}
use Rattle.frequency.specs.Order.{cause_frame}
use mathlib.Core.Bool.{Bool, not, ◌&&◌}
use mathlib.Core.Path.{sym, ap, ◌∙◌}
use borrow.Author.Tests.{lt-ltb, le-ltb}
use Rattle.frequency.proofs.check_frame.Goals as goal

pub returns-then-not-rate_ok : goal.returns-then-not-rate_ok
unfolding cause_of cause_frame
returns-then-not-rate_ok c = let a = c.args in sym (chosen 1 _ (ap not (sym c.rate_ok.ensures ∙ c.if-not-rate_ok.true)))

pub returns-then-room-t : goal.returns-then-room-t
unfolding cause_of cause_frame
returns-then-room-t c = let a = c.args in sym (passed 1 _ (ap not (sym c.rate_ok.ensures ∙ c.if-not-rate_ok.false)) ∙ chosen 2 _ (lt-ltb _ _ c.if-room-t.true))

pub returns-then-not-readings_in_order : goal.returns-then-not-readings_in_order
unfolding cause_of cause_frame
returns-then-not-readings_in_order c =
    let a = c.args in sym (passed 1 _ (ap not (sym c.rate_ok.ensures ∙ c.if-not-rate_ok.false)) ∙ passed 2 _ (le-ltb _ _ c.if-room-t.false) ∙ chosen 5 _ (ap not (sym c.readings_in_order.ensures ∙ c.if-not-readings_in_order.true)))

pub numbers_ok-numbers-requires : goal.numbers_ok-numbers-requires
numbers_ok-numbers-requires c =
    let a = c.args in
    ((ordered-r a.t.now a.readings.now (sym c.readings_in_order.ensures ∙ c.if-not-readings_in_order.false)).places, c.is_sound-settled.ensures)

pub returns-then-not-numbers-ok : goal.returns-then-not-numbers-ok
unfolding cause_of cause_frame
returns-then-not-numbers-ok c =
    let a = c.args in sym (passed 1 _ (ap not (sym c.rate_ok.ensures ∙ c.if-not-rate_ok.false)) ∙ passed 2 _ (le-ltb _ _ c.if-room-t.false) ∙ passed 5 _ (ap not (sym c.readings_in_order.ensures ∙ c.if-not-readings_in_order.false)) ∙ chosen 9 _ (ap not (ap (λ (b : Bool). b && a.ok) (sym c.numbers_ok-numbers.ensures) ∙ c.if-not-numbers-ok.true)))

pub returns : goal.returns
unfolding cause_of cause_frame
returns c =
    let a = c.args in sym (passed 1 _ (ap not (sym c.rate_ok.ensures ∙ c.if-not-rate_ok.false)) ∙ passed 2 _ (le-ltb _ _ c.if-room-t.false) ∙ passed 5 _ (ap not (sym c.readings_in_order.ensures ∙ c.if-not-readings_in_order.false)) ∙ passed 9 _ (ap not (ap (λ (b : Bool). b && a.ok) (sym c.numbers_ok-numbers.ensures) ∙ c.if-not-numbers-ok.false)))
