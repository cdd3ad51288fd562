use Rattle.limits.specs.Answer.{cause_of}
use Rattle.frequency.proofs.Ordered.{ordered-t}
use Rattle.frequency.proofs.Choices.{chosen, passed}
use Rattle.frequency.specs.Order.{cause_tuned}
use Rattle.frequency_lists.specs.Lists.{fits_tunings}
use Prim.Native.Nat.{◌+◌}
use mathlib.Core.Bool.{Bool, not, ◌&&◌}
use mathlib.Core.Path.{sym, ap, ◌∙◌}
use Rattle.frequency.proofs.check_tuned.Goals as goal

pub returns-then-not-rate_ok : goal.returns-then-not-rate_ok
unfolding cause_of cause_tuned
returns-then-not-rate_ok c = let a = c.args in sym (chosen 1 _ (ap not (sym c.rate_ok.ensures ∙ c.if-not-rate_ok.true)))

pub returns-then-not-tunings_in_order : goal.returns-then-not-tunings_in_order
unfolding cause_of cause_tuned
returns-then-not-tunings_in_order c = let a = c.args in sym (passed 1 _ (ap not (sym c.rate_ok.ensures ∙ c.if-not-rate_ok.false)) ∙ chosen 5 _ (ap not (sym c.tunings_in_order.ensures ∙ c.if-not-tunings_in_order.true)))

pub is_due-due-requires : goal.is_due-due-requires
is_due-due-requires c = let a = c.args in (ordered-t a.t.now a.tunings.now (sym c.tunings_in_order.ensures ∙ c.if-not-tunings_in_order.false)).places

pub no_room-requires : goal.no_room-requires
no_room-requires c = let a = c.args in (ordered-t a.t.now a.tunings.now (sym c.tunings_in_order.ensures ∙ c.if-not-tunings_in_order.false)).places

pub returns-then-no_room : goal.returns-then-no_room
unfolding cause_of cause_tuned
returns-then-no_room c =
    let a = c.args in sym (passed 1 _ (ap not (sym c.rate_ok.ensures ∙ c.if-not-rate_ok.false)) ∙ passed 5 _ (ap not (sym c.tunings_in_order.ensures ∙ c.if-not-tunings_in_order.false)) ∙ chosen 8 _ (sym (c.no_room.ensures ∙ ap (λ (b : Bool). b && not (fits_tunings (a.t.now.tunings + 1) a.tunings.now)) c.is_due-due.ensures) ∙ c.if-no_room.true))

pub returns-then-not-floats_ok : goal.returns-then-not-floats_ok
unfolding cause_of cause_tuned
returns-then-not-floats_ok c =
    let a = c.args in sym (passed 1 _ (ap not (sym c.rate_ok.ensures ∙ c.if-not-rate_ok.false)) ∙ passed 5 _ (ap not (sym c.tunings_in_order.ensures ∙ c.if-not-tunings_in_order.false)) ∙ passed 8 _ (sym (c.no_room.ensures ∙ ap (λ (b : Bool). b && not (fits_tunings (a.t.now.tunings + 1) a.tunings.now)) c.is_due-due.ensures) ∙ c.if-no_room.false) ∙ chosen 9 _ (ap not (sym c.floats_ok.ensures ∙ c.if-not-floats_ok.true)))

pub returns : goal.returns
unfolding cause_of cause_tuned
returns c =
    let a = c.args in sym (passed 1 _ (ap not (sym c.rate_ok.ensures ∙ c.if-not-rate_ok.false)) ∙ passed 5 _ (ap not (sym c.tunings_in_order.ensures ∙ c.if-not-tunings_in_order.false)) ∙ passed 8 _ (sym (c.no_room.ensures ∙ ap (λ (b : Bool). b && not (fits_tunings (a.t.now.tunings + 1) a.tunings.now)) c.is_due-due.ensures) ∙ c.if-no_room.false) ∙ passed 9 _ (ap not (sym c.floats_ok.ensures ∙ c.if-not-floats_ok.false)))
