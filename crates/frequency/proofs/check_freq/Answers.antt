use Rattle.limits.specs.Answer.{cause_of}
use Rattle.frequency.proofs.Choices.{chosen, passed}
use Rattle.frequency.specs.Order.{cause_freq}
use mathlib.Core.Bool.{not}
use mathlib.Core.Path.{sym, ap, ◌∙◌}
use Rattle.frequency.proofs.check_freq.Goals as goal

pub returns-then-not-rate_ok : goal.returns-then-not-rate_ok
unfolding cause_of cause_freq
returns-then-not-rate_ok c = let a = c.args in sym (chosen 1 _ (ap not (sym c.rate_ok.ensures ∙ c.if-not-rate_ok.true)))

pub returns-then-not-tunings_in_order : goal.returns-then-not-tunings_in_order
unfolding cause_of cause_freq
returns-then-not-tunings_in_order c = let a = c.args in sym (passed 1 _ (ap not (sym c.rate_ok.ensures ∙ c.if-not-rate_ok.false)) ∙ chosen 5 _ (ap not (sym c.tunings_in_order.ensures ∙ c.if-not-tunings_in_order.true)))

pub returns-then-not-floats_ok : goal.returns-then-not-floats_ok
unfolding cause_of cause_freq
returns-then-not-floats_ok c =
    let a = c.args in sym (passed 1 _ (ap not (sym c.rate_ok.ensures ∙ c.if-not-rate_ok.false)) ∙ passed 5 _ (ap not (sym c.tunings_in_order.ensures ∙ c.if-not-tunings_in_order.false)) ∙ chosen 9 _ (ap not (sym c.floats_ok.ensures ∙ c.if-not-floats_ok.true)))

pub returns : goal.returns
unfolding cause_of cause_freq
returns c =
    let a = c.args in sym (passed 1 _ (ap not (sym c.rate_ok.ensures ∙ c.if-not-rate_ok.false)) ∙ passed 5 _ (ap not (sym c.tunings_in_order.ensures ∙ c.if-not-tunings_in_order.false)) ∙ passed 9 _ (ap not (sym c.floats_ok.ensures ∙ c.if-not-floats_ok.false)))
