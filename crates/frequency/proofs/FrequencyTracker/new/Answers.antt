use Rattle.std.proofs.Common.{not, sym, ap, ◌∙◌}
use Rattle.frequency.specs.Calls.{cause_of_new}
use Rattle.frequency.proofs.Choices.{chosen, passed}
use Rattle.frequency.proofs.FrequencyTracker.new.Goals as goal

pub returns-then-not-rate_ok-clause-number : goal.returns-then-not-rate_ok-clause-number
unfolding cause_of_new
returns-then-not-rate_ok-clause-number c = sym (chosen 1 _ (ap not (sym c.rate_ok.ensures ∙ c.if-not-rate_ok.true)))

pub returns-then-not-step_ok-clause-number : goal.returns-then-not-step_ok-clause-number
unfolding cause_of_new
returns-then-not-step_ok-clause-number c = sym (passed 1 _ (ap not (sym c.rate_ok.ensures ∙ c.if-not-rate_ok.false)) ∙ chosen 9 _ (ap not (sym c.step_ok.ensures ∙ c.if-not-step_ok.true)))

pub returns-clause-number : goal.returns-clause-number
unfolding cause_of_new
returns-clause-number c = sym (passed 1 _ (ap not (sym c.rate_ok.ensures ∙ c.if-not-rate_ok.false)) ∙ passed 9 _ (ap not (sym c.step_ok.ensures ∙ c.if-not-step_ok.false)))
