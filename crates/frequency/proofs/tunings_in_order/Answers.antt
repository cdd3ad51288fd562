use Rattle.std.proofs.Common.{sym, ◌∙◌}
use Rattle.frequency.proofs.Choices.{fails, holds}
use Rattle.frequency.specs.Order.{tunings_in_order}
use Rattle.frequency.proofs.tunings_in_order.Goals as goal

pub returns-then-not-signal_ok : goal.returns-then-not-signal_ok
unfolding tunings_in_order
returns-then-not-signal_ok c = sym (fails _ (sym c.signal_ok.ensures ∙ c.if-not-signal_ok.true))

pub returns-then-not-fits_tunings : goal.returns-then-not-fits_tunings
unfolding tunings_in_order
returns-then-not-fits_tunings c = sym (holds _ (sym c.signal_ok.ensures ∙ c.if-not-signal_ok.false) ∙ fails _ (sym c.fits_tunings.ensures ∙ c.if-not-fits_tunings.true))

pub returns : goal.returns
unfolding tunings_in_order
returns c = c.tuned_within.ensures ∙ sym (holds _ (sym c.signal_ok.ensures ∙ c.if-not-signal_ok.false) ∙ holds _ (sym c.fits_tunings.ensures ∙ c.if-not-fits_tunings.false))
