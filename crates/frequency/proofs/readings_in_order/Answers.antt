use Rattle.std.proofs.Common.{sym, ◌∙◌}
use Rattle.frequency.proofs.Choices.{fails, holds}
use Rattle.frequency.specs.Order.{readings_in_order}
use Rattle.frequency.proofs.readings_in_order.Goals as goal

pub returns-then-not-signal_ok : goal.returns-then-not-signal_ok
unfolding readings_in_order
returns-then-not-signal_ok c = sym (fails _ (sym c.signal_ok.ensures ∙ c.if-not-signal_ok.true))

pub returns-then-not-fits_readings : goal.returns-then-not-fits_readings
unfolding readings_in_order
returns-then-not-fits_readings c = sym (holds _ (sym c.signal_ok.ensures ∙ c.if-not-signal_ok.false) ∙ fails _ (sym c.fits_readings.ensures ∙ c.if-not-fits_readings.true))

pub returns-then-settled : goal.returns-then-settled
unfolding readings_in_order
returns-then-settled c =
    let s = c.requires c.if-settled.true in
    sym (holds _ (sym c.signal_ok.ensures ∙ c.if-not-signal_ok.false) ∙ holds _ (sym c.fits_readings.ensures ∙ c.if-not-fits_readings.false) ∙ s.indices)

pub returns : goal.returns
unfolding readings_in_order
returns c = c.within.ensures ∙ sym (holds _ (sym c.signal_ok.ensures ∙ c.if-not-signal_ok.false) ∙ holds _ (sym c.fits_readings.ensures ∙ c.if-not-fits_readings.false))
