use Rattle.limits.specs.Answer.{cause_of}
use Rattle.frequency.proofs.Choices.{chosen, passed}
use mathlib.Core.Bool.{not}
use mathlib.Core.Path.{sym, ap, ◌∙◌}
use borrow.Author.Tests.{lt-ltb, le-ltb}
use Rattle.frequency_grown.proofs.check_values.Goals as goal

pub returns-then-raw-gt-MOST_READINGS : goal.returns-then-raw-gt-MOST_READINGS
unfolding cause_of
returns-then-raw-gt-MOST_READINGS c = sym (chosen 3 _ (lt-ltb _ _ c.if-raw-gt-MOST_READINGS.true))

pub returns-then-not-fits_readings : goal.returns-then-not-fits_readings
unfolding cause_of
returns-then-not-fits_readings c = sym (passed 3 _ (le-ltb _ _ c.if-raw-gt-MOST_READINGS.false) ∙ chosen 8 _ (ap not (sym c.fits_readings.ensures ∙ c.if-not-fits_readings.true)))

pub returns : goal.returns
unfolding cause_of
returns c = sym (passed 3 _ (le-ltb _ _ c.if-raw-gt-MOST_READINGS.false) ∙ passed 8 _ (ap not (sym c.fits_readings.ensures ∙ c.if-not-fits_readings.false)))
