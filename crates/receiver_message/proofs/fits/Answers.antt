use mathlib.Core.Path.{refl}
use Rattle.ledger.specs.Causes.{entry_fits}
use Rattle.receiver_message.proofs.fits.Goals as goal

pub returns : goal.returns
unfolding entry_fits
returns c = rw (
  c.has.ensures,
  c.has-2.ensures,
  c.has-3.ensures,
  c.spans_fit.ensures,
  c.in_front.ensures,
)
    refl
