use Rattle.std.proofs.Common.{◌≡◌, Float, Option, Some, None, refl}
use Rattle.std.specs.Option.{option_or}
use Rattle.ledger.specs.Merge.{finished, or_else}
use Rattle.receiver_message.proofs.finished.Goals as goal

or_is : (o p : Option Float) → option_or o p ≡ or_else o p
unfolding or_else
or_is None p = refl
or_is (Some t) p = refl

pub returns : goal.returns
unfolding finished
returns c = rw (c.or-m.ensures, c.estimate.ensures, or_is) refl
