use Rattle.grip.proofs.TimeLaws.{zero_is, finite_is}
use Rattle.grip.proofs.distance_ok.Goals as goal

pub returns : goal.returns
returns c = cc (c.is_finite.ensures.value, finite_is c.args.x, zero_is)
