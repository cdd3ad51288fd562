use Rattle.std.proofs.Common.{ap}
use lib.Ieee.{lt}
use Rattle.bursts.proofs.is_loud.Goals as goal

pub returns : goal.returns
returns c = ap (lt c.args.threshold) c.f32_to_f64_with_nan.ensures
