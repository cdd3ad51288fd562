use mathlib.Core.Path.{ap, ◌∙◌}
use Prim.Native.Nat.{min}
use Rattle.std.proofs.Math.Nat.{min_comm}
use lib.Ieee.{binary64, mul, to_unsigned}
use Rattle.floats.specs.Floor.{floor}
use Rattle.floats.proofs.Trigs.{two_is}
use Rattle.demod.specs.Decode.{most_depth, depth_byte}
use Rattle.demod.proofs.depth_byte.Goals as goal

pub returns : goal.returns
unfolding depth_byte
returns c =
    c.min.ensures ∙ min_comm c.to_usize_saturating.result most_depth
    ∙ ap (min most_depth) (c.to_usize_saturating.ensures ∙ ap (to_unsigned 64) (c.floor64.ensures ∙ ap (λ x. floor (mul binary64 c.args.depth x)) two_is))
