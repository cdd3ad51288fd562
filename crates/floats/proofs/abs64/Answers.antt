use Rattle.std.proofs.Common.{◌≡◌, false, refl, ◌∙◌}
use lib.Ieee.{Float, nan, inf, fin}
use Rattle.std.specs.Float.{float_with_sign}
use Rattle.floats.specs.Trig.{magnitude}
use Rattle.floats.proofs.abs64.Goals as goal

magnitude_is : (x : Float) → float_with_sign false x ≡ magnitude x
unfolding float_with_sign magnitude
magnitude_is nan = refl
magnitude_is (inf s) = refl
magnitude_is (fin s m e) = refl

pub returns : goal.returns
returns c = c.abs.ensures.value ∙ magnitude_is c.args.x
