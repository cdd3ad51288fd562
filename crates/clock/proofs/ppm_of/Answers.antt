use Rattle.std.proofs.Common.{ℤ, refl, ap, ◌∙◌, w32, to_z, of_z}
use lib.Ieee.{to_signed}
use mir.ValLaws.{to_z-of_z}
use Rattle.floats.proofs.Saturating.{signed-fits}
use Rattle.floats.proofs.Trigs.{one_is}
use Rattle.clock.specs.Bits.{ppm_of}
use Rattle.clock.proofs.Constants.{million_is}
use Rattle.clock.proofs.ppm_of.Goals as goal

pub returns : goal.returns
unfolding ppm_of
returns c =
    let x = c.round_half_up.result in
    ap (λ (z : ℤ). to_z w32 (of_z w32 z)) c.to_i32_saturating.ensures ∙ to_z-of_z w32 (to_signed 31 x) (signed-fits w32 31 x refl)
    ∙ ap (to_signed 31) (c.round_half_up.ensures ∙ rw (one_is, million_is))
