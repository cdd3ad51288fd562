use Rattle.std.proofs.Common.{ap, ◌∙◌, w32}
use mir.ValLaws.{to_z-of_z}
use lib.Ieee.{to_signed}
use Rattle.floats.specs.Floor.{floor}
use Rattle.fleet_sheet.specs.Fleet.{half_decibels}
use Rattle.fleet_sheet.proofs.NumberLaws.{two_is}
use Rattle.fleet_sheet.proofs.rows.half_decibels.Goals as goal

pub returns : goal.returns
unfolding half_decibels
returns c =
    to_z-of_z w32 c.to_i32_saturating.result (record { sfits = c.to_i32_saturating.type_inv })
    ∙ c.to_i32_saturating.ensures
    ∙ ap (to_signed 31) (c.floor64.ensures ∙ ap floor (cc (two_is, c.f32_to_f64_with_nan.ensures)))
