use Rattle.std.proofs.Common.{◌∙◌, w64}
use mir.ValLaws.{to_z-of_z}
use Rattle.fleet_sheet.proofs.NumberLaws.{sum_lt}
use Rattle.fleet_sheet.proofs.rows.sum.Goals as goal

pub overflow_add-result : goal.overflow_add-result
overflow_add-result c =
    let ea = to_z-of_z w64 c.args.a c.ranges.a in
    let eb = to_z-of_z w64 c.args.b c.ranges.b in
    rw (ea, eb) (record { sfits = sum_lt 62 c.args.a c.args.b c.requires.0 c.requires.1 })

pub returns : goal.returns
returns c =
    let ea = to_z-of_z w64 c.args.a c.ranges.a in
    let eb = to_z-of_z w64 c.args.b c.ranges.b in
    to_z-of_z w64 _ (overflow_add-result c) ∙ rw (ea, eb)
