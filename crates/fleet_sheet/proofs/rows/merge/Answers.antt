use Rattle.std.proofs.Common.{w64, rules}
use mir.ValLaws.{to_z-of_z}
use Rattle.fleet_sheet.proofs.NumberLaws.{min_is, max_is}
use Rattle.fleet_sheet.proofs.rows.merge.Goals as goal

pub returns : goal.returns
returns c =
    let z0 = to_z-of_z w64 c.sum.result (record { sfits = c.sum.type_inv }) in
    let a0 = to_z-of_z w64 c.args.a.messages (search rules) in
    let b0 = to_z-of_z w64 c.args.b.messages (search rules) in
    let z1 = to_z-of_z w64 c.sum-2.result (record { sfits = c.sum-2.type_inv }) in
    let a1 = to_z-of_z w64 c.args.a.one (search rules) in
    let b1 = to_z-of_z w64 c.args.b.one (search rules) in
    let z2 = to_z-of_z w64 c.sum-3.result (record { sfits = c.sum-3.type_inv }) in
    let a2 = to_z-of_z w64 c.args.a.two (search rules) in
    let b2 = to_z-of_z w64 c.args.b.two (search rules) in
    let z3 = to_z-of_z w64 c.sum-4.result (record { sfits = c.sum-4.type_inv }) in
    let a3 = to_z-of_z w64 c.args.a.three (search rules) in
    let b3 = to_z-of_z w64 c.args.b.three (search rules) in
    let z4 = to_z-of_z w64 c.min.result (record { sfits = c.min.type_inv }) in
    let a4 = to_z-of_z w64 c.args.a.lowest (search rules) in
    let b4 = to_z-of_z w64 c.args.b.lowest (search rules) in
    let z5 = to_z-of_z w64 c.max.result (record { sfits = c.max.type_inv }) in
    let a5 = to_z-of_z w64 c.args.a.highest (search rules) in
    let b5 = to_z-of_z w64 c.args.b.highest (search rules) in
    let z6 = to_z-of_z w64 c.sum-5.result (record { sfits = c.sum-5.type_inv }) in
    let a6 = to_z-of_z w64 c.args.a.halves (search rules) in
    let b6 = to_z-of_z w64 c.args.b.halves (search rules) in
    cc (z0, a0, b0, c.sum.ensures, z1, a1, b1, c.sum-2.ensures, z2, a2, b2, c.sum-3.ensures, z3, a3, b3, c.sum-4.ensures, z4, a4, b4, c.min.ensures.value, min_is c.args.a.lowest c.args.b.lowest, z5, a5, b5, c.max.ensures.value, max_is c.args.a.highest c.args.b.highest, z6, a6, b6, c.sum-5.ensures)
