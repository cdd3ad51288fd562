use Rattle.std.proofs.Common.{rules, pos, arith, length-set, w64}
use mir.ValLaws.{to_z-of_z, to_z_pos}
use Rattle.fleet_sheet.proofs.TableLaws.{nine_sets}
use Rattle.fleet_sheet.proofs.put_nine.Goals as goal

pub bounds-rows-at-2 : goal.bounds-rows-at-2
bounds-rows-at-2 c = simp length-set (omega arith)

pub bounds-rows-at-3 : goal.bounds-rows-at-3
bounds-rows-at-3 c = simp length-set (omega arith)

pub bounds-rows-at-4 : goal.bounds-rows-at-4
bounds-rows-at-4 c = simp length-set (omega arith)

pub bounds-rows-at-5 : goal.bounds-rows-at-5
bounds-rows-at-5 c = simp length-set (omega arith)

pub bounds-rows-at-6 : goal.bounds-rows-at-6
bounds-rows-at-6 c = simp length-set (omega arith)

pub bounds-rows-at-7 : goal.bounds-rows-at-7
bounds-rows-at-7 c = simp length-set (omega arith)

pub bounds-rows-at-8 : goal.bounds-rows-at-8
bounds-rows-at-8 c = simp length-set (omega arith)

pub bounds-rows-at-9 : goal.bounds-rows-at-9
bounds-rows-at-9 c = simp length-set (omega arith)

pub returns : goal.returns
returns c =
    let a = c.args in
    let z0 = to_z-of_z w64 a.row.messages (search rules) in
    let z1 = to_z-of_z w64 a.row.one (search rules) in
    let z2 = to_z-of_z w64 a.row.two (search rules) in
    let z3 = to_z-of_z w64 a.row.three (search rules) in
    let z4 = to_z-of_z w64 a.row.lowest (search rules) in
    let z5 = to_z-of_z w64 a.row.highest (search rules) in
    let z6 = to_z-of_z w64 a.row.halves (search rules) in
    let d = to_z_pos w64 a.device (omega arith) in
    cc (d, z0, z1, z2, z3, z4, z5, z6, nine_sets a.rows.now a.at (pos a.device) a.row.messages a.row.one a.row.two a.row.three a.row.lowest a.row.highest a.row.halves a.row.messages)
