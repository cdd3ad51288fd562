use Rattle.std.proofs.Common.{◌≡◌, length, pos, refl, ◌∙◌, arith, w32, to_z, of_z, rules}
use mir.ValLaws.{to_z-of_z}
use Rattle.explaining.specs.Taken.{took_at}
use Rattle.explaining.proofs.took.Goals as goal

pub near-known-requires : goal.near-known-requires
near-known-requires c =
    let h : length c.args.old.at ≡ 96 = search rules in
    omega (arith, h, c.requires.0)

pub near-kept-requires : goal.near-kept-requires
near-kept-requires c =
    let h : length c.args.new.at ≡ 96 = search rules in
    omega (arith, h, c.requires.1)

pub returns : goal.returns
unfolding took_at
returns c =
    let d = c.distance in
    let a = c.args in
    let e = c.distance-2 in
    let x : to_z w32 (of_z w32 d.result) ≡ pos a.i = to_z-of_z w32 d.result (record { sfits = d.type_inv }) ∙ d.ensures in
    let y : to_z w32 (of_z w32 e.result) ≡ pos a.j = to_z-of_z w32 e.result (record { sfits = e.type_inv }) ∙ e.ensures in
    rw (rw y at c.near-kept.ensures, rw x at c.near-known.ensures) refl
