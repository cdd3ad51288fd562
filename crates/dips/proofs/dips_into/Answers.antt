use Rattle.std.proofs.Common.{◌≡◌, ◌<◌, map, sym, ◌∙◌, arith, lt-length-set}
use Rattle.dips.specs.Numbers.{most_dips}
use Rattle.dips.specs.Dips.{depth_of, is_dip, dip_indices, dip_at, found_in}
use Rattle.dips.proofs.DipLaws.{tested-deep, tested_other, dips_left, stored_start, stored-few, stored-dip, stored_other, stored_end}
use Rattle.dips.proofs.dips_into.Goals.{After-centre}
use Rattle.dips.proofs.dips_into.Goals as goal

pub loop-i-init : goal.loop-i-init
unfolding found_in dip_indices
loop-i-init c =
    let a = c.args in
    let win = c.new-windows.result.side in
    let half = c.new-windows.result.half in
    let e : found_in a.samples.dbm.now a.samples.rate a.level ≡ map (dip_at win a.samples.dbm.now) (dips_left a.level win half a.samples.dbm.now 1) =
    rw (c.new-windows.ensures.0, c.new-windows.ensures.1) in
    (omega arith, omega arith, omega arith, stored_start a.level win half a.samples.dbm.now c.args.samples.valid (found_in a.samples.dbm.now a.samples.rate a.level) a.dips.now e)

pub overflow_add-i-in-None : goal.overflow_add-i-in-None
overflow_add-i-in-None c = omega (arith, c.loop-i.invariant.1)

pub loop-i-smaller-in-None : goal.loop-i-smaller-in-None
loop-i-smaller-in-None c = omega (arith, c.loop-i-test.true)

pub loop-i-preserved-in-None : goal.loop-i-preserved-in-None
loop-i-preserved-in-None c =
    let a = c.args in
    let win = c.new-windows.result.side in
    let half = c.new-windows.result.half in
    let t = c.depth in (
      omega (arith, c.loop-i.invariant.0),
      omega (arith, c.args.samples.high, c.args.samples.short, c.loop-i-test.true),
      c.loop-i.invariant.2,
      stored_other a.level win half a.samples.dbm.now c.args.samples.valid (found_in a.samples.dbm.now a.samples.rate a.level) a.dips.now c.loop-i.n c.loop-i.i c.loop-i.dips c.loop-i.invariant.3 c.loop-i-test.true
          (tested_other _ (depth_of win a.samples.dbm.now c.loop-i.i) (sym c.in-None.is ∙ t.ensures)),
    )

few : (c : After-centre) → c.loop-i.n < most_dips
few c =
    let a = c.args in
    stored-few a.level c.new-windows.result.side c.new-windows.result.half a.samples.dbm.now c.args.samples.valid (found_in a.samples.dbm.now a.samples.rate a.level) a.dips.now
    c.loop-i.n c.loop-i.i c.loop-i.dips c.loop-i.invariant.3 a.samples.rate c.new-windows.ensures.2 c.args.samples.short c.loop-i-test.true

pub offset_bounds-dips-n : goal.offset_bounds-dips-n
offset_bounds-dips-n c = omega (arith, few c)

pub bounds-dips-n : goal.bounds-dips-n
bounds-dips-n c =
    omega (arith, few c, c.loop-i.invariant.3.size, c.requires)

pub overflow_add-dips : goal.overflow_add-dips
overflow_add-dips c = omega (arith, few c)

pub offset_bounds-dips-n-in-Some : goal.offset_bounds-dips-n-in-Some
offset_bounds-dips-n-in-Some c = omega (arith, few c)

pub bounds-dips-n-in-Some : goal.bounds-dips-n-in-Some
bounds-dips-n-in-Some c =
    lt-length-set c.loop-i.dips c.loop-i.n c.centre.result (omega (arith, few c, c.loop-i.invariant.3.size, c.requires))

pub overflow_add-n : goal.overflow_add-n
overflow_add-n c = omega (arith, few c)

pub overflow_add-i-in-Some : goal.overflow_add-i-in-Some
overflow_add-i-in-Some c = omega (arith, c.new-windows.result.narrow_half)

pub overflow_add-i-in-Some-2 : goal.overflow_add-i-in-Some-2
overflow_add-i-in-Some-2 c = omega (arith, c.new-windows.result.narrow_half, c.loop-i.invariant.1)

pub loop-i-smaller : goal.loop-i-smaller
loop-i-smaller c = omega (arith, c.loop-i-test.true)

pub loop-i-preserved : goal.loop-i-preserved
loop-i-preserved c =
    let a = c.args in
    let e = (goal.at.loop-i-preserved c).After-centre in
    let win = c.new-windows.result.side in
    let half = c.new-windows.result.half in
    let t = tested-deep (is_dip a.level win half a.samples.dbm.now c.loop-i.i) (depth_of win a.samples.dbm.now c.loop-i.i) _ (sym c.in-Some.is ∙ c.depth.ensures) in (
      omega (arith, c.loop-i.invariant.0),
      omega (arith, c.args.samples.high, c.args.samples.short, c.loop-i-test.true, c.new-windows.result.narrow_half),
      omega (arith, few e),
      stored-dip a.level win half a.samples.dbm.now c.args.samples.valid (found_in a.samples.dbm.now a.samples.rate a.level) a.dips.now c.loop-i.n c.loop-i.i c.loop-i.dips c.loop-i.invariant.3
          c.centre.result c.in-Some.depth (omega (arith, few e)) (omega (arith, few e, c.loop-i.invariant.3.size, c.requires)) c.loop-i-test.true t.0 c.centre.ensures t.1,
    )

pub returns : goal.returns
returns c =
    let a = c.args in (
      stored_end a.level c.new-windows.result.side c.new-windows.result.half a.samples.dbm.now c.args.samples.valid (found_in a.samples.dbm.now a.samples.rate a.level) a.dips.now c.loop-i.n c.loop-i.i c.loop-i.dips
          c.loop-i.invariant.3 (omega (arith, c.loop-i-test.false)),
      c.loop-i.invariant.2,
    )
