use Rattle.std.proofs.Common.{◌≡◌, ◌-◌, sym, refl, ◌∙◌, arith}
use Rattle.clock.proofs.EndLaws.{high_here, high-below, high_none}
use Rattle.clock.proofs.last_high.Goals as goal

pub loop-i-init : goal.loop-i-init
loop-i-init c = (omega arith, refl)

pub returns-then-not-under : goal.returns-then-not-under
returns-then-not-under c =
    let a = c.args in
    (high_here a.limit a.seg.now _ (c.loop-i.i - 1) (omega arith) (sym c.under.ensures ∙ c.if-not-under.true) c.loop-i.invariant.1, omega (arith, c.loop-i.invariant.0))

pub loop-i-preserved : goal.loop-i-preserved
loop-i-preserved c =
    let a = c.args in
    (omega (arith, c.loop-i.invariant.0), high-below a.limit a.seg.now _ (c.loop-i.i - 1) (omega arith) (sym c.under.ensures ∙ c.if-not-under.false) c.loop-i.invariant.1)

pub returns : goal.returns
returns c =
    let a = c.args in
    let e : c.loop-i.i - 1 ≡ 0 = omega arith in
    (sym e ∙ high_none a.limit a.seg.now _ (c.loop-i.i - 1) e c.loop-i.invariant.1, omega arith)
