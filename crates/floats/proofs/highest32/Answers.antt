use Rattle.std.proofs.Common.{◌+◌, drop, sym, ap, ◌∙◌, arith}
use lib.Ieee.{Float}
use Rattle.floats.specs.Fold.{max_from}
use Rattle.floats.proofs.Folds.{max_step, max_end}
use Rattle.floats.proofs.highest32.Goals as goal

pub loop-x-preserved : goal.loop-x-preserved
loop-x-preserved c =
    let s = c.args.xs.now in
    ap (λ (v : Float). max_from v (drop (c.loop-x.x-index + 1) s)) c.max32-m.ensures
    ∙ sym (max_step c.loop-x.m s c.loop-x.x-index (omega arith)) ∙ c.loop-x.invariant

pub returns : goal.returns
returns c = sym (max_end c.loop-x.m c.args.xs.now c.loop-x.x-index (omega arith)) ∙ c.loop-x.invariant
