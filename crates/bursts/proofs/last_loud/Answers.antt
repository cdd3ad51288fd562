use Rattle.std.proofs.Common.{ℕ, ◌+◌, sym, ◌∙◌, subst, arith}
use Rattle.bursts.proofs.ClusterLaws.{OpenAt, open_first, open-loud, open-quiet, open-closed, open-end}
use Rattle.bursts.proofs.last_loud.Goals.{then-is_loud, else-is_loud+else-gap-i}
use Rattle.bursts.proofs.last_loud.Goals as goal

pub loop-i-init : goal.loop-i-init
loop-i-init c = open_first c.args.threshold c.args.gap c.args.dbm.now c.args.first c.requires

pub returns-then-gap-i : goal.returns-then-gap-i
returns-then-gap-i c =
    let a = c.args in
    open-closed a.threshold a.gap a.dbm.now a.first c.loop-i.last c.loop-i.i c.loop-i.invariant c.loop-i-test.true
    (sym c.is_loud.ensures ∙ c.if-is_loud.false) c.if-gap-i.true

pub loop-i-preserved : goal.loop-i-preserved
loop-i-preserved c =
    let a = c.args in
    let t = c.loop-i-test.true in
    let e = c.is_loud.ensures in
    elim c.if-is_loud.branch [
      | then-is_loud w ↦
          subst (λ (k : ℕ). OpenAt a.threshold a.gap a.dbm.now a.first k (c.loop-i.i + 1)) (sym w.last-is)
          (open-loud a.threshold a.gap a.dbm.now a.first c.loop-i.last c.loop-i.i c.loop-i.invariant t (sym e ∙ w.if-is_loud.true))
      | else-is_loud+else-gap-i w ↦
          subst (λ (k : ℕ). OpenAt a.threshold a.gap a.dbm.now a.first k (c.loop-i.i + 1)) (sym w.last-is)
          (open-quiet a.threshold a.gap a.dbm.now a.first c.loop-i.last c.loop-i.i c.loop-i.invariant t (sym e ∙ w.if-is_loud.false) w.if-gap-i.false)
    ]

pub returns : goal.returns
returns c =
    let a = c.args in
    open-end a.threshold a.gap a.dbm.now a.first c.loop-i.last c.loop-i.i c.loop-i.invariant (omega (arith, c.loop-i-test.false))
