use native.Mathlib.Omega.{arith}
use native.Mathlib.Numerals.{add-one}
use mathlib.Core.Path.{◌≡◌, refl, sym, ap, ◌∙◌}
use Prim.Native.Nat.{suc}
use Rattle.subscription.specs.Charges.{sum_to}
use Rattle.subscription.specs.Counting.{reached}
use Rattle.subscription.proofs.PriceLaws.{extra_price, sound, reached_more, step-more, reached-few, day_all}
use Rattle.subscription.proofs.prices.Accepted.day_cost.Goals as goal

pub loop-j-init : goal.loop-j-init
unfolding sum_to
loop-j-init c = (refl, refl)

pub reach-end-requires : goal.reach-end-requires
reach-end-requires c = omega (arith, c.loop-j-test.true, (sound c.args.self.plan c.args.self.ok).few)

pub overflow_sub-end : goal.overflow_sub-end
overflow_sub-end c =
    let l = c.loop-j in
    let ok = sound c.args.self.plan c.args.self.ok in
    omega (arith, reached_more c.args.self.plan ok c.saturating_sub-extra.result l.j c.loop-j-test.true, l.invariant.0, c.reach-end.ensures)

pub offset_bounds-plan-j : goal.offset_bounds-plan-j
offset_bounds-plan-j c = record { fits = omega (arith, c.loop-j-test.true, (sound c.args.self.plan c.args.self.ok).few) }

pub bounds-plan-j : goal.bounds-plan-j
bounds-plan-j c = omega (arith, c.loop-j-test.true, (sound c.args.self.plan c.args.self.ok).few)

pub overflow_add-sum : goal.overflow_add-sum
overflow_add-sum c =
    let l = c.loop-j in
    let x = c.saturating_sub-extra in
    let ok = sound c.args.self.plan c.args.self.ok in
    let r = c.reach-end in
    let e = step-more c.args.self.plan ok x.result l.j l.passed r.result c.step_cost-sum.result l.sum c.loop-j-test.true l.invariant.0 r.ensures c.step_cost-sum.ensures l.invariant.1 in
    let most = reached-few c.args.self.plan ok x.result (suc l.j) in
    record { fits = omega (arith, e, most, ap (sum_to (extra_price c.args.self.plan)) r.ensures, x.ensures, c.requires) }

pub loop-j-preserved : goal.loop-j-preserved
loop-j-preserved c =
    let l = c.loop-j in
    let x = c.saturating_sub-extra in
    let ok = sound c.args.self.plan c.args.self.ok in
    let r = c.reach-end in (
      r.ensures ∙ ap (reached c.args.self.plan x.result) (sym (add-one l.j)),
      step-more c.args.self.plan ok x.result l.j l.passed r.result c.step_cost-sum.result l.sum c.loop-j-test.true l.invariant.0 r.ensures c.step_cost-sum.ensures l.invariant.1,
    )

pub returns : goal.returns
returns c =
    let l = c.loop-j in
    let x = c.saturating_sub-extra in
    let ok = sound c.args.self.plan c.args.self.ok in
    let e : l.j ≡ c.args.self.plan.count = omega arith in (
      day_all c.args.self.plan ok c.args.n x.result l.sum l.j l.passed x.ensures e l.invariant.0 l.invariant.1,
      omega (arith, l.invariant.1, ap (sum_to (extra_price c.args.self.plan)) l.invariant.0, reached-few c.args.self.plan ok x.result l.j, x.ensures, c.requires),
    )
