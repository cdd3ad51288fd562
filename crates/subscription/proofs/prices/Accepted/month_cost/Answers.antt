use borrow.Author.Rules.{rules}
use native.Mathlib.Omega.{arith}
use mathlib.Core.Path.{◌≡◌, refl, ap, ◌∙◌}
use lib.ListN.{get_or}
use Rattle.subscription.specs.Charges.{sum_to, day_cost, cost_of, days}
use Rattle.subscription.proofs.PriceLaws.{sum_more}
use Rattle.subscription.proofs.prices.Accepted.month_cost.Goals as goal

pub loop-n-init : goal.loop-n-init
unfolding sum_to
loop-n-init c = (refl, search rules)

pub day_cost-sum-requires : goal.day_cost-sum-requires
day_cost-sum-requires c = c.requires.under c.loop-n.n-index

pub overflow_add-sum : goal.overflow_add-sum
overflow_add-sum c = record { fits = omega (arith, c.day_cost-sum.ensures.1, c.loop-n.invariant.1) }

pub loop-n-preserved : goal.loop-n-preserved
loop-n-preserved c =
    let a = c.args in
    let l = c.loop-n in (
      sum_more (λ i. day_cost a.self.plan (get_or a.counts.now i 0)) l.n-index l.sum c.day_cost-sum.result l.invariant.0 c.day_cost-sum.ensures.0,
      omega (arith, c.day_cost-sum.ensures.1, l.invariant.1),
    )

pub returns : goal.returns
unfolding cost_of
returns c =
    let a = c.args in
    let l = c.loop-n in
    let e : l.n-index ≡ days = omega (arith, c.requires.size) in
    (l.invariant.0 ∙ ap (sum_to (λ i. day_cost a.self.plan (get_or a.counts.now i 0))) e, omega (arith, l.invariant.1))
