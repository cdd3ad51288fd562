use native.Mathlib.Omega.{arith}
use mathlib.Core.Path.{◌≡◌, refl, ap, ◌∙◌}
use lib.Dec.{leb}
use lib.ListN.{get_or}
use Rattle.subscription.specs.Charges.{all_to, dearest, no_step}
use Rattle.subscription.proofs.PriceLaws.{all_more}
use Rattle.subscription.proofs.prices.cheap.Goals as goal

pub loop-j-init : goal.loop-j-init
unfolding all_to
loop-j-init c = refl

pub loop-j-preserved : goal.loop-j-preserved
loop-j-preserved c =
    let steps = c.args.plan.steps in
    let l = c.loop-j in
    all_more (λ i. leb ((get_or steps i no_step).price) dearest) l.j l.ok (leb ((get_or steps l.j no_step).price) dearest) l.invariant refl

pub returns : goal.returns
returns c =
    let a = c.args in
    let l = c.loop-j in
    let e : l.j ≡ a.n = omega arith in
    l.invariant ∙ ap (all_to (λ i. leb ((get_or a.plan.steps i no_step).price) dearest)) e
