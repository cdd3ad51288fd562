use native.Mathlib.Omega.{arith}
use native.Mathlib.Numerals.{add-one}
use mathlib.Core.Path.{◌≡◌, refl, ap, ◌∙◌}
use Prim.Native.Nat.{ℕ, suc, ◌+◌}
use lib.Dec.{ltb}
use lib.ListN.{get_or}
use Rattle.subscription.specs.Charges.{all_to, no_step}
use Rattle.subscription.proofs.PriceLaws.{all_more}
use Rattle.subscription.proofs.prices.rising.Goals as goal

pub loop-j-init : goal.loop-j-init
unfolding all_to
loop-j-init c = refl

pub loop-j-preserved : goal.loop-j-preserved
loop-j-preserved c =
    let steps = c.args.plan.steps in
    let l = c.loop-j in
    let e = ap (λ (k : ℕ). ltb ((get_or steps l.j no_step).upper) ((get_or steps k no_step).upper)) (add-one l.j) in
    all_more (λ i. ltb ((get_or steps i no_step).upper) ((get_or steps (suc i) no_step).upper)) l.j l.ok (ltb ((get_or steps l.j no_step).upper) ((get_or steps (l.j + 1) no_step).upper)) l.invariant e

pub returns : goal.returns
returns c =
    let a = c.args in
    let l = c.loop-j in
    let e : l.j ≡ a.n = omega arith in
    l.invariant ∙ ap (all_to (λ i. ltb ((get_or a.plan.steps i no_step).upper) ((get_or a.plan.steps (suc i) no_step).upper))) e
