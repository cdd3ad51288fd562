use mathlib.Core.Path.{◌≡◌, refl, ◌∙◌}
use Prim.Native.Nat.{ℕ, ◌-◌}
use native.Mathlib.Omega.{arith}
use borrow.Author.Tests.{le-leb, lt-leb}
use Rattle.subscription.specs.Charges.{plan_ok}
use Rattle.subscription.proofs.PriceLaws.{plan_is}
use Rattle.subscription.proofs.prices.plan_ok.Goals as goal
use Rattle.subscription.proofs.prices.plan_ok.Goals.{then-steps-lt1-via-then-steps-lt1, then-steps-lt1-via-else-steps-lt1+then-steps-gt-MOST_STEPS}

pub returns-then-steps-lt1 : goal.returns-then-steps-lt1
unfolding plan_ok
returns-then-steps-lt1 c =
    elim c.then-steps-lt1.branch [
      | then-steps-lt1-via-then-steps-lt1 w ↦ rw (lt-leb 1 _ w.if-steps-lt1.true) refl
      | then-steps-lt1-via-else-steps-lt1+then-steps-gt-MOST_STEPS w ↦ rw (le-leb 1 _ w.if-steps-lt1.false, lt-leb _ 8 w.if-steps-gt-MOST_STEPS.true) refl
    ]

pub returns : goal.returns
returns c =
    plan_is c.args.plan c.cheap-low.result c.rising-rises.result c.saturating_sub-neighbours.result c.if-steps-lt1.false c.if-steps-gt-MOST_STEPS.false c.cheap-low.ensures
    (c.saturating_sub-neighbours.ensures ∙ two c.args.plan.count) c.rising-rises.ensures
  where
    two : (n : ℕ) → n - 2 ≡ n - 1 - 1
    two n = omega arith
