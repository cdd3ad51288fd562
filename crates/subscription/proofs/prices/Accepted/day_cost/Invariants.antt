use mathlib.Core.Path.{◌≡◌}
use Rattle.subscription.specs.Charges.{sum_to}
use Rattle.subscription.specs.Counting.{reached}
use Rattle.subscription.proofs.PriceLaws.{extra_price}
use Rattle.subscription.proofs.prices.Accepted.day_cost.Given as goal

abbrev pub invariant-loop-j : goal.invariant-loop-j
invariant-loop-j l = (l.passed ≡ reached l.plan l.extra l.j) × (l.sum ≡ sum_to (extra_price l.plan) l.passed)
