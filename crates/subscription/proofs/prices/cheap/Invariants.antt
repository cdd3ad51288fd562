use mathlib.Core.Path.{◌≡◌}
use lib.Dec.{leb}
use lib.ListN.{get_or}
use Rattle.subscription.specs.Charges.{all_to, dearest, no_step}
use Rattle.subscription.proofs.prices.cheap.Given as goal

abbrev pub invariant-loop-j : goal.invariant-loop-j
invariant-loop-j l = l.ok ≡ all_to (λ i. leb ((get_or l.plan.steps i no_step).price) dearest) l.j
