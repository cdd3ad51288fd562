use mathlib.Core.Path.{◌≡◌}
use Prim.Native.Nat.{suc}
use lib.Dec.{ltb}
use lib.ListN.{get_or}
use Rattle.subscription.specs.Charges.{all_to, no_step}
use Rattle.subscription.proofs.prices.rising.Given as goal

abbrev pub invariant-loop-j : goal.invariant-loop-j
invariant-loop-j l = l.ok ≡ all_to (λ i. ltb ((get_or l.plan.steps i no_step).upper) ((get_or l.plan.steps (suc i) no_step).upper)) l.j
