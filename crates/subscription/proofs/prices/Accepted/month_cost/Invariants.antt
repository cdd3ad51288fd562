use mathlib.Core.Path.{◌≡◌}
use Prim.Native.Nat.{◌*◌, ◌≤◌}
use lib.ListN.{get_or}
use Rattle.subscription.specs.Charges.{sum_to, day_cost, dearest}
use Rattle.event_list.specs.Events.{most_records}
use Rattle.subscription.proofs.prices.Accepted.month_cost.Given as goal

abbrev pub invariant-loop-n : goal.invariant-loop-n
invariant-loop-n l = (l.sum ≡ sum_to (λ i. day_cost l.fn.self.plan (get_or l.counts i 0)) l.n-index) × (l.sum ≤ l.n-index * (most_records * dearest))
