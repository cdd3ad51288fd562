use Rattle.std.proofs.Common.{◌≡◌, ◌-◌, ◌*◌, ◌≤◌, length}
use Rattle.subscription.specs.Charges.{latest_start}
use Rattle.subscription.specs.Counting.{Few}
use Rattle.charges.proofs.charge_input.Given as goal

abbrev pub invariant-loop-bytes : goal.invariant-loop-bytes
invariant-loop-bytes g l = (length l.part ≡ 61440) × (l.start ≤ latest_start) × (120 * l.t.«records» ≤ l.bytes) × Few l.counts l.t.«records»

abbrev pub decreases-loop-bytes : goal.decreases-loop-bytes
decreases-loop-bytes g l = 120000001 - l.bytes
