use Rattle.std.proofs.Common.{◌+◌, ◌*◌, ◌≤◌, drop}
use Rattle.frequency_lists.specs.Lists.{readings_from}
use Rattle.frequency_lists.proofs.Appending.{Left}
use Rattle.frequency_lists.proofs.read_values.Given as goal

abbrev pub invariant-loop-k : goal.invariant-loop-k
invariant-loop-k l = (l.w ≤ l.count + l.k) × Left (readings_from l.start.rate l.step l.more l.tuned_at l.f l.start.n l.raw) (readings_from l.start.rate l.step l.more l.tuned_at l.f (l.start.n + 8 * l.k) (drop l.k l.raw)) l.count l.w l.initial.readings l.readings
