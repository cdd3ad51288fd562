use Rattle.std.proofs.Common.{◌≡◌, ◌-◌, ◌*◌, ◌≤◌, length}
use Rattle.fleet_sheet.specs.Tallies.{Tallied}
use Rattle.fleet.proofs.main.Given as goal

abbrev pub invariant-loop-bytes : goal.invariant-loop-bytes
invariant-loop-bytes l =
    (length l.part ≡ 61440) × (120 * l.t.«records» ≤ l.bytes) × Tallied l.t l.table

abbrev pub decreases-loop-bytes : goal.decreases-loop-bytes
decreases-loop-bytes l = 120000001 - l.bytes
