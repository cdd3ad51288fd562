-- The bytes are counted up, and at least 120 of them for each record. Assumes nothing.
use Rattle.std.proofs.Common.{◌*◌, ◌-◌, ◌≤◌, ◌≡◌, length}
use Rattle.grips.proofs.read_for.Given as goal

abbrev pub invariant-loop-bytes : goal.invariant-loop-bytes
invariant-loop-bytes g l = (length l.part ≡ 61440) × (120 * l.best.count ≤ l.bytes)

abbrev pub decreases-loop-bytes : goal.decreases-loop-bytes
decreases-loop-bytes g l = 120000001 - l.bytes
