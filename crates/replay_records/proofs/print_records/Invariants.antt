-- The invariant: the records counted lie within the buffer.
use Prim.Native.Nat.{◌*◌, ◌≤◌}
use mathlib.Core.Path.{◌≡◌}
use lib.ListN.{length}
use Rattle.limits.specs.Limits.{record_size}
use Rattle.replay_records.proofs.print_records.Given as goal

abbrev pub invariant-loop-i : goal.invariant-loop-i
invariant-loop-i g l = (length l.events ≡ length l.initial.events) × (l.most * record_size ≤ length l.events)
