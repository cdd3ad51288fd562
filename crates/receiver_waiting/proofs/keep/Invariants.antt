-- The invariant: those passed that stay are in the first k places, the others are the old ones.
use Prim.Native.Nat.{◌≤◌}
use Rattle.receiver_waiting.proofs.WaitingLaws.{Kept}
use Rattle.receiver_waiting.specs.Waiting.{leaves}
use Rattle.receiver_waiting.proofs.keep.Given as goal

abbrev pub invariant-loop-p : goal.invariant-loop-p
invariant-loop-p l = (l.k ≤ l.p-index) × Kept (leaves l.leaving) l.p-items l.initial.old.messages l.old.messages l.p-index l.k
