-- The invariant: the place of the first in all is i more than in those left.
use mathlib.Core.Path.{◌≡◌}
use Prim.Native.Nat.{◌+◌}
use lib.ListN.{drop}
use Rattle.receiver_waiting.specs.Waiting.{find_key}
use Rattle.receiver_waiting.proofs.find.Given as goal

abbrev pub invariant-loop-i : goal.invariant-loop-i
invariant-loop-i l = find_key l.device_id l.counter l.p-items ≡ l.i + find_key l.device_id l.counter (drop l.i l.p-items)
