use mathlib.Core.Bool.{true}
-- The invariant: those passed are moved, and those left are not too old.
use mathlib.Core.List.{◌++◌}
use mathlib.Core.Path.{◌≡◌}
use Prim.Native.Nat.{◌^◌}
use lib.ListN.{drop, take}
use Rattle.receiver_starts.specs.Starts.{all_from, moved}
use Rattle.receiver_starts.proofs.shift.Given as goal

abbrev pub invariant-loop-x : goal.invariant-loop-x
invariant-loop-x l = (all_from (2 ^ 30) (drop l.x-index l.initial.x-items) ≡ true)
    × (l.x-items ≡ moved l.by (take l.x-index l.initial.x-items) ++ drop l.x-index l.initial.x-items)
