-- The invariant: no two of all are equal just where no two of those left are.
use mathlib.Core.Path.{◌≡◌}
use lib.ListN.{drop}
use Rattle.receiver_waiting.specs.Waiting.{distinct}
use Rattle.receiver_waiting.proofs.all_distinct.Given as goal

abbrev pub invariant-loop-i : goal.invariant-loop-i
invariant-loop-i l = distinct l.keys ≡ distinct (drop l.i l.keys)
