-- The invariant: those passed that stay lie over the array.
use mathlib.Core.Path.{◌≡◌}
use lib.ListN.{take}
use Rattle.receiver_starts.specs.Starts.{lately, over}
use Rattle.receiver_starts.proofs.forget.Given as goal

abbrev pub invariant-loop-x : goal.invariant-loop-x
invariant-loop-x l = l.s ≡ over l.initial.s (lately l.back (take l.x-index l.x-items))
