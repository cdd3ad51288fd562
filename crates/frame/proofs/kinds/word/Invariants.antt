-- The invariant: the number of the first bits.
use mathlib.Core.Path.{◌≡◌}
use mathlib.Core.List.{map}
use lib.ListN.{take, drop}
use Rattle.coding.specs.Bits.{odd, value}
use Rattle.frame.proofs.kinds.word.Given as goal

abbrev pub invariant-loop-b : goal.invariant-loop-b
invariant-loop-b l = l.v ≡ value (take l.b-index (drop l.at (map odd l.bits)))
