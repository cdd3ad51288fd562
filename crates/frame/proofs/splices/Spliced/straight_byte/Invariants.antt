-- The invariant: the number of the first plain bits, and the state after them.
use mathlib.Core.List.{map}
use lib.ListN.{drop}
use Rattle.coding.specs.Bits.{odd}
use Rattle.frame.specs.Plain.{ending}
use Rattle.frame.proofs.PlainLaws.{Part}
use Rattle.frame.proofs.splices.Spliced.straight_byte.Given as goal

abbrev pub invariant-loop-bit : goal.invariant-loop-bit
invariant-loop-bit l = Part l.self.rank (ending l.last) (drop l.from (map odd l.self.bits.now)) l.bit-index l.v l.a l.b
