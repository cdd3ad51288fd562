-- The invariant: the repairs left have the answer.
use mathlib.Core.Path.{◌≡◌}
use mathlib.Core.List.{map}
use lib.ListN.{drop}
use Rattle.coding.specs.Bits.{odd}
use Rattle.frame.specs.Repairs.{repairs, first_of}
use Rattle.frame.specs.Decode.{mends}
use Rattle.frame.proofs.bodies.Body.repair_at.Given as goal

abbrev pub invariant-loop-how : goal.invariant-loop-how
invariant-loop-how l = first_of (mends l.self.kind (map odd l.self.bits.now)) (drop l.how-index l.how-items) ≡ first_of (mends l.self.kind (map odd l.self.bits.now)) (repairs 1 l.i)
