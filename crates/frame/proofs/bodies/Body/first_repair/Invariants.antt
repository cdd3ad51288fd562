-- The invariant: the places left have the answer, and some bytes before them have been passed.
use mathlib.Core.Path.{◌≡◌}
use mathlib.Core.List.{map}
use Prim.Native.Nat.{◌+◌, ◌-◌, ◌*◌, ◌≤◌}
use Rattle.coding.specs.Bits.{odd}
use Rattle.frame.specs.Repairs.{repairs, first_of}
use Rattle.frame.specs.Decode.{mends, first_repair}
use Rattle.frame.specs.Plain.{Passed}
use Rattle.frame.proofs.bodies.Body.first_repair.Given as goal

abbrev pub invariant-loop-i : goal.invariant-loop-i
invariant-loop-i l = (first_of (mends l.self.kind (map odd l.self.bits.now)) (repairs (l.end - l.i) l.i) ≡ first_repair l.self.kind (map odd l.self.bits.now))
    × Passed l.self.kind.rank (map odd l.self.bits.now) l.front × (8 * l.front.bytes ≤ l.i) × (l.front.bytes + 2 ≤ l.self.size)
