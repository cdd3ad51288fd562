-- The invariant: the bits that stand, and those still to walk, are all of them.
use Rattle.std.proofs.Common.{length}
use Rattle.clock.specs.Walk.{places}
use Rattle.clock.proofs.WalkLaws.{WriteAt}
use Rattle.clock.proofs.write_bits.Given as goal

abbrev pub invariant-loop-j : goal.invariant-loop-j
invariant-loop-j l = WriteAt (places l.points) l.first (length l.initial.bits) l.initial.bits l.p l.j l.bits
