-- The invariant: the number of the first `j` plain bits, and the state after them.
use lib.ListN.{drop}
use Rattle.frame.specs.Bodies.{bits_of}
use Rattle.frame.specs.Plain.{ending}
use Rattle.frame.proofs.PlainLaws.{Part}
use Rattle.frame.proofs.splices.Spliced.spliced_byte.Given as goal

abbrev pub invariant-loop-j : goal.invariant-loop-j
invariant-loop-j l = Part l.self.rank (ending l.last) (drop l.from (bits_of l.self)) l.j l.v l.a l.b
