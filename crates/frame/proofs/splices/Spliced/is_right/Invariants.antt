-- The invariant: the bytes so far have been passed.
use mathlib.Core.Path.{◌≡◌}
use Rattle.frame.specs.Plain.{Passed}
use Rattle.frame.specs.Bodies.{bits_of}
use Rattle.frame.proofs.splices.Spliced.is_right.Given as goal

abbrev pub invariant-loop : goal.invariant-loop
invariant-loop l = (l.f.bytes ≡ l.counter) × Passed l.self.rank (bits_of l.self) l.f
