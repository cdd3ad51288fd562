-- The invariant: the first `i` bytes have been passed, and stand in the array.
use mathlib.Core.Path.{◌≡◌}
use Rattle.coding.specs.Convolution.{fresh, deconvolved}
use Rattle.frame.specs.Sizes.{most_bytes}
use Rattle.frame.specs.Plain.{Passed}
use Rattle.frame.specs.Bodies.{bits_of}
use Rattle.frame.proofs.PlainLaws.{held}
use Rattle.frame.proofs.splices.Spliced.plain_bytes.Given as goal

abbrev pub invariant-loop-i : goal.invariant-loop-i
invariant-loop-i l = Passed l.self.rank (bits_of l.self) (record { bytes = l.i; crc = l.crc; last = l.last })
    × (l.bytes ≡ held most_bytes l.i (deconvolved l.self.rank fresh (bits_of l.self)))
