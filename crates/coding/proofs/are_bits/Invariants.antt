use mathlib.Core.Path.{◌≡◌}
use mathlib.Core.Bool.{◌&&◌}
use lib.ListN.{drop}
use Rattle.coding.specs.Bits.{are_bits}
use Rattle.coding.proofs.are_bits.Given as goal

abbrev pub invariant-loop-b : goal.invariant-loop-b
invariant-loop-b l = l.ok && are_bits (drop l.b-index l.bits) ≡ are_bits l.bits
