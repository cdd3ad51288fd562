use mathlib.Core.Path.{◌≡◌}
use lib.ListN.{take}
use Rattle.coding.specs.Bits.{bytes_bits}
use Rattle.coding.specs.Register.{run}
use Rattle.coding.proofs.crc16.Given as goal

abbrev pub invariant-loop-b : goal.invariant-loop-b
invariant-loop-b l = l.c ≡ run 0 (bytes_bits (take l.b-index l.data))
