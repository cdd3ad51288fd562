-- The invariant: the bits of the bytes that are left, stored from here on, make the whole.
use mathlib.Core.Path.{◌≡◌}
use mathlib.Core.List.{map}
use Prim.Native.Nat.{◌*◌}
use lib.ListN.{length, drop}
use lib.Seq.{sets}
use Rattle.coding.specs.Bits.{bit_of, bytes_bits}
use Rattle.writer.proofs.put_bits.Given as goal

abbrev pub invariant-loop-i : goal.invariant-loop-i
invariant-loop-i l =
    (length l.out ≡ length l.initial.out) × (sets l.out (8 * l.i) (map bit_of (bytes_bits (drop l.i l.bytes))) ≡ sets l.initial.out 0 (map bit_of (bytes_bits l.bytes)))
