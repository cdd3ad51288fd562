-- The invariant: the digits that are left, stored from here on, make the whole.
use mathlib.Core.Path.{◌≡◌}
use mathlib.Core.List.{map}
use Prim.Native.Nat.{◌-◌}
use lib.ListN.{length}
use lib.Seq.{sets}
use Rattle.coding.specs.Bits.{bit_of, digits}
use Rattle.writer.proofs.put_digits.Given as goal

abbrev pub invariant-loop-i : goal.invariant-loop-i
invariant-loop-i l = sets l.out l.i (map bit_of (digits (length l.initial.out - l.i) l.x)) ≡ map bit_of (digits (length l.initial.out) l.x)
