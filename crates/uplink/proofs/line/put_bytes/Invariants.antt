-- The invariant: what is stored, and what the digits from here on make, is the whole.
use mathlib.Core.Path.{◌≡◌}
use Prim.Native.Nat.{◌*◌}
use lib.ListN.{length, drop}
use lib.Seq.{sets}
use Rattle.uplink.specs.Line.{bytes_in}
use Rattle.uplink.proofs.line.put_bytes.Given as goal

abbrev pub invariant-loop-i : goal.invariant-loop-i
invariant-loop-i l = (length l.out ≡ length l.initial.out) × (sets l.out l.i (bytes_in (drop (2 * l.i) l.w)) ≡ sets l.initial.out 0 (bytes_in l.w))
