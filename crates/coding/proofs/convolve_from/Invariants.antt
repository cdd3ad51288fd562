-- The invariant: what is written, what is left to do and what is kept make the whole, and the state after what is left is the end's.
use mathlib.Core.Path.{◌≡◌}
use mathlib.Core.Bool.{false}
use mathlib.Core.List.{◌++◌, map}
use Prim.Native.Nat.{◌<◌}
use lib.ListN.{length, drop}
use Rattle.coding.specs.Bits.{odd, bit_of}
use Rattle.coding.specs.Convolution.{numbered, state_after, convolved}
use Rattle.coding.proofs.Codes.{whole, ends}
use Rattle.coding.proofs.convolve_from.Given as goal

abbrev pub invariant-loop-i : goal.invariant-loop-i
invariant-loop-i l = (length l.out ≡ length l.initial.out) × (l.p < 2) × (l.q < 2)
    × (whole false l.rank l.bits l.out l.p l.q l.i ≡ map bit_of (convolved l.rank (numbered l.state) (map odd l.bits)) ++ drop (length l.bits) l.initial.out)
    × (ends false l.rank l.bits l.p l.q l.i ≡ state_after (numbered l.state) (map odd l.bits))
