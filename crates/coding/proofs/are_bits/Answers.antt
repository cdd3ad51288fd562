use native.Mathlib.Omega.{arith}
use Rattle.coding.specs.Bits.{are_bits}
use Rattle.coding.proofs.BitLaws.{bits-turn, bits_end}
use Rattle.coding.proofs.are_bits.Goals as goal

pub loop-b-preserved : goal.loop-b-preserved
loop-b-preserved c =
    let bits = c.args.bits.now in
    bits-turn c.loop-b.ok bits c.loop-b.b-index (are_bits bits) (omega arith) c.loop-b.invariant

pub returns : goal.returns
returns c =
    let bits = c.args.bits.now in
    bits_end c.loop-b.ok bits c.loop-b.b-index (are_bits bits) (omega arith) c.loop-b.invariant
