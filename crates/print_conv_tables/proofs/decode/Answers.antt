use Prim.Native.Nat.{◌-◌, ◌/◌, ◌%◌, ◌^◌}
use native.Mathlib.Omega.{arith}
use Rattle.coding.specs.Bits.{odd, plus}
use Rattle.coding.specs.Convolution.{tap, state_of}
use Rattle.coding.proofs.BitLaws.{bit-lt}
use Rattle.print_conv_tables.proofs.decode.Goals as goal

pub loop-i-init : goal.loop-i-init
loop-i-init c = (omega arith, omega arith)

pub coded_bit-x-requires : goal.coded_bit-x-requires
coded_bit-x-requires c = (omega arith, c.loop-i.invariant.0, c.loop-i.invariant.1)

pub overflow_add-v : goal.overflow_add-v
overflow_add-v c =
    let a = c.args in
    omega (arith, c.coded_bit-x.ensures, bit-lt (plus (odd (a.b / 2 ^ (7 - c.loop-i.i) % 2)) (tap a.rank (state_of c.loop-i.p c.loop-i.q))))

pub loop-i-preserved : goal.loop-i-preserved
loop-i-preserved c =
    let a = c.args in (
      omega (arith, c.coded_bit-x.ensures, bit-lt (plus (odd (a.b / 2 ^ (7 - c.loop-i.i) % 2)) (tap a.rank (state_of c.loop-i.p c.loop-i.q)))),
      c.loop-i.invariant.0,
    )

pub overflow_mul-result : goal.overflow_mul-result
overflow_mul-result c = omega (arith, c.loop-i.invariant.0)

pub overflow_add-result : goal.overflow_add-result
overflow_add-result c = omega (arith, c.loop-i.invariant.0, c.loop-i.invariant.1)
