use mathlib.Core.Path.{refl, sym, ap, ◌∙◌}
use mathlib.Core.Bool.{true}
use mathlib.Core.List.{map, ◌++◌}
use Prim.Native.Nat.{◌<◌}
use native.Mathlib.Omega.{arith}
use lib.ListN.{get_or, length-set, length, drop}
use Rattle.coding.specs.Bits.{plus, odd, bit_of}
use Rattle.coding.specs.Convolution.{State, tap, state_of, state_after, deconvolved}
use Rattle.coding.proofs.BitLaws.{bit_at, bit-lt}
use Rattle.coding.proofs.Codes.{whole, whole-step, whole_end, ends, ends_step, ends_end}
use Rattle.coding.proofs.deconvolve_from.Goals as goal

pub loop-i-init : goal.loop-i-init
unfolding whole ends
loop-i-init c = let s = c.inputs_of-p.ensures in
    let l = map odd c.args.bits.now in (
      refl,
      s.1,
      s.2,
      ap (λ (t : State). map bit_of (deconvolved c.args.rank t l) ++ drop (length c.args.bits.now) c.args.out.now) (sym s.0),
      ap (λ (t : State). state_after t (deconvolved c.args.rank t l)) (sym s.0),
    )

pub coded_bit-a-requires : goal.coded_bit-a-requires
coded_bit-a-requires c = (bit_at c.args.bits.now c.loop-i.i c.requires.0, c.loop-i.invariant.1, c.loop-i.invariant.2)

pub loop-i-preserved : goal.loop-i-preserved
loop-i-preserved c = let a = c.args in
    let b = get_or a.bits.now c.loop-i.i 0 in
    let x = c.coded_bit-a.result in
    let s = plus (odd b) (tap a.rank (state_of c.loop-i.p c.loop-i.q)) in
    let y : x < 2 = omega (arith, bit-lt s, c.coded_bit-a.ensures) in (
      length-set c.loop-i.out c.loop-i.i x ∙ c.loop-i.invariant.0,
      y,
      c.loop-i.invariant.1,
      sym (whole-step true a.rank a.bits.now c.loop-i.out c.loop-i.p c.loop-i.q c.loop-i.i x x (omega arith) (omega arith) c.coded_bit-a.ensures refl)
          ∙ c.loop-i.invariant.3,
      sym (ends_step true a.rank a.bits.now c.loop-i.p c.loop-i.q c.loop-i.i x x (omega arith) c.coded_bit-a.ensures refl) ∙ c.loop-i.invariant.4,
    )

pub returns : goal.returns
returns c = let a = c.args in (
  sym (whole_end true a.rank a.bits.now c.loop-i.out c.loop-i.p c.loop-i.q c.loop-i.i (omega arith) (omega arith)) ∙ c.loop-i.invariant.3,
  ends_end true a.rank a.bits.now c.loop-i.p c.loop-i.q c.loop-i.i (omega arith) c.loop-i.invariant.1 c.loop-i.invariant.2 ∙ c.loop-i.invariant.4,
  omega (arith, c.loop-i.invariant.1, c.loop-i.invariant.2),
)
