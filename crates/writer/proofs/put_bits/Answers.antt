use mathlib.Core.Path.{sym, ap, ◌∙◌}
use mathlib.Core.List.{map}
use Prim.Native.Nat.{ℕ, ◌*◌}
use native.Mathlib.Omega.{arith}
use lib.ListN.{length, get_or}
use lib.Seq.{sets, length-sets}
use Rattle.coding.specs.Bits.{bit_of, digits}
use Rattle.writer.proofs.Stores.{part_digits, byte-turn, byte_end}
use Rattle.writer.proofs.put_bits.Goals as goal

pub loop-i-preserved : goal.loop-i-preserved
loop-i-preserved c = let p = c.put_digits in
    let o = c.loop-i.out in
    let i = c.loop-i.i in
    let b = c.args.bytes.now in
    let e = part_digits o p.new.out (8 * i) 8 c.from.result (omega (arith, c.loop-i.invariant.0, c.requires)) p.ensures
    ∙ ap (λ (x : ℕ). sets o (8 * i) (map bit_of (digits 8 x))) c.from.ensures in (
      ap length e ∙ length-sets o (8 * i) (map bit_of (digits 8 (get_or b i 0))) ∙ c.loop-i.invariant.0,
      byte-turn o _ b i (omega arith) e ∙ c.loop-i.invariant.1,
    )

pub returns : goal.returns
returns c = sym (byte_end c.loop-i.out c.args.bytes.now c.loop-i.i (omega arith)) ∙ c.loop-i.invariant.1
