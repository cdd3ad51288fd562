use mathlib.Core.Path.{◌≡◌, ap, ◌∙◌}
use mathlib.Core.List.{map}
use Prim.Native.Nat.{◌+◌, ◌-◌, ◌*◌}
use native.Mathlib.Omega.{arith}
use lib.ListN.{length}
use lib.Seq.{length-sets}
use borrow.Rule.Slice.PartMut.{put_mid}
use Rattle.coding.specs.Bits.{odd, bit_of, digits}
use Rattle.coding.specs.Convolution.{fresh, convolved}
use Rattle.writer.proofs.Stores.{part_digits}
use Rattle.writer.proofs.WriteLaws.{part-stored, length-coded, repetition-stored}
use Rattle.writer.proofs.put_repetition.Goals as goal

pub returns : goal.returns
returns c = let a = c.args in
    let o = a.out.now in
    let at = 212 * a.rank in
    let p = c.put_digits in
    let q = c.put_digits-2 in
    let i = c.convolve_from in
    let o1 = put_mid at (at + 20 - at) o p.new.out in
    let o2 = put_mid (at + 20) (at + 20 + 16 - (at + 20)) o1 q.new.out in
    let e1 = part_digits o p.new.out at 20 0xaaaaa (omega (arith, c.requires.3)) p.ensures in
    let n1 : length o1 ≡ length o = ap length e1 ∙ length-sets o at (map bit_of (digits 20 0xaaaaa)) in
    let e2 = part_digits o1 q.new.out (at + 20) 16 c.type_of.result (omega (arith, n1, c.requires.3)) q.ensures in
    let n2 : length o2 ≡ length o = ap length e2 ∙ length-sets o1 (at + 20) (map bit_of (digits 16 c.type_of.result)) ∙ n1 in
    let v = map bit_of (convolved a.rank fresh (map odd a.body.now)) in
    repetition-stored a.rank a.layout.class a.body.now o o1 o2 _ c.type_of.result at e1 c.type_of.ensures e2
    (part-stored o2 (at + 20 + 16) v i.new.out (length a.body.now) (length-coded a.rank a.body.now)
    (omega (arith, n2, length-coded a.rank a.body.now, c.requires.2, c.requires.3)) i.ensures.0)
