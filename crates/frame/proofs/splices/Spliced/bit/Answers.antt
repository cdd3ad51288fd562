use mathlib.Core.Path.{sym, ap, ◌∙◌}
use Prim.Native.Nat.{◌+◌, ◌-◌}
use native.Mathlib.Nat.{mod-eq_of_lt}
use native.Mathlib.Omega.{arith}
use Rattle.coding.specs.Bits.{bit_of}
use Rattle.coding.proofs.BitLaws.{bit-odd}
use Rattle.coding.proofs.Values.{bit_of_lem}
use Rattle.frame.proofs.SpliceLaws.{length-spliced, spliced_before, spliced_in, spliced_after}
use Rattle.frame.proofs.splices.Spliced.bit.Goals as goal

pub returns-then-j-s : goal.returns-then-j-s
returns-then-j-s c = let v = c.args.self in
    bit_of_lem v.bits.now c.args.j v.valid ∙ ap bit_of (sym (spliced_before v c.args.j c.if-j-s.true))

pub returns-then-j-s-2 : goal.returns-then-j-s-2
returns-then-j-s-2 c = let v = c.args.self in
    sym (mod-eq_of_lt v.bit) ∙ sym (bit-odd v.splice.bit) ∙ ap bit_of (sym (spliced_in v c.args.j c.if-j-s.false c.if-j-s-2.true))

pub overflow_add-result : goal.overflow_add-result
overflow_add-result c = let v = c.args.self in omega (arith, c.requires, length-spliced v, v.skip, v.put)

pub bounds-self-j-2 : goal.bounds-self-j-2
bounds-self-j-2 c = let v = c.args.self in omega (arith, c.requires, length-spliced v, c.if-j-s-2.false, v.inside)

pub returns : goal.returns
returns c = let v = c.args.self in
    bit_of_lem v.bits.now (c.args.j - v.splice.put + v.splice.skip) v.valid ∙ ap bit_of (sym (spliced_after v c.args.j c.if-j-s-2.false))
