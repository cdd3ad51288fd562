use mathlib.Core.Path.{◌≡◌, sym, ap, ◌∙◌}
use mathlib.Core.Bool.{false}
use Prim.Native.Nat.{◌<◌}
use native.Mathlib.Omega.{arith}
use lib.ListN.{length, drop, get_or, length-drop}
use lib.Seq.{get_or-drop}
use Rattle.coding.specs.Bits.{bit_of}
use Rattle.frame.specs.Bodies.{bits_of}
use Rattle.frame.proofs.PlainLaws.{part_none, part_more, part-whole}
use Rattle.frame.proofs.splices.Spliced.spliced_byte.Goals as goal

pub loop-j-init : goal.loop-j-init
loop-j-init c = let a = c.args in part_none a.self.rank a.last (drop a.from (bits_of a.self))

pub loop-j-preserved : goal.loop-j-preserved
loop-j-preserved c = let a = c.args in
    let j = c.loop-j.j in
    let z = bits_of a.self in
    let r = drop a.from z in
    let y = c.bit.result in
    let h : j < length r = omega (arith, length-drop a.from z, c.requires.0) in
    let g : y ≡ bit_of (get_or r j false) = c.bit.ensures ∙ ap bit_of (sym (get_or-drop a.from z j false)) in
    part_more a.self.rank a.last r j c.loop-j.v c.loop-j.a c.loop-j.b c.coded_bit-x.result y c.loop-j.invariant (omega arith) h g c.coded_bit-x.ensures

pub returns : goal.returns
returns c = let a = c.args in
    let z = bits_of a.self in
    part-whole a.self.rank a.last (drop a.from z) c.loop-j.j c.loop-j.v c.loop-j.a c.loop-j.b c.loop-j.invariant (omega arith)
    (omega (arith, length-drop a.from z, c.requires.0))
