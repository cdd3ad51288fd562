use Rattle.std.proofs.Common.{Some}
use mathlib.Core.Path.{refl, ap, ap₂, ◌∙◌}
use mathlib.Core.Bool.{Bool}
use mathlib.Core.List.{List, map}
use Prim.Native.Nat.{ℕ}
use native.Mathlib.Omega.{arith}
use lib.ListN.{length}
use Rattle.coding.specs.Bits.{odd, to_bytes}
use Rattle.coding.specs.Convolution.{fresh, deconvolved}
use Rattle.frame.specs.Sizes.{most_bytes}
use Rattle.frame.specs.Fields.{padded, crc_right}
use Rattle.frame.specs.Repairs.{repaired}
use Rattle.frame.specs.Bodies.{bits_of}
use Rattle.frame.proofs.SpliceLaws.{bits_are}
use Rattle.frame.proofs.FieldLaws.{parse-short, parse-long}
use Rattle.frame.proofs.bodies.Body.parse.Goals as goal

pub returns-then-len-self : goal.returns-then-len-self
returns-then-len-self c = let b = c.args.self in
    let v = c.repaired-spliced in
    let l = map odd b.bits.now in
    parse-short b.kind c.args.how l
    (omega (arith, c.if-len-self.true, c.len.ensures, ap length (bits_are b v.result v.ensures.0 (repaired c.args.how l) v.ensures.1), b.whole))

pub frame_from-requires : goal.frame_from-requires
frame_from-requires c = let b = c.args.self in
    let p = c.plain_bytes in
    (b.class, p.ensures.1 ∙ ap (λ (n : ℕ). crc_right n p.result.bytes) (c.repaired-spliced.ensures.0.2 ∙ b.whole))

pub returns : goal.returns
returns c = let b = c.args.self in
    let v = c.repaired-spliced in
    let e = v.ensures.0 in
    let l = map odd b.bits.now in
    let r = repaired c.args.how l in
    let m = bits_are b v.result e r v.ensures.1 in
    ap Some c.frame_from.ensures
    ∙ parse-long b.kind c.args.how l r c.plain_bytes.result.bytes refl
    (omega (arith, c.if-len-self.false, c.len.ensures, ap length m, b.whole))
    (c.plain_bytes.ensures.0
    ∙ ap (λ (k : ℕ). padded most_bytes (to_bytes v.result.size (deconvolved k fresh (bits_of v.result)))) e.1
    ∙ ap₂ (λ (n : ℕ) (x : List Bool). padded most_bytes (to_bytes n (deconvolved b.kind.rank fresh x))) (e.2 ∙ b.whole) m)
