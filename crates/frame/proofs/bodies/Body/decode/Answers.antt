use Rattle.std.proofs.Common.{None, Some}
use mathlib.Core.Path.{◌≡◌, refl, sym, ap, ◌∙◌}
use mathlib.Core.Bool.{false}
use mathlib.Core.List.{map}
use Rattle.coding.specs.Bits.{odd}
use Rattle.frame.specs.Splices.{placed}
use Rattle.frame.specs.Decode.{is_right, passes, parse_body}
use Rattle.frame.proofs.SearchLaws.{decode_right, decode_mended, repair-placed}
use Rattle.frame.proofs.bodies.Body.decode.Goals as goal
use Rattle.frame.proofs.bodies.Body.decode.Goals.{in-Some+else-f, in_default}

pub parse-requires : goal.parse-requires
unfolding placed
parse-requires c = refl

pub returns-then-f : goal.returns-then-f
returns-then-f c = let b = c.args.self in
    let l = map odd b.bits.now in
    let e : Some c.in-Some.f ≡ parse_body b.kind None l = sym c.in-Some.is ∙ c.parse.ensures in
    e ∙ decode_right b.kind l (ap is_right (sym e) ∙ c.if-f.true)

pub parse-requires-2 : goal.parse-requires-2
parse-requires-2 c = let b = c.args.self in repair-placed b.kind b.bits.now c.first_repair.result c.first_repair.ensures

pub returns : goal.returns
returns c = let b = c.args.self in
    let l = map odd b.bits.now in
    let wrong : passes b.kind l None ≡ false = elim c.match-parse.branch [
      | in-Some+else-f w ↦ ap is_right (sym c.parse.ensures ∙ w.in-Some.is) ∙ w.if-f.false
      | in_default w ↦ ap is_right (sym c.parse.ensures ∙ w.in_default.is)
    ] in
    c.parse-2.ensures ∙ decode_mended b.kind l c.first_repair.result wrong c.first_repair.ensures
