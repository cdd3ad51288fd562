use Rattle.std.proofs.Common.{◌≡◌, ℕ, suc, ◌+◌, ◌-◌, map, refl, sym, ap, ◌∙◌, arith}
use Rattle.coding.specs.Bits.{odd}
use Rattle.coding.proofs.BitLaws.{length-map-odd}
use Rattle.frame.specs.Kinds.{kinds, kind_of}
use Rattle.frame.specs.Types.{type_from, type_in}
use Rattle.frame.proofs.KindLaws.{found_class}
use Rattle.frame.proofs.TypeLaws.{type_short, type_found, type-later, type_none}
use Rattle.frame.proofs.find_type.Goals as goal

pub loop-start-init : goal.loop-start-init
unfolding type_in
loop-start-init c = refl

pub returns-then-bits-start : goal.returns-then-bits-start
returns-then-bits-start c =
    let z = c.args.bits.now in
    (type_short (23 - c.loop-start.start) c.loop-start.start (map odd z) (omega (arith, c.if-bits-start.true, length-map-odd z)) ∙ c.loop-start.invariant, tt)

pub word-requires : goal.word-requires
word-requires c = (c.requires.0, omega arith)

pub returns-in-Some : goal.returns-in-Some
returns-in-Some c =
    let z = c.args.bits.now in
    let m = map odd z in
    let s = c.loop-start.start in
    let kind = c.in-Some.kind in
    let x : suc (23 - (s + 1)) ≡ 23 - s = omega arith in (
      type_found (23 - (s + 1)) s m (omega (arith, c.if-bits-start.false, length-map-odd z)) c.find_kind.result
          (c.find_kind.ensures ∙ ap (λ (w : ℕ). kind_of w kinds) c.word.ensures) kind c.in-Some.is
          ∙ ap (λ (y : ℕ). type_from y s m) x ∙ c.loop-start.invariant,
      (omega (arith, c.if-bits-start.false), found_class c.word.result kind (sym c.find_kind.ensures ∙ c.in-Some.is)),
    )

pub loop-start-preserved : goal.loop-start-preserved
loop-start-preserved c =
    let z = c.args.bits.now in
    let m = map odd z in
    let s = c.loop-start.start in
    let x : suc (23 - (s + 1)) ≡ 23 - s = omega arith in
    type-later (23 - (s + 1)) s m (omega (arith, c.if-bits-start.false, length-map-odd z)) c.find_kind.result
    (c.find_kind.ensures ∙ ap (λ (w : ℕ). kind_of w kinds) c.word.ensures) c.in_default.is
    ∙ ap (λ (y : ℕ). type_from y s m) x ∙ c.loop-start.invariant

pub returns : goal.returns
returns c =
    let z = c.args.bits.now in
    (type_none (23 - c.loop-start.start) c.loop-start.start (map odd z) (omega arith) ∙ c.loop-start.invariant, tt)
