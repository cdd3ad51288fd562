use mathlib.Core.Path.{◌≡◌, sym, ap, ap₂, ◌∙◌}
use mathlib.Core.List.{map}
use Prim.Native.Nat.{ℕ, suc, ◌+◌, ◌-◌, ◌*◌, min}
use native.Mathlib.Nat.{sub-zero}
use native.Mathlib.Omega.{arith}
use Rattle.coding.specs.Bits.{odd}
use Rattle.coding.proofs.BitLaws.{length-map-odd}
use Rattle.frame.specs.Repairs.{repairs, first_of}
use Rattle.frame.specs.Decode.{mends}
use Rattle.frame.proofs.RepairLaws.{at_place, past_place, first_none}
use Rattle.frame.proofs.PrefixLaws.{first-least}
use Rattle.frame.proofs.PassedLaws.{passed_none}
use Rattle.frame.proofs.bodies.Body.first_repair.Goals as goal

pub loop-i-init : goal.loop-i-init
loop-i-init c = let b = c.args.self in
    let l = map odd b.bits.now in (
      ap (λ (m : ℕ). first_of (mends b.kind l) (repairs m 0)) (sub-zero c.min-end.result)
          ∙ sym (first-least b.kind l c.requires c.min-end.result
          (c.min-end.ensures ∙ ap₂ min (sym (length-map-odd b.bits.now)) (ap (λ (n : ℕ). 8 * n) b.whole))),
      passed_none b.kind.rank l,
      omega arith,
      omega (arith, b.some),
    )

pub returns-in-Some : goal.returns-in-Some
returns-in-Some c = let b = c.args.self in
    let f = mends b.kind (map odd b.bits.now) in
    let i = c.loop-i.i in
    let k = c.min-end.result - (i + 1) in
    at_place f k i c.in-Some.how (sym c.repair_at.ensures ∙ c.in-Some.is)
    ∙ ap (λ (m : ℕ). first_of f (repairs m i)) (let z : suc k ≡ c.min-end.result - i = omega arith in z) ∙ c.loop-i.invariant.0

pub loop-i-preserved : goal.loop-i-preserved
loop-i-preserved c = let b = c.args.self in
    let f = mends b.kind (map odd b.bits.now) in
    let g = c.front_at-front.ensures in
    let i = c.loop-i.i in
    let k = c.min-end.result - (i + 1) in (
      past_place f k i (sym c.repair_at.ensures ∙ c.in_default.is)
          ∙ ap (λ (m : ℕ). first_of f (repairs m i)) (let z : suc k ≡ c.min-end.result - i = omega arith in z) ∙ c.loop-i.invariant.0,
      g.0,
      omega (arith, g.1),
      g.2,
    )

pub returns : goal.returns
returns c = let b = c.args.self in
    let end = c.min-end.result in
    first_none (mends b.kind (map odd b.bits.now)) (end - c.loop-i.i) c.loop-i.i (omega arith) ∙ c.loop-i.invariant.0
