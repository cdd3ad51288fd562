use Rattle.std.proofs.Common.{◌≡◌, ℕ, ◌+◌, ◌*◌, ◌/◌, ◌≤◌, true, length, take, sym, ap, ◌∙◌, subst, arith}
use Rattle.std.specs.Prelude.{IfSome, Option}
use Rattle.std.specs.Option.{is_some}
use Rattle.std.proofs.lemmas.List.{length-map}
use lib.Bits.{bit_or}
use Rattle.frequency_lists.specs.declared.Reading.{Reading}
use Rattle.frequency_lists.specs.Lists.{ats, all_numbers, ReachesAll}
use Rattle.frequency_lists.proofs.Reach.{Reached}
use Rattle.frequency_lists.proofs.Blocks.{reach_block, numbers_block, numbers_not, numbers_rest, passes_some, if_passes}
use Rattle.frequency_lists.proofs.spread_of_numbers.Goals.{After-loop-k}
use Rattle.frequency_lists.proofs.spread_of_numbers.Goals as goal

pub returns-then-not-ok-clause-numbers : goal.returns-then-not-ok-clause-numbers
returns-then-not-ok-clause-numbers c =
    let l = c.args.readings.now in
    let k = c.loop-k.k in
    numbers_not l (16 * k) (16 * k + 16) (omega arith) (omega arith) c.loop-k.invariant.1 (sym c.look_part-more.ensures.1 ∙ c.if-not-ok.true)

pub loop-k-preserved : goal.loop-k-preserved
loop-k-preserved c =
    let l = c.args.readings.now in
    let k = c.loop-k.k in
    let p = c.look_part-more in
    let M : 16 * k + 16 ≤ length l = omega arith in
    let e : 16 * k + 16 ≡ 16 * (k + 1) = omega arith in
    subst (λ (z : ℕ). Reached c.args.low (bit_or c.loop-k.bits p.result.0) (ats l) z × (all_numbers (take z l) ≡ true)) e
    (reach_block l (16 * k) (16 * k + 16) (omega arith) M c.args.low c.loop-k.bits p.result.0 c.loop-k.invariant.0 p.ensures.0, numbers_block l (16 * k) (16 * k + 16) (omega arith) M c.loop-k.invariant.1 (sym p.ensures.1 ∙ c.if-not-ok.false))

-- the blocks are all looked at
done : (c : After-loop-k) → let a = c.args in let n = length a.readings.now / 16 in Reached a.low c.loop-k.bits (ats a.readings.now) (16 * n) × (all_numbers (take (16 * n) a.readings.now) ≡ true)
done c =
    let a = c.args in
    let e : c.loop-k.k ≡ length a.readings.now / 16 = omega arith in
    subst (λ (z : ℕ). Reached a.low c.loop-k.bits (ats a.readings.now) (16 * z) × (all_numbers (take (16 * z) a.readings.now) ≡ true)) e c.loop-k.invariant

pub returns-clause-numbers : goal.returns-clause-numbers
returns-clause-numbers c =
    let l = c.args.readings.now in
    ap is_some c.then_some.ensures ∙ passes_some _ _ ∙ c.look_part-more-2.ensures.1 ∙ numbers_rest l (16 * (length l / 16)) (done (goal.at.returns-clause-numbers c).After-loop-k).1

pub returns-clause-bits : goal.returns-clause-bits
returns-clause-bits c =
    let l = c.args.readings.now in
    let p = c.look_part-more-2 in
    let n = length-map l (λ (x : Reading). x.at) in
    let r = reach_block l (16 * (length l / 16)) (length l) (omega arith) (omega arith) c.args.low c.loop-k.bits p.result.0 (done (goal.at.returns-clause-bits c).After-loop-k).0 p.ensures.0 in
    subst (λ (o : Option ℕ). IfSome o (λ (b : ℕ). ReachesAll c.args.low b (ats l))) (sym c.then_some.ensures) (if_passes (λ (b : ℕ). ReachesAll c.args.low b (ats l)) _ _ (λ j h. r j (omega arith)))
