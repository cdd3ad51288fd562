use Rattle.std.proofs.Common.{◌≡◌, ℕ, ◌+◌, ◌*◌, ◌/◌, ◌≤◌, length, subst, arith}
use Rattle.std.proofs.lemmas.List.{length-map}
use lib.Bits.{bit_or}
use Rattle.frequency_lists.specs.declared.Reading.{Reading}
use Rattle.frequency_lists.specs.Lists.{ats}
use Rattle.frequency_lists.proofs.Reach.{Reached}
use Rattle.frequency_lists.proofs.Blocks.{reach_block}
use Rattle.frequency_lists.proofs.spread.Goals.{After-loop-k}
use Rattle.frequency_lists.proofs.spread.Goals as goal

pub loop-k-preserved : goal.loop-k-preserved
loop-k-preserved c =
    let l = c.args.readings.now in
    let k = c.loop-k.k in
    let p = c.spread_part-bits in
    let M : 16 * k + 16 ≤ length l = omega arith in
    let e : 16 * k + 16 ≡ 16 * (k + 1) = omega arith in
    subst (λ (z : ℕ). Reached c.args.low (bit_or c.loop-k.bits p.result) (ats l) z) e (reach_block l (16 * k) (16 * k + 16) (omega arith) M c.args.low c.loop-k.bits p.result c.loop-k.invariant p.ensures)

-- the blocks are all looked at
done : (c : After-loop-k) → let a = c.args in Reached a.low c.loop-k.bits (ats a.readings.now) (16 * (length a.readings.now / 16))
done c =
    let a = c.args in
    let e : c.loop-k.k ≡ length a.readings.now / 16 = omega arith in
    subst (λ (z : ℕ). Reached a.low c.loop-k.bits (ats a.readings.now) (16 * z)) e c.loop-k.invariant

pub returns : goal.returns
returns c =
    let l = c.args.readings.now in
    let p = c.spread_part in
    let n = length-map l (λ (x : Reading). x.at) in
    let r = reach_block l (16 * (length l / 16)) (length l) (omega arith) (omega arith) c.args.low c.loop-k.bits p.result (done (goal.at.returns c).After-loop-k) p.ensures in
    λ j h. r j (omega arith)
