use Rattle.std.proofs.Common.{◌≡◌, ◌+◌, ◌*◌, Bool, cond, not, ◌&&◌, refl, ◌∙◌, subst, arith, [], List}
use Rattle.frequency_lists.specs.declared.Reading.{Reading}
use Rattle.frequency_lists.specs.Lists.{readings_from}
use Rattle.frequency_lists.specs.Marks.{put}
use Rattle.frequency_signal.specs.Seconds.{settling}
use Rattle.frequency_lists.proofs.Appending.{Left, left_turn, from_at, reading, value-turn, value_end, next-upto}
use Rattle.frequency_lists.proofs.read_values.Goals as goal

pub loop-k-preserved : goal.loop-k-preserved
loop-k-preserved c =
    let a = c.args in
    let k = c.loop-k.k in
    let y = c.put-w in
    let all = readings_from a.start.rate a.step a.more a.tuned_at a.f a.start.n a.raw.now in
    let yes : Bool = not (settling a.start.rate a.tuned_at (a.start.n + 8 * k) && a.more) in
    let here = subst (λ (z : List Reading). Left all z a.count c.loop-k.w a.readings.now c.loop-k.readings) (value-turn a.start.rate a.step a.more a.tuned_at a.f a.start.n a.raw.now k c.loop-k-test.true) c.loop-k.invariant.1 in
    let n : y.result ≡ cond yes (c.loop-k.w + 1) c.loop-k.w = y.ensures.next ∙ rw c.is_settling-settling.ensures refl in
    let l : y.new.l ≡ put yes c.loop-k.readings c.loop-k.w (reading a.start.rate a.step a.more a.tuned_at a.f a.start.n a.raw.now k) = y.ensures.list ∙ rw (c.is_settling-settling.ensures, c.reading_hz.ensures) refl in
    let u = next-upto yes c.loop-k.w y.result n in
    let v = c.loop-k.invariant.0 in
    (omega arith, left_turn all a.readings.now a.count yes _ (from_at a.start.rate a.step a.more a.tuned_at a.f a.start.n a.raw.now (k + 1)) c.loop-k.w y.result c.loop-k.readings _ here n l)

-- what is left at the end: nothing
done : (c : goal.After-loop-k) → let a = c.args in Left (readings_from a.start.rate a.step a.more a.tuned_at a.f a.start.n a.raw.now) [] a.count c.loop-k.w a.readings.now c.loop-k.readings
done c =
    let a = c.args in
    subst (λ (z : List Reading). Left (readings_from a.start.rate a.step a.more a.tuned_at a.f a.start.n a.raw.now) z a.count c.loop-k.w a.readings.now c.loop-k.readings) (value_end a.start.rate a.step a.more a.tuned_at a.f a.start.n a.raw.now c.loop-k.k c.loop-k-test.false) c.loop-k.invariant.1

pub returns-clause-next : goal.returns-clause-next
returns-clause-next c = omega (arith, (done c).next)

pub returns-clause-list : goal.returns-clause-list
returns-clause-list c = (done c).list
