use Rattle.std.proofs.Common.{None, arith}
use Rattle.std.specs.List.{last_or}
use Rattle.frequency_lists.specs.declared.Reading.{Reading}
use Rattle.frequency_measure.specs.Measured.{inside}
use Rattle.frequency_measure.specs.Gathered.{in_frame, los}
use Rattle.frequency_measure.proofs.Frames.{last_turn, last_end}
use Rattle.frequency_measure.proofs.last_lo.Goals as goal

pub loop-x-preserved : goal.loop-x-preserved
loop-x-preserved c =
    let a = c.args in
    let l = c.loop-x in
    let t = last_turn (λ (x : Reading). inside a.frame.first a.frame.past x.at) a.readings.now l.x-index _ l.last (last_or None (los (in_frame a.frame.first a.frame.past a.readings.now))) c.loop-x-test.true l.invariant in
    rw (c.pick-last.ensures, c.has.ensures) t

pub returns : goal.returns
returns c =
    let a = c.args in
    last_end (λ (x : Reading). inside a.frame.first a.frame.past x.at) a.readings.now c.loop-x.x-index c.loop-x.last _ (omega arith) c.loop-x.invariant
