use Rattle.std.proofs.Common.{◌+◌, Bool, cond, ◌&&◌, eqb, refl, ap, ◌∙◌, arith}
use Rattle.frequency_lists.specs.declared.Reading.{Reading}
use Rattle.frequency_measure.specs.Measured.{inside}
use Rattle.frequency_measure.proofs.Frames.{gathers_turn, gathers_end}
use Rattle.frequency_measure.proofs.gather_frame.Goals as goal

pub loop-x-preserved : goal.loop-x-preserved
loop-x-preserved c =
    let a = c.args in
    let l = c.loop-x in
    let y = c.has_against.ensures in
    gathers_turn (λ (x : Reading). inside a.frame.first a.frame.past x.at && eqb x.lo a.lo) a.readings.now a.out.now l.x-index l.w c.put-w.result _ l.out c.put-w.new.l c.loop-x-test.true c.requires l.invariant
    (c.put-w.ensures.next ∙ ap (λ (b : Bool). cond b (l.w + 1) l.w) y) (c.put-w.ensures.list ∙ rw y refl)

pub returns : goal.returns
returns c =
    let a = c.args in
    gathers_end (λ (x : Reading). inside a.frame.first a.frame.past x.at && eqb x.lo a.lo) a.readings.now a.out.now c.loop-x.x-index c.loop-x.w c.loop-x.out (omega arith) (omega arith) c.loop-x.invariant
