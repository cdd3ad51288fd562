use Rattle.std.proofs.Common.{◌∙◌}
use Rattle.grip.proofs.TimeLaws.{finite_is}
use Rattle.grip.proofs.LookedLaws.{looked-taken, looked_kept}
use Rattle.grip.proofs.looking.looked_at.Goals as goal
use Rattle.grip.proofs.looking.looked_at.Goals.{then-qualifies-is_nearer, else-qualifies-is_nearer}

pub returns : goal.returns
returns c =
    let a = c.args in
    let t = c.time-time in
    let f = c.is_finite.ensures.value ∙ finite_is t.result in
    elim c.if-qualifies-is_nearer.branch [
      | then-qualifies-is_nearer w ↦
          rw w.nearest-is (looked-taken a.grip a.within a.b a.r.bytes.now c.record_ok-right.result c.is_message.result c.is_finite.result c.is_nearer.result c.abs64-distance.result t.result
          c.record_ok-right.ensures c.is_message.ensures t.ensures f c.abs64-distance.ensures c.is_nearer.ensures w.if-qualifies-is_nearer.true)
      | else-qualifies-is_nearer w ↦
          rw w.nearest-is (looked_kept a.grip a.within a.b a.r.bytes.now c.record_ok-right.result c.is_message.result c.is_finite.result c.is_nearer.result c.abs64-distance.result t.result
          c.record_ok-right.ensures c.is_message.ensures t.ensures f c.abs64-distance.ensures c.is_nearer.ensures w.if-qualifies-is_nearer.false)
    ]
