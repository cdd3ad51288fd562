use Rattle.std.proofs.Common.{leb-true, arith}
use Rattle.frequency_retain.proofs.Retained.{looked_of, if-then_some}
use Rattle.frequency_retain.proofs.look_at.Goals as goal

pub returns : goal.returns
returns c =
    let a = c.args in
    let l = c.leading-lead in
    rw c.then_some.ensures (if-then_some _ _ _ (λ e. looked_of a.low a.limit l.result c.spread.result a.readings.now l.ensures.0 (omega arith) (omega arith) l.ensures.1 c.spread.ensures (leb-true _ _ e)))
