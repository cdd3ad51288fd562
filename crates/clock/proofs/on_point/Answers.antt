use Rattle.clock.proofs.WalkLaws.{heads_here, heads_past}
use Rattle.clock.proofs.on_point.Goals as goal

pub returns-then-p-points : goal.returns-then-p-points
returns-then-p-points c =
    let a = c.args in
    heads_here a.k a.points.now a.p c.place_back.result c.if-p-points.true c.place_back.ensures

pub returns : goal.returns
returns c =
    let a = c.args in
    heads_past a.k a.points.now a.p c.if-p-points.false
