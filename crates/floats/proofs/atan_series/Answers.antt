use Rattle.std.proofs.Common.{sym, ap, ◌∙◌, arith}
use Rattle.floats.specs.Trig.{atan_terms, atan_from}
use Rattle.floats.proofs.Trigs.{zero_is, atan-turn, atan_end}
use Rattle.floats.proofs.atan_series.Goals as goal

pub loop-n-preserved : goal.loop-n-preserved
loop-n-preserved c = let l = c.loop-n in atan-turn l.n c.args.u l.p (omega arith) ∙ l.invariant

pub returns : goal.returns
returns c =
    let l = c.loop-n in
    let u = c.args.u in
    sym (atan_end l.n u l.p (omega arith)) ∙ l.invariant ∙ ap (atan_from atan_terms u) zero_is
