use Rattle.std.proofs.Common.{◌-◌, sym, ap, ◌∙◌, arith}
use Rattle.floats.specs.Trig.{terms, series}
use Rattle.floats.proofs.Trigs.{one_is, series-turn, series_end}
use Rattle.floats.proofs.series_of.Goals as goal

pub loop-n-preserved : goal.loop-n-preserved
loop-n-preserved g c =
    let l = c.loop-n in
    let q = c.args.q in (
      omega arith,
      λ o is. series-turn o (l.n - 1) c.divisor.result q l.p (omega arith) (is (l.n - 1) c.divisor.result (omega arith) c.divisor.ensures) ∙ l.invariant.1 o is,
    )

pub returns : goal.returns
returns g c =
    let l = c.loop-n in
    let q = c.args.q in
    λ o is. sym (series_end o (l.n - 1) q l.p (omega arith)) ∙ l.invariant.1 o is ∙ ap (series o terms q) one_is
