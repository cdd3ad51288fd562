use Rattle.std.proofs.Common.{sym, refl, ◌∙◌, arith}
use Rattle.clock.proofs.FitLaws.{joined-point, fit_start, fit_end, fit-lost, fit-skipped, fit-joined}
use Rattle.clock.proofs.fit_clock.Goals as goal

pub loop-i-init : goal.loop-i-init
loop-i-init c = fit_start c.args.start c.args.dips.now c.args.depths.now c.requires.2

pub count_as_f64-requires : goal.count_as_f64-requires
count_as_f64-requires c =
    let p = joined-point c.loop-i.clock c.in-Joined.next _ (sym c.track.ensures ∙ c.in-Joined.is) in
    omega (arith, p.small)

pub returns-in-Lost : goal.returns-in-Lost
returns-in-Lost c =
    let a = c.args in
    let l = c.loop-i in
    fit-lost a.start a.dips.now a.depths.now l.dips l.depths l.clock l.i l.invariant (omega arith) (omega (arith, c.requires.0)) c.track.result c.track.ensures c.in-Lost.is

pub loop-i-preserved-in-Skipped : goal.loop-i-preserved-in-Skipped
loop-i-preserved-in-Skipped c =
    let a = c.args in
    let l = c.loop-i in
    fit-skipped a.start a.dips.now a.depths.now l.dips l.depths l.clock l.i l.invariant (omega arith) (omega (arith, c.requires.0)) c.track.result c.track.ensures c.in-Skipped.is

pub loop-i-preserved : goal.loop-i-preserved
loop-i-preserved c =
    let a = c.args in
    let l = c.loop-i in
    fit-joined a.start a.dips.now a.depths.now l.dips l.depths l.clock l.i l.invariant (omega arith) (omega (arith, c.requires.0)) c.track.result c.track.ensures
    c.in-Joined.next c.count_as_f64.result _ c.in-Joined.is c.count_as_f64.ensures refl

pub returns : goal.returns
returns c =
    let a = c.args in
    let l = c.loop-i in
    fit_end a.start a.dips.now a.depths.now l.dips l.depths l.clock l.i l.invariant (omega arith)
