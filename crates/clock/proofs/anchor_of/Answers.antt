use Rattle.std.proofs.Common.{◌≡◌, ◌≤◌, ◌<◌, get_or, length, refl, ap, ◌∙◌, arith}
use lib.Seq.{slice, get_or-take, length-take-le}
use lib.Ieee.{Float, nan}
use Rattle.floats.specs.Trig.{sine, cosine}
use Rattle.floats.proofs.Trigs.{zero_is, tau_is}
use Rattle.clock.specs.Clock.{sum_from, turned}
use Rattle.clock.proofs.ClockLaws.{sum-turn, sum_end, sine_of, cosine_of, anchor_is}
use Rattle.clock.proofs.anchor_of.Goals as goal

pub loop-d-init : goal.loop-d-init
loop-d-init c = (refl, refl)

pub loop-d-preserved : goal.loop-d-preserved
loop-d-preserved c =
    let a = c.args in
    let d = get_or a.dips.now 0 nan in
    let e = c.min-end.result in
    let m : e ≤ length a.dips.now = omega (arith, c.min-end.ensures) in
    let h : c.loop-d.d-index < e = omega (arith, length-take-le e a.dips.now m) in
    let g = get_or-take e a.dips.now c.loop-d.d-index nan h in (
      sum-turn (sine_of a.nominal d) a.dips.now c.loop-d.d-index e _ c.loop-d.s c.sin64-s.result h m
          (c.sin64-s.ensures ∙ ap sine c.angle_of-a.ensures ∙ ap (sine_of a.nominal d) g) c.loop-d.invariant.0,
      sum-turn (cosine_of a.nominal d) a.dips.now c.loop-d.d-index e _ c.loop-d.c c.cos64-c.result h m
          (c.cos64-c.ensures ∙ ap cosine c.angle_of-a.ensures ∙ ap (cosine_of a.nominal d) g) c.loop-d.invariant.1,
    )

pub returns : goal.returns
unfolding turned
returns c =
    let a = c.args in
    let d = get_or a.dips.now 0 nan in
    let e = c.min-end.result in
    let q = slice 0 e a.dips.now in
    let m : e ≤ length a.dips.now = omega (arith, c.min-end.ensures) in
    let t : c.loop-d.d-index ≡ e = omega (arith, length-take-le e a.dips.now m) in
    rw (c.atan2_64.ensures, tau_is)
    (anchor_is a.nominal d a.dips.now e c.loop-d.s c.loop-d.c c.min-end.ensures
    (sum_end (sine_of a.nominal d) a.dips.now c.loop-d.d-index e _ c.loop-d.s t c.loop-d.invariant.0 ∙ ap (λ (x : Float). sum_from (sine_of a.nominal d) x q) zero_is)
    (sum_end (cosine_of a.nominal d) a.dips.now c.loop-d.d-index e _ c.loop-d.c t c.loop-d.invariant.1 ∙ ap (λ (x : Float). sum_from (cosine_of a.nominal d) x q) zero_is))
