use Rattle.std.proofs.Common.{◌≡◌, ℕ, ◌+◌, ◌%◌, ◌^◌, ◌<◌, sym, ap, ◌∙◌, length, get_or, arith, ltb, true, false, true≢false}
use Rattle.order.proofs.Bounds.{none_passed, pass, kept_least, kept_most, ordered, tight}
use Rattle.order.proofs.Shifts.{within_64}
use Rattle.order.proofs.bounded.Goals.{then-is_below, else-is_below, then-is_below-2, else-is_below-2, then-is_below-3, else-is_below-3}
use Rattle.order.proofs.bounded.Goals as goal

pub loop-x-init : goal.loop-x-init
loop-x-init g c = rw (c.of-span.ensures, c.of-none.ensures) (none_passed g.T.Ranked.key c.args.xs.now.items.now c.args.r.lo c.args.r.span)

pub loop-x-preserved : goal.loop-x-preserved
loop-x-preserved g c =
    let num = g.T.At.Place.number in
    let a = c.args in
    let l = c.loop-x in
    let t = num c.above-t.result in
    let i : l.x-index < length a.xs.now.items.now = omega arith in
    let e : (t + a.r.lo) % 2 ^ g.T.At.Place.width ≡ g.T.Ranked.key (get_or a.xs.now.items.now l.x-index c.x-item.result) =
    ap (λ (v : ℕ). (t + v) % 2 ^ g.T.At.Place.width) (sym c.of-lo.ensures) ∙ c.above-t.ensures.0 ∙ c.place.ensures ∙ ap g.T.Ranked.key c.x-item.is in
    pass g.T.Ranked.key a.xs.now.items.now l.x-index c.x-item.result i (2 ^ g.T.At.Place.width) a.r.lo a.r.span t c.above-t.ensures.1 c.requires.fits e
    (num l.least) (num c.if-is_below.least) (num l.most) (num c.if-is_below-3.most) l.invariant
    (elim c.if-is_below.branch [
      | then-is_below w ↦
          kept_least t (num l.least) (num c.if-is_below.least) true (sym w.if-is_below.true ∙ c.is_below.ensures) (λ h. ap num w.least-is) (λ h. absurd (true≢false h))
      | else-is_below w ↦
          kept_least t (num l.least) (num c.if-is_below.least) false (sym w.if-is_below.false ∙ c.is_below.ensures) (λ h. absurd (true≢false (sym h))) (λ h. ap num w.least-is)
    ])
    (kept_most t a.r.span (num l.most) (num c.if-is_below-3.most) (num c.if-is_below-2.inside) c.is_below-in-loop-x.result c.is_below-in-loop-x-2.result
    (c.is_below-in-loop-x.ensures ∙ ap (λ (v : ℕ). ltb v t) c.of-span.ensures)
    (λ h. elim c.if-is_below-2.branch [ then-is_below-2 w ↦ ap num w.inside-is ∙ c.of-none.ensures | else-is_below-2 w ↦ absurd (true≢false (sym h ∙ w.if-is_below-2.false)) ])
    (λ h. elim c.if-is_below-2.branch [ then-is_below-2 w ↦ absurd (true≢false (sym w.if-is_below-2.true ∙ h)) | else-is_below-2 w ↦ ap num w.inside-is ])
    c.is_below-in-loop-x-2.ensures
    (λ h. elim c.if-is_below-3.branch [ then-is_below-3 w ↦ ap num w.most-is | else-is_below-3 w ↦ absurd (true≢false (sym h ∙ w.if-is_below-3.false)) ])
    (λ h. elim c.if-is_below-3.branch [ then-is_below-3 w ↦ absurd (true≢false (sym w.if-is_below-3.true ∙ h)) | else-is_below-3 w ↦ ap num w.most-is ])
    l.invariant.2)

pub overflow_add-result : goal.overflow_add-result
overflow_add-result g c = record {
  fits = within_64 g.T.At.Place.width (c.args.r.lo + c.value.result) g.met.T.At.Place.wide (omega (arith, c.requires.fits, c.value.ensures.0, c.loop-x.invariant.1));
}

pub overflow_sub-result : goal.overflow_sub-result
overflow_sub-result g c =
    omega (
      arith,
      c.value-2.ensures.0,
      c.value-3.ensures.0,
      ordered g.T.Ranked.key c.args.xs.now.items.now c.args.r c.requires (g.T.At.Place.number c.loop-x.least) (g.T.At.Place.number c.loop-x.most) c.loop-x.x-index c.loop-x.invariant
          c.loop-x-test.false,
    )

pub returns : goal.returns
returns g c =
    rw (c.value.ensures.0, c.value-2.ensures.0, c.value-3.ensures.0) (
      tight g.T.Ranked.key c.args.xs.now.items.now c.args.r c.requires (g.T.At.Place.number c.loop-x.least) (g.T.At.Place.number c.loop-x.most) c.loop-x.x-index c.loop-x.invariant
          c.loop-x-test.false,
      omega (arith, c.loop-x.invariant.2),
    )
