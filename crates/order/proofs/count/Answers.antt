use Rattle.std.proofs.Common.{◌≡◌, ℕ, ◌+◌, ◌/◌, ◌%◌, ◌^◌, ◌<◌, sym, ap, ◌∙◌, get_or, arith, pow_pos}
use Rattle.order.specs.Search.{bins}
use Rattle.order.proofs.Bins.{bin_lt, all_counted, few, missed, stored}
use Rattle.order.proofs.count.Goals.{then-t-r, else-t-r}
use Rattle.order.proofs.count.Goals as goal

pub overflow_add-counts : goal.overflow_add-counts
overflow_add-counts g c =
    let a = c.args in
    let t = c.value-t.result in
    let w = 2 ^ a.shift in
    let within : t / w < bins = bin_lt t a.r.span w (pow_pos a.shift) c.if-t-r.true c.requires.2 in
    record {
      fits = omega (
        arith,
        c.loop-x.auto.x-index-end,
        few g.T.Ranked.key a.xs.now.items.now c.loop-x.x-index c.x-item.result c.loop-x-test.true a.r.lo a.r.span w c.loop-x.counts c.loop-x.invariant.1 (t / w) within,
      );
    }

pub loop-x-preserved : goal.loop-x-preserved
loop-x-preserved g c =
    let num = g.T.At.Place.number in
    let a = c.args in
    let l = c.loop-x in
    let t = c.value-t.result in
    let w = 2 ^ a.shift in
    let m = 2 ^ g.T.At.Place.width in
    let e : (t + a.r.lo) % m ≡ g.T.Ranked.key (get_or a.xs.now.items.now l.x-index c.x-item.result) =
    ap (λ (v : ℕ). (v + a.r.lo) % m) c.value-t.ensures.0 ∙ ap (λ (v : ℕ). (num c.above.result + v) % m) (sym c.of-lo.ensures)
    ∙ c.above.ensures.0 ∙ c.place.ensures ∙ ap g.T.Ranked.key c.x-item.is in
    elim c.if-t-r.branch [
      | then-t-r y ↦
          stored g.T.Ranked.key a.xs.now.items.now l.x-index c.x-item.result c.loop-x-test.true a.r.lo a.r.span w l.counts l.invariant.1 m t c.value-t.ensures.1 c.requires.0 e
          (pow_pos a.shift) l.invariant.0 y.if-t-r.true (bin_lt t a.r.span w (pow_pos a.shift) y.if-t-r.true c.requires.2) c.if-t-r.counts y.counts-is
      | else-t-r n ↦
          missed g.T.Ranked.key a.xs.now.items.now l.x-index c.x-item.result c.loop-x-test.true a.r.lo a.r.span w l.counts l.invariant.1 m t c.value-t.ensures.1 c.requires.0 e
          l.invariant.0 n.if-t-r.false c.if-t-r.counts n.counts-is
    ]

pub returns : goal.returns
returns g c =
    all_counted g.T.Ranked.key c.args.xs.now.items.now c.loop-x.x-index c.args.r.lo c.args.r.span (2 ^ c.args.shift) c.loop-x.counts c.loop-x-test.false c.loop-x.invariant.1
