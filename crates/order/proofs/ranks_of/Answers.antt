use Rattle.std.proofs.Common.{◌+◌, ltb, leb, ap, ◌∙◌, arith}
use Rattle.whole.proofs.Tests.{one_is, one-lt}
use Rattle.order.proofs.Ranked.{none_under, few_under, under_next, upto_next}
use Rattle.order.proofs.ranks_of.Goals as goal

pub loop-x-init : goal.loop-x-init
loop-x-init g c = (none_under g.T.Ranked.key c.args.xs.now.items.now c.args.v, none_under g.T.Ranked.key c.args.xs.now.items.now (c.args.v + 1))

pub overflow_add-under : goal.overflow_add-under
overflow_add-under g c = record {
  fits = omega (
    arith,
    c.from-under.ensures,
    one-lt (ltb c.value-p.result c.args.v),
    few_under g.T.Ranked.key c.args.xs.now.items.now c.args.v c.loop-x.x-index,
    c.loop-x.invariant.0,
    c.loop-x-test.true,
    c.loop-x.auto.x-index-end,
  );
}

pub overflow_add-upto : goal.overflow_add-upto
overflow_add-upto g c = record {
  fits = omega (
    arith,
    c.from-upto.ensures,
    one-lt (leb c.value-p.result c.args.v),
    few_under g.T.Ranked.key c.args.xs.now.items.now (c.args.v + 1) c.loop-x.x-index,
    c.loop-x.invariant.1,
    c.loop-x-test.true,
    c.loop-x.auto.x-index-end,
  );
}

pub loop-x-preserved : goal.loop-x-preserved
loop-x-preserved g c =
    let a = c.args in
    let l = c.loop-x in
    let p = c.value-p.ensures.0 ∙ c.place.ensures ∙ ap g.T.Ranked.key c.x-item.is in (
      rw (c.from-under.ensures, one_is, p) (under_next g.T.Ranked.key a.xs.now.items.now l.x-index c.x-item.result c.loop-x-test.true a.v l.under l.invariant.0),
      rw (c.from-upto.ensures, one_is, p) (upto_next g.T.Ranked.key a.xs.now.items.now l.x-index c.x-item.result c.loop-x-test.true a.v l.upto l.invariant.1),
    )
