use Rattle.std.proofs.Common.{T, ◌^◌, ◌∙◌, pow_pos}
use Rattle.order.proofs.Found.{starts, starts_at}
use Rattle.order.proofs.first.Goals as goal

pub by_ranks-requires : goal.by_ranks-requires
by_ranks-requires g c =
    let q = g.T.Ranked in
    let xs = c.args.xs.now.items.now in
    let k = c.args.k in
    let m = 2 ^ g.T.At.Place.width in
    let each = c.args.xs.now.held in (
      starts q.key m (λ x. T (q.held x)) xs each k c.last.result (pow_pos g.T.At.Place.width) c.last.ensures c.requires,
      starts_at q.key m (λ x. T (q.held x)) xs each k c.last.result,
    )

pub bounded-requires : goal.bounded-requires
bounded-requires g c =
    let q = g.T.Ranked in
    starts q.key (2 ^ g.T.At.Place.width) (λ x. T (q.held x)) c.args.xs.now.items.now c.args.xs.now.held c.args.k c.last.result (pow_pos g.T.At.Place.width) c.last.ensures c.requires

pub returns : goal.returns
returns g c =
    let q = g.T.Ranked in
    let r = c.bounded.ensures.0 in
    (r.searched, r.same ∙ starts_at q.key (2 ^ g.T.At.Place.width) (λ x. T (q.held x)) c.args.xs.now.items.now c.args.xs.now.held c.args.k c.last.result)
