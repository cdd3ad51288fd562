use Rattle.std.proofs.Common.{◌≡◌, ℕ, ◌^◌, ◌<◌, T, ◌∙◌, ap, sym, get_or, length, subst}
use Rattle.order.specs.Sorted.{sorted}
use Rattle.order.proofs.Found.{found-held, found-key}
use Rattle.order.proofs.select.Given.{Over}
use Rattle.order.proofs.select.Goals.{After-of}
use Rattle.order.proofs.select.Goals as goal

-- the element sought has a place, the one that the search has found
found : (g : Over) (c : After-of g) → let x = g.T.Ranked.kth c.args.xs.now c.args.k in T (g.T.Ranked.held x) × (g.T.Ranked.key x ≡ g.T.At.Place.number c.of.result)
found g c =
    let q = g.T.Ranked in
    let p = c.placed-placed in
    let xs = p.result.items.now in
    let k = c.args.k in
    let m = 2 ^ g.T.At.Place.width in
    let x = q.kth c.args.xs.now k in
    let less : k < length xs = subst (λ (n : ℕ). k < n) (sym (ap length p.ensures.same)) c.requires.0 in
    let is : x ≡ get_or (sorted q.key xs) k x = rw p.ensures.same (p.ensures.kth_is k x c.requires.0) in
    let l = c.loop-r in (
      found-held q.key m (λ x. T (q.held x)) xs p.result.held k less x is,
      found-key q.key m (λ x. T (q.held x)) xs p.result.held k less x is l.r l.invariant.0 l.invariant.1 c.loop-r-test.false ∙ sym c.of.ensures,
    )

pub at-requires : goal.at-requires
at-requires g c = let f = found g c in (g.T.Ranked.kth c.args.xs.now c.args.k, f.0, f.1)

pub returns : goal.returns
returns g c = let f = found g (goal.at.returns g c).After-of in c.at.ensures (g.T.Ranked.kth c.args.xs.now c.args.k) f.0 f.1
