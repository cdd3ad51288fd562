use Rattle.std.proofs.Common.{◌+◌, ◌^◌, ◌<◌, sym, refl, subst, arith, pow_pos}
use Rattle.order.specs.declared.Range.{Range}
use Rattle.order.specs.Search.{Kept}
use Rattle.order.proofs.Shifts.{shift-lt, within_64}
use Rattle.order.proofs.Cut.{enough, inside, cut, smaller}
use Rattle.order.proofs.Bins.{none_counted}
use Rattle.order.proofs.narrow.Goals as goal

pub count-requires : goal.count-requires
count-requires g c =
    let s = c.shift_of-shift in
    let r = c.args.r in (
      c.requires.0.fits,
      shift-lt r.span s.result 64 s.ensures.1 (within_64 g.T.At.Place.width r.span g.met.T.At.Place.wide (omega (arith, c.requires.0.fits))),
      s.ensures.0,
      refl,
      none_counted g.T.Ranked.key r.lo r.span (2 ^ s.result),
    )

pub find_bin-requires : goal.find_bin-requires
find_bin-requires g c =
    let n = c.count in
    let s = c.shift_of-shift in
    enough g.T.Ranked.key c.args.xs.now.items.now c.args.r (2 ^ s.result) n.new.counts n.ensures c.requires.0 s.ensures.0

pub part_of-requires : goal.part_of-requires
part_of-requires g c =
    let f = c.find_bin in
    let n = c.count in
    let s = c.shift_of-shift in
    let r = c.args.r in (
      shift-lt r.span s.result 64 s.ensures.1 (within_64 g.T.At.Place.width r.span g.met.T.At.Place.wide (omega (arith, c.requires.0.fits))),
      inside g.T.Ranked.key c.args.xs.now.items.now r (2 ^ s.result) n.new.counts n.ensures c.requires.0 s.ensures.0 f.result f.ensures.0 f.ensures.1 f.ensures.2,
      within_64 g.T.At.Place.width (r.lo + r.span) g.met.T.At.Place.wide c.requires.0.fits,
    )

pub returns : goal.returns
returns g c =
    let f = c.find_bin in
    let n = c.count in
    let s = c.shift_of-shift in
    let l = c.args.xs.now.items.now in
    let r = c.args.r in
    let w = 2 ^ s.result in
    let m = n.new.counts in
    subst (λ (q : Range). Kept g.T.Ranked.key l (2 ^ g.T.At.Place.width) r q × (q.span < r.span)) (sym c.part_of.ensures) (
      cut g.T.Ranked.key l r w m n.ensures c.requires.0 s.ensures.0 f.result f.ensures.0 f.ensures.1 f.ensures.2 (pow_pos s.result),
      smaller g.T.Ranked.key l r w m n.ensures c.requires.0 s.ensures.0 f.result f.ensures.0 f.ensures.1 f.ensures.2 (pow_pos s.result) s.ensures.1,
    )
