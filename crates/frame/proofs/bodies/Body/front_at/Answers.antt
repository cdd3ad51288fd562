use mathlib.Core.Path.{ap}
use native.Mathlib.Omega.{arith}
use lib.ListN.{length}
use Rattle.coding.proofs.BitLaws.{length-map-odd}
use Rattle.frame.proofs.SpliceLaws.{bits_kept}
use Rattle.frame.proofs.PassedLaws.{passed_kept, kept_passed}
use Rattle.frame.proofs.bodies.Body.front_at.Goals as goal

pub further-requires : goal.further-requires
further-requires c = let b = c.args.self in
    let v = c.unchanged in (
      passed_kept b v.result v.ensures.0 v.ensures.1 c.args.front c.requires.0,
      omega (arith, ap length (bits_kept b v.result v.ensures.0 v.ensures.1), length-map-odd b.bits.now, c.if-i-front.false, c.requires.1),
      omega (arith, c.requires.3, b.most),
    )

pub returns : goal.returns
returns c = let v = c.unchanged in
    let r = c.further.ensures in (
      kept_passed c.args.self v.result v.ensures.0 v.ensures.1 c.further.result r.0,
      omega (arith, r.1, c.if-i-front.false),
      omega (arith, r.1, c.if-self-front.false),
    )
