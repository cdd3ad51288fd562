use Rattle.std.proofs.Common.{arith}
use Rattle.demod.specs.Decode.{from_of, to_of}
use Rattle.demod.proofs.looked_at.Goals as goal

pub returns : goal.returns
unfolding from_of to_of
returns c =
    let g = c.max-to.ensures in
    let l = c.min.ensures in
    let f = c.min-from.ensures in
    let b = c.back.ensures in
    let m = c.margin-pad.ensures.0 in
    (cc (f, b, m), cc (g, l, f, b, m), omega (arith, g), omega (arith, g, l, f))
