use Rattle.dips.specs.Dips.{sides, depth_of, left_of, right_of}
use Rattle.dips.proofs.DipLaws.{as_other, as_deep}
use lib.Ieee.{of_bits, of_int, round}
use Rattle.dips.proofs.Inner.sides_high.Goals as goal

pub returns-then-shallow-dim : goal.returns-then-shallow-dim
unfolding sides left_of right_of of_bits of_int round
returns-then-shallow-dim c =
    let a = c.args in
    as_other _ (sides a.level a.windows.side a.self.seg.now a.self.at) (depth_of a.windows.side a.self.seg.now a.self.at) c.if-shallow-dim.true
    (cc (c.pick-higher.ensures, c.pick-lower.ensures, c.f32_to_f64_with_nan-right.ensures, c.side_level-r.ensures, c.min.ensures, c.f32_to_f64_with_nan-left.ensures, c.side_level-l.ensures, c.back.ensures, c.f32_to_f64_with_nan-v.ensures))

pub returns : goal.returns
unfolding sides depth_of left_of right_of of_bits of_int round
returns c =
    let a = c.args in
    as_deep _ (sides a.level a.windows.side a.self.seg.now a.self.at) (depth_of a.windows.side a.self.seg.now a.self.at) _ c.if-shallow-dim.false
    (cc (c.pick-higher.ensures, c.pick-lower.ensures, c.f32_to_f64_with_nan-right.ensures, c.side_level-r.ensures, c.min.ensures, c.f32_to_f64_with_nan-left.ensures, c.side_level-l.ensures, c.back.ensures, c.f32_to_f64_with_nan-v.ensures))
    (cc (c.pick-higher.ensures, c.pick-lower.ensures, c.f32_to_f64_with_nan-right.ensures, c.side_level-r.ensures, c.min.ensures, c.f32_to_f64_with_nan-left.ensures, c.side_level-l.ensures, c.back.ensures, c.f32_to_f64_with_nan-v.ensures))
