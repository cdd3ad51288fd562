use Rattle.floats.proofs.Trigs.{zero_is, two_is, half_is}
use Rattle.dips.specs.Dips.{centre}
use Rattle.dips.proofs.Inner.centre.Goals as goal

pub returns : goal.returns
unfolding centre
returns c =
    let a = c.f32_to_f64_with_nan-a.ensures in
    let v = c.f32_to_f64_with_nan-v.ensures in
    let d = c.f32_to_f64_with_nan-c.ensures in
    cc (c.pick.ensures, c.count_as_f64.ensures, a, v, d, zero_is, two_is, half_is)
