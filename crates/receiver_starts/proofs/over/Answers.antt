use Rattle.std.proofs.Common.{◌≡◌, refl, length, rules, arith}
use lib.Seq.{length-take-le}
use Rattle.receiver_starts.specs.Starts.{over}
use Rattle.receiver_starts.proofs.over.Goals as goal

pub returns : goal.returns
unfolding over
returns c =
    let a = c.args in
    let h : length a.s.now.at ≡ 96 = search rules in
    let n = length-take-le a.s.now.count a.s.now.at (omega arith) in
    rw (c.copy_from_slice.ensures.after, n) refl
