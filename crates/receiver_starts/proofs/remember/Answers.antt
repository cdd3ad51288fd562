use Rattle.std.proofs.Common.{◌≡◌, length, rules, arith}
use Rattle.receiver_starts.proofs.StartLaws.{over_store}
use mir.Syntax.{w32}
use mir.ValLaws.{to_z-of_z}
use Rattle.receiver_starts.proofs.remember.Goals as goal

pub returns : goal.returns
returns c =
    let a = c.args in
    let h : length a.s.now.at ≡ 96 = search rules in
    rw (to_z-of_z w32 a.x c.ranges.x) (over_store a.s.now a.x (omega arith))
