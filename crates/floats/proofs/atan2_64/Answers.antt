use Rattle.std.proofs.Common.{◌≡◌, true, false, ◌&&◌}
use lib.Ieee.{eq}
use Rattle.floats.specs.Trig.{arctangent}
use Rattle.floats.specs.Number.{num}
use Rattle.floats.proofs.Trigs.{zero_is, two_is, pi_is, both_left, both_right, both_no}
use Rattle.floats.proofs.atan2_64.Goals.{then-s+else-c, else-s}
use Rattle.floats.proofs.atan2_64.Goals as goal

pub returns-then-c : goal.returns-then-c
unfolding arctangent
returns-then-c c =
    let e : eq c.args.s (num 0) && eq c.args.c (num 0) ≡ true =
    both_left c.args.s c.args.c c.if-s.true c.if-c.true in
    rw e zero_is

pub returns : goal.returns
unfolding arctangent
returns c =
    let a = c.args in
    let e : eq a.s (num 0) && eq a.c (num 0) ≡ false = elim c.if-s.branch [ then-s+else-c w ↦ both_right a.s a.c w.if-c.false | else-s w ↦ both_no a.s a.c w.if-s.false ] in
    rw e (cc (zero_is, two_is, pi_is, c.pick-2.ensures, c.pick-z.ensures, c.pick-y.ensures, c.atan64-x.ensures, c.pick.ensures, c.abs64-b.ensures, c.abs64-a.ensures))
