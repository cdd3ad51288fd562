use borrow.Author.Tests.{eq-eqb, ne_eqb, lt-ltb, le-ltb}
use mathlib.Core.Path.{refl}
use Rattle.shifts.specs.Shifts.{holds}
use Rattle.shifts.proofs.holds.Goals as goal

pub returns-then-w : goal.returns-then-w
unfolding holds
returns-then-w c = let w = c.args.w in rw (eq-eqb w.start w.end c.if-w.true) refl

pub returns-then-w-2 : goal.returns-then-w-2
unfolding holds
returns-then-w-2 c =
    let w = c.args.w in
    rw (ne_eqb w.start w.end c.if-w.false, lt-ltb w.start w.end c.if-w-2.true) refl

pub returns : goal.returns
unfolding holds
returns c =
    let w = c.args.w in
    rw (ne_eqb w.start w.end c.if-w.false, le-ltb w.start w.end c.if-w-2.false) refl
