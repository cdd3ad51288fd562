use borrow.Author.Tests.{eq-eqb, ne_eqb}
use native.Mathlib.Omega.{arith}
use Rattle.std.proofs.Common.{◌≢◌, refl}
use Rattle.cfo.specs.Cfo.{mantissa}
use Rattle.cfo.proofs.mant.Goals as goal

pub returns-in-0 : goal.returns-in-0
unfolding mantissa
returns-in-0 c = simp (eq-eqb _ _ c.in-0.is)

pub returns-in-1 : goal.returns-in-1
unfolding mantissa
returns-in-1 c = rw c.in-1.is

pub returns-in-2 : goal.returns-in-2
unfolding mantissa
returns-in-2 c = rw c.in-2.is

pub returns-in_default : goal.returns-in_default
unfolding mantissa
returns-in_default c =
    let k = c.args.code in
    let n0 : k ≢ 0 = omega arith in
    let n1 : k ≢ 1 = omega arith in
    let n2 : k ≢ 2 = omega arith in
    rw (ne_eqb _ _ n0, ne_eqb _ _ n1, ne_eqb _ _ n2) refl
