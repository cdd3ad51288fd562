use mathlib.Core.Path.{◌≡◌, sym, subst, ap, ◌∙◌}
use Prim.Native.Nat.{ℕ, suc, ◌-◌, ◌/◌}
use native.Mathlib.Omega.{arith}
use borrow.Author.Tests.{lt-ltb, le-ltb}
use lib.IntN.{ℤ, pos, negsuc, ◌-ℤ◌}
use mir.Syntax.{w32}
use mir.Val.{SFits, to_z}
use mir.ValLaws.{to_z_pos, to_z-of_z}
use Rattle.frame.specs.Control.{signed_below}
use Rattle.frame.proofs.ControlLaws.{minus_is}
use Rattle.frame.proofs.control.signed_below.Goals.{Else-n-m}
use Rattle.frame.proofs.control.signed_below.Goals as goal

-- what 0 - (m - n) is
is : (c : Else-n-m) → pos 0 -ℤ to_z w32 (c.args.m - c.args.n) ≡ negsuc (c.args.m - suc c.args.n)
is c =
    let a = c.args in
    let e : a.m - a.n ≡ suc (a.m - suc a.n) = omega arith in
    ap (λ (k : ℕ). pos 0 -ℤ to_z w32 k) e ∙ minus_is (a.m - suc a.n) (omega arith)

pub returns-then-n-m : goal.returns-then-n-m
unfolding signed_below
returns-then-n-m c = let a = c.args in to_z_pos w32 a.n (omega arith) ∙ simp (lt-ltb a.n (a.m / 2) c.if-n-m.true)

pub overflow_sub-result-2 : goal.overflow_sub-result-2
overflow_sub-result-2 c = subst (λ (z : ℤ). SFits w32 z) (sym (is c)) (record { sfits = omega arith })

pub returns : goal.returns
unfolding signed_below
returns c = let a = c.args in to_z-of_z w32 _ (overflow_sub-result-2 c) ∙ is c ∙ simp (le-ltb a.n (a.m / 2) c.if-n-m.false)
