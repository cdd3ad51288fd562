use mathlib.Core.Path.{◌≡◌, sym, subst, ap, ◌∙◌}
use Prim.Native.Nat.{ℕ, suc, ◌-◌}
use native.Mathlib.Omega.{arith}
use borrow.Author.Tests.{lt-ltb, le-ltb}
use lib.IntN.{ℤ, pos, negsuc, ◌-ℤ◌}
use mir.Syntax.{w32}
use mir.Val.{SFits, to_z}
use mir.ValLaws.{to_z_pos, to_z-of_z}
use Rattle.frame.specs.Control.{minus}
use Rattle.frame.proofs.ControlLaws.{minus_is}
use Rattle.frame.proofs.control.difference.Goals.{Then-a-b}
use Rattle.frame.proofs.control.difference.Goals as goal

-- what 0 - (b - a) is
is : (c : Then-a-b) → pos 0 -ℤ to_z w32 (c.args.b - c.args.a) ≡ negsuc (c.args.b - suc c.args.a)
is c =
    let a = c.args in
    let e : a.b - a.a ≡ suc (a.b - suc a.a) = omega arith in
    ap (λ (k : ℕ). pos 0 -ℤ to_z w32 k) e ∙ minus_is (a.b - suc a.a) (omega arith)

pub overflow_sub-result-then-a-b : goal.overflow_sub-result-then-a-b
overflow_sub-result-then-a-b c = subst (λ (z : ℤ). SFits w32 z) (sym (is c)) (record { sfits = omega arith })

pub returns-then-a-b : goal.returns-then-a-b
unfolding minus
returns-then-a-b c = let a = c.args in to_z-of_z w32 _ (overflow_sub-result-then-a-b c) ∙ is c ∙ simp (lt-ltb a.a a.b c.if-a-b.true)

pub returns : goal.returns
unfolding minus
returns c = let a = c.args in to_z_pos w32 (a.a - a.b) (omega arith) ∙ simp (le-ltb a.a a.b c.if-a-b.false)
