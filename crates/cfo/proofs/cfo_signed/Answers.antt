use borrow.Author.Tests.{lt-ltb, le-ltb}
use native.Mathlib.Omega.{arith}
use mathlib.Core.Path.{◌≡◌, sym, subst, ap, ◌∙◌}
use Prim.Native.Nat.{ℕ, suc, ◌-◌, ◌%◌}
use lib.IntN.{ℤ, pos, negsuc, ◌-ℤ◌}
use mir.Syntax.{w32}
use mir.Val.{SFits, to_z}
use mir.ValLaws.{to_z_pos, to_z-of_z}
use Rattle.cfo.specs.Cfo.{signed}
use Rattle.cfo.proofs.Signs.{minus_is}
use Rattle.cfo.proofs.cfo_signed.Goals.{Else-w-lt-SIGN}
use Rattle.cfo.proofs.cfo_signed.Goals as goal

pub returns-then-w-lt-SIGN : goal.returns-then-w-lt-SIGN
unfolding signed
returns-then-w-lt-SIGN c =
    let w = c.args.v % 4096 in
    to_z_pos w32 w (omega arith) ∙ simp (lt-ltb w 2048 c.if-w-lt-SIGN.true)

-- what 0 - (4096 - w) is
is : (c : Else-w-lt-SIGN) → pos 0 -ℤ to_z w32 (4096 - c.args.v % 4096) ≡ negsuc (4095 - c.args.v % 4096)
is c =
    let w = c.args.v % 4096 in
    let e : 4096 - w ≡ suc (4095 - w) = omega arith in
    ap (λ (n : ℕ). pos 0 -ℤ to_z w32 n) e ∙ minus_is (4095 - w) (omega arith)

pub overflow_sub-result-2 : goal.overflow_sub-result-2
overflow_sub-result-2 c = subst (λ (z : ℤ). SFits w32 z) (sym (is c)) (record { sfits = omega arith })

pub returns : goal.returns
unfolding signed
returns c =
    let w = c.args.v % 4096 in
    to_z-of_z w32 _ (overflow_sub-result-2 c) ∙ is c ∙ simp (le-ltb w 2048 c.if-w-lt-SIGN.false)
