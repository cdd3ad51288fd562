use mathlib.Core.Path.{◌≡◌, refl, ap₂, ◌∙◌}
use mathlib.Core.Bool.{Bool, true, false}
use Prim.Native.Nat.{ℕ, ◌+◌, ◌*◌}
use native.Mathlib.Omega.{arith}
use mir.Val.{bool_byte}
use Rattle.coding.specs.Bits.{bit_of}
use Rattle.coding.specs.Convolution.{numbered}
use Rattle.coding.proofs.BitLaws.{bit-lt}
use Rattle.bytewise.specs.Answers.{state_is}
use Rattle.bytewise.proofs.Walk.{number_back}
use Rattle.bytewise.proofs.number_of.Goals as goal

bit_is : (b : Bool) → bool_byte b ≡ bit_of b
bit_is true = refl
bit_is false = refl

pub overflow_mul-result : goal.overflow_mul-result
overflow_mul-result c = let a = c.args.s in omega (arith, c.from.ensures, bit_is a.last, bit-lt a.last)

pub overflow_add-result : goal.overflow_add-result
overflow_add-result c =
    let a = c.args.s in
    omega (arith, c.from.ensures, c.from-2.ensures, bit_is a.last, bit_is a.second, bit-lt a.last, bit-lt a.second)

pub returns : goal.returns
returns c =
    let a = c.args.s in
    let e = c.from.ensures ∙ bit_is a.last in
    let f = c.from-2.ensures ∙ bit_is a.second in (
      ap₂ (λ (x y : ℕ). numbered (2 * x + y)) e f ∙ number_back (state_is a),
      omega (arith, e, f, bit-lt a.last, bit-lt a.second),
    )
