-- A test as a number, as std's conversions of a `bool` give it. Assumes nothing.
use mathlib.Core.Path.{◌≡◌, refl}
use mathlib.Core.Bool.{Bool, true, false, cond}
use Prim.Native.Nat.{◌<◌}
use native.Mathlib.Omega.{arith}
use mir.Val.{bool_byte}

pub one_is : (b : Bool) → bool_byte b ≡ cond b 1 0
one_is true = refl
one_is false = refl

pub one-lt : (b : Bool) → bool_byte b < 2
one-lt true = omega arith
one-lt false = omega arith
