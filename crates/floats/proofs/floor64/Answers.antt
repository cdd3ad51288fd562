-- std's floor is 01's: of a negative magnitude a / c it takes (a + c - 1) / c, and c is not 0.
use Rattle.std.proofs.Common.{◌≡◌, ℕ, ◌+◌, ◌-◌, ◌*◌, ◌/◌, ◌<◌, true, false, refl, ap, arith}
use lib.Ieee.{Float, nan, inf, fin, binary64, up, down, round}
use lib.Ieee.Fits.{down_pos}
use Rattle.std.specs.Float as Std
use Rattle.floats.specs.Floor.{floor}
use Rattle.floats.proofs.floor64.Goals as goal

above : (a c : ℕ) → 0 < c → a + c - 1 ≡ a + (c - 1)
above a c h = omega arith

floor_is : (x : Float) → Std.round_with Std.ratio_floor Std.ratio_ceil binary64 x ≡ floor x
unfolding Std.round_with floor
floor_is nan = refl
floor_is (inf s) = refl
floor_is (fin false m e) = refl
floor_is (fin true m e) = ap (λ (n : ℕ). round binary64 true (n / down e) 1) (above (m * up e) (down e) (down_pos e))

pub returns : goal.returns
returns c = cc (floor_is c.args.x)
