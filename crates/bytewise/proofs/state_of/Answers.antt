use mathlib.Core.Path.{◌≡◌, ap}
use Prim.Native.Nat.{ℕ, ◌/◌, ◌%◌}
use native.Mathlib.Omega.{arith}
use lib.Dec.{eqb}
use Rattle.coding.specs.Bits.{odd}
use Rattle.bytewise.proofs.state_of.Goals as goal

pub returns : goal.returns
returns c =
    let n = c.args.n in
    ap (λ (x : ℕ). record { last = odd (n / 2); second = eqb x 1 }) (let e : n % 2 ≡ n % 2 % 2 = omega arith in e)
