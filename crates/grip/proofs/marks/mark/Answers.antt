use mathlib.Core.Path.{ap}
use Prim.Native.Nat.{ℕ, ◌/◌, ◌%◌}
use native.Mathlib.Omega.{arith}
use lib.Bits.{bit_or}
use lib.ListN.{get_or, set}
use Rattle.grip.proofs.MarkLaws.{power_fits}
use Rattle.grip.proofs.marks.mark.Goals as goal

pub returns-then-on : goal.returns-then-on
returns-then-on c =
    let a = c.args in
    rw c.if-on.true (ap (λ (b : ℕ). set a.marks.now (a.i / 8) (bit_or (get_or a.marks.now (a.i / 8) 0) b)) (power_fits (a.i % 8) (omega arith)))
