use mathlib.Core.Path.{◌≡◌, refl}
use Prim.Native.Nat.{ℕ, ◌+◌}
use native.Mathlib.Omega.{arith}
use Rattle.grip.proofs.spans.note.Goals as goal

none : (n : ℕ) → n ≡ n + 0
none n = omega arith

pub returns-then-marked : goal.returns-then-marked
returns-then-marked c = rw c.if-marked.true (refl, refl)

pub returns : goal.returns
returns c = rw c.if-marked.false (none c.args.n, refl)
