use mathlib.Core.Path.{◌∙◌, ◌≡◌, refl, sym}
use Prim.Native.Nat.{ℕ, ◌*◌, ◌-◌}
use native.Mathlib.Nat.{zero-add}
use native.Mathlib.Omega.{arith}
use borrow.Author.Tests.{eq-eqb, ne_eqb}
use Rattle.ledger.specs.Ledger.{capacity, half}
use Rattle.receiver_samples.specs.Buffer.{left_held, left_places}
use Rattle.receiver_samples.proofs.halve.Goals as goal

pub returns-then-held-capacity : goal.returns-then-held-capacity
unfolding left_held left_places
returns-then-held-capacity c = let e : c.args.held ≡ capacity c.args.rate = c.if-held-capacity.true ∙ c.capacity.ensures in
    let n : ℕ = half c.args.rate in
    let m : 2 * n - n ≡ n = omega arith in
    rw (eq-eqb c.args.held (capacity c.args.rate) e) (refl, c.copy_within.ensures.after ∙ rw (m, zero-add) refl)

pub returns : goal.returns
unfolding left_held left_places
returns c = let a = c.args in
    rw (ne_eqb a.held (capacity a.rate) (λ e. c.if-held-capacity.false (e ∙ sym c.capacity.ensures))) (refl, refl)
