use Rattle.std.proofs.Common.{ℕ, ◌+◌, ◌-◌, sym, ap, ◌∙◌, arith}
use lib.Ieee.{lt}
use Rattle.floats.proofs.Trigs.{zero_is}
use Rattle.clock.specs.Numbers.{farthest_bit}
use Rattle.clock.proofs.ClockLaws.{size_small, place-below, place-above}
use Rattle.clock.proofs.BitIndex.place.Goals as goal

pub overflow_sub-result : goal.overflow_sub-result
overflow_sub-result c = omega (arith, size_small c.args.self.k c.args.self.kept, c.size_of-size.ensures)

pub overflow_add-result : goal.overflow_add-result
overflow_add-result c = omega (arith, size_small c.args.self.k c.args.self.kept, c.size_of-size.ensures)

pub returns-then-self : goal.returns-then-self
returns-then-self c =
    let k = c.args.self.k in
    (ap (λ (n : ℕ). farthest_bit - n) c.size_of-size.ensures ∙ place-below k (sym (ap (lt k) zero_is) ∙ c.if-self.true), omega arith)

pub returns-else-self : goal.returns-else-self
returns-else-self c =
    let k = c.args.self.k in (
      ap (λ (n : ℕ). farthest_bit + n) c.size_of-size.ensures ∙ place-above k (sym (ap (lt k) zero_is) ∙ c.if-self.false),
      omega (arith, size_small k c.args.self.kept, c.size_of-size.ensures),
    )
