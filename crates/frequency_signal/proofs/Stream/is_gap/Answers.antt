use Rattle.frequency_signal.proofs.Indices.{gap-never, gap_at}
use Rattle.frequency_signal.specs.Seconds.{gap}
use Rattle.frequency_signal.specs.Order.{Index}
use Rattle.std.proofs.Common.{sym, ap, ◌∙◌, subst, arith, Option, ℕ}
use Rattle.frequency_signal.proofs.Stream.is_gap.Goals as goal

pub overflow_sub-result : goal.overflow_sub-result
overflow_sub-result c =
    subst (λ (z : Option ℕ). Index c.args.self.n z) c.in-Some.is c.requires

pub returns-in-None : goal.returns-in-None
returns-in-None c =
    sym (ap (gap c.args.self.rate c.args.self.n) c.in-None.is ∙ gap-never c.args.self.rate c.args.self.right c.args.self.n)

pub returns-in-Some : goal.returns-in-Some
returns-in-Some c =
    sym (ap (gap c.args.self.rate c.args.self.n) c.in-Some.is ∙ gap_at c.args.self.rate c.args.self.right c.args.self.n c.in-Some.s (omega arith))
