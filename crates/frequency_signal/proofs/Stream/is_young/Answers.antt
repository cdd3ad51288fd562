use Rattle.frequency_signal.proofs.Indices.{young_is}
use Rattle.frequency_signal.specs.Seconds.{young}
use Rattle.frequency_signal.specs.Order.{Index}
use Rattle.std.proofs.Common.{sym, ap, ◌∙◌, subst, arith, Option, None, Some, ℕ}
use Rattle.frequency_signal.proofs.Stream.is_young.Goals as goal

pub overflow_sub-result : goal.overflow_sub-result
overflow_sub-result c =
    subst (λ (z : Option ℕ). Index c.args.self.n z) c.in-Some.is c.requires

pub returns-in-None : goal.returns-in-None
returns-in-None c =
    sym (ap (young c.args.self.rate c.args.self.n) c.in-None.is ∙ young_is c.args.self.rate c.args.self.right c.args.self.n None (omega arith))

pub returns-in-Some : goal.returns-in-Some
returns-in-Some c =
    sym (ap (young c.args.self.rate c.args.self.n) c.in-Some.is ∙ young_is c.args.self.rate c.args.self.right c.args.self.n (Some c.in-Some.s) (omega arith))
