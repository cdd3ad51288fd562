use Rattle.frequency_signal.proofs.Indices.{late-never, late_at}
use Rattle.frequency_signal.specs.Seconds.{late}
use Rattle.frequency_signal.specs.Order.{Index}
use Rattle.limits.specs.Limits.{longest_stream}
use Rattle.std.proofs.Common.{◌≤◌, sym, ap, ◌∙◌, subst, arith, Option, ℕ}
use Rattle.frequency_signal.proofs.Pace.is_late.Goals as goal

pub overflow_mul-result-in-Some : goal.overflow_mul-result-in-Some
overflow_mul-result-in-Some c =
    let h : c.in-Some.s ≤ longest_stream = subst (λ (z : Option ℕ). Index longest_stream z) c.in-Some.is c.requires.0 in
    record { fits = omega arith }

pub overflow_add-result-in-Some : goal.overflow_add-result-in-Some
overflow_add-result-in-Some c =
    let h : c.in-Some.s ≤ longest_stream = subst (λ (z : Option ℕ). Index longest_stream z) c.in-Some.is c.requires.0 in
    let r = c.args.self.right.1 in
    record { fits = omega arith }

pub returns-in-None : goal.returns-in-None
returns-in-None c =
    let a = c.args in
    sym (ap (λ (z : Option ℕ). late a.self.rate z a.at) c.in-None.is ∙ late-never a.self.rate c.args.self.right a.at c.requires.1)

pub returns-in-Some : goal.returns-in-Some
returns-in-Some c =
    let h : c.in-Some.s ≤ longest_stream = subst (λ (z : Option ℕ). Index longest_stream z) c.in-Some.is c.requires.0 in
    let a = c.args in
    sym (ap (λ (z : Option ℕ). late a.self.rate z a.at) c.in-Some.is ∙ late_at a.self.rate c.args.self.right c.in-Some.s a.at h c.requires.1)
