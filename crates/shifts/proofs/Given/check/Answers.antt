use mathlib.Core.Path.{refl, sym, ◌∙◌}
use Rattle.limits.specs.Answer.{cause_of}
use Rattle.shifts.specs.Shifts.{shifts_cause}
use Rattle.shifts.proofs.Given.check.Goals as goal

pub returns-then-is_ok : goal.returns-then-is_ok
unfolding shifts_cause cause_of
returns-then-is_ok c = rw (sym c.is_ok.ensures ∙ c.if-is_ok.true) refl

pub returns : goal.returns
unfolding shifts_cause cause_of
returns c = rw (sym c.is_ok.ensures ∙ c.if-is_ok.false) refl
