use mathlib.Core.Path.{refl, sym, ◌∙◌}
use Rattle.shifts.specs.Shifts.{mark_at}
use Rattle.shifts.proofs.Given.mark_at.Goals as goal

pub returns-then-is_among : goal.returns-then-is_among
unfolding mark_at
returns-then-is_among c = rw (sym c.is_among.ensures ∙ c.if-is_among.true) refl

pub returns-then-any_holds : goal.returns-then-any_holds
unfolding mark_at
returns-then-any_holds c =
    rw (sym c.is_among.ensures ∙ c.if-is_among.false, sym c.any_holds.ensures ∙ c.if-any_holds.true) refl

pub returns : goal.returns
unfolding mark_at
returns c =
    rw (sym c.is_among.ensures ∙ c.if-is_among.false, sym c.any_holds.ensures ∙ c.if-any_holds.false) refl
