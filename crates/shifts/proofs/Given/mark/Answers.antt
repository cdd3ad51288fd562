use mathlib.Core.Path.{refl, sym, ◌∙◌}
use Rattle.shifts.specs.Shifts.{mark_from}
use Rattle.shifts.proofs.Times.{given-mark}
use Rattle.shifts.proofs.Given.mark.Goals as goal

pub returns-in_default : goal.returns-in_default
unfolding mark_from
returns-in_default c = rw c.in_default.is refl

pub returns-then-not-in_range : goal.returns-then-not-in_range
unfolding mark_from
returns-then-not-in_range c = rw (c.in-Some.is, sym c.in_range.ensures ∙ c.if-not-in_range.true) refl

pub whole_second-t-requires : goal.whole_second-t-requires
whole_second-t-requires c = sym c.in_range.ensures ∙ c.if-not-in_range.false

pub returns : goal.returns
returns c =
    let a = c.args in
    c.mark_at.ensures
    ∙ given-mark a.self.now.shifts.start _ a.self.now.shifts a.self.now.closed.now a.time c.whole_second-t.result c.in-Some.is
    (sym c.in_range.ensures ∙ c.if-not-in_range.false) c.whole_second-t.ensures.0
