use Rattle.frequency.proofs.Settled.{step-asked, step-quiet, step_waits, step_stays}
use mathlib.Core.Path.{sym, ◌∙◌}
use Rattle.frequency.proofs.step_of.Goals as goal

pub returns-in_default : goal.returns-in_default
returns-in_default c = let a = c.args in sym (step-asked a.t.now a.held.now _ c.in_default.is)

pub returns-then-is_quiet : goal.returns-then-is_quiet
returns-then-is_quiet c =
    let a = c.args in sym (step-quiet a.t.now a.held.now c.in-None.is (sym c.is_quiet.ensures ∙ c.if-is_quiet.true))

pub returns-then-is_waiting : goal.returns-then-is_waiting
returns-then-is_waiting c =
    let a = c.args in c.settled_step.ensures ∙ sym (step_waits a.t.now a.held.now c.in-None.is (sym c.is_quiet.ensures ∙ c.if-is_quiet.false) (sym c.is_waiting.ensures ∙ c.if-is_waiting.true))

pub returns : goal.returns
returns c =
    let a = c.args in sym (step_stays a.t.now a.held.now c.in-None.is (sym c.is_quiet.ensures ∙ c.if-is_quiet.false) (sym c.is_waiting.ensures ∙ c.if-is_waiting.false))
