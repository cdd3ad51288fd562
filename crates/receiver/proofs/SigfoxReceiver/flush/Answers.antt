use mathlib.Core.Path.{◌≡◌, ◌∙◌}
use Rattle.limits.specs.Answer.{cause_of}
use Rattle.ledger.specs.Ledger.{flush}
use Rattle.shifts.specs.Shifts.{schedule}
use Rattle.receiver.specs.Calls.{memory, refusal_of}
use Rattle.receiver.specs.Running.{Passes}
use Rattle.receiver.proofs.AnswerLaws.{passes, no_cause, refused_first, refused_later, refused_none, answered_exit, answered_yes}
use Rattle.receiver.proofs.CauseLaws.{view_cause}
use Rattle.receiver.proofs.SigfoxReceiver.flush.Goals.{Start, After-lengths_known, In_ok-check}
use Rattle.receiver.proofs.SigfoxReceiver.flush.Goals as goal

passing : (c : After-lengths_known) → refusal_of c.args.self.now flush (schedule c.args.given.now) (memory c.args.lent.now) ≡ 0 → Passes c.args.self.now flush c.args.lent.now.samples.now c.args.lent.now.events.now c.args.lent.now.scratch64.now
passing c e = passes c.args.self.now flush (memory c.args.lent.now) c.lengths_known.ensures.0 c.lengths_known.ensures.1 (no_cause c.args.self.now flush (schedule c.args.given.now) (memory c.args.lent.now) e)

-- no cause applies
none : (c : In_ok-check) → refusal_of c.args.self.now flush (schedule c.args.given.now) (memory c.args.lent.now) ≡ 0
unfolding cause_of
none c = refused_none c.args.self.now flush (schedule c.args.given.now) (memory c.args.lent.now) (c.in_ok-check_flush.ensures ∙ view_cause c.args.self.now flush c.view.result (memory c.args.lent.now) c.view.ensures) c.in_ok-check.ensures

pub returns-in_err-check_flush-clause-answered : goal.returns-in_err-check_flush-clause-answered
unfolding cause_of
returns-in_err-check_flush-clause-answered c =
    let e = c.in_err-check_flush.field-0.0 in
    answered_exit c.args.self.now flush (schedule c.args.given.now) (memory c.args.lent.now) c.from_residual.result e c.from_residual.ensures.1
    (refused_first c.args.self.now flush (schedule c.args.given.now) (memory c.args.lent.now) e (c.in_err-check_flush.ensures ∙ view_cause c.args.self.now flush c.view.result (memory c.args.lent.now) c.view.ensures))

pub returns-in_err-check-clause-answered : goal.returns-in_err-check-clause-answered
unfolding cause_of
returns-in_err-check-clause-answered c =
    let e = c.in_err-check.field-0.0 in
    answered_exit c.args.self.now flush (schedule c.args.given.now) (memory c.args.lent.now) c.from_residual-in_err-check.result e c.from_residual-in_err-check.ensures.1
    (refused_later c.args.self.now flush (schedule c.args.given.now) (memory c.args.lent.now) e (c.in_ok-check_flush.ensures ∙ view_cause c.args.self.now flush c.view.result (memory c.args.lent.now) c.view.ensures) c.in_err-check.ensures)

pub hear_all-requires : goal.hear_all-requires
hear_all-requires c =
    let d = goal.at.hear_all-requires c in
    passing d.After-lengths_known (none d.In_ok-check)

pub returns-clause-answered : goal.returns-clause-answered
returns-clause-answered c =
    let d = goal.at.returns-clause-answered c in
    answered_yes c.args.self.now flush (schedule c.args.given.now) (memory c.args.lent.now) _ _ (none d.In_ok-check) c.hear_all.ensures
