use mathlib.Core.List.{map}
use mathlib.Core.Path.{◌≡◌, ◌∙◌}
use Prim.Native.Nat.{◌≤◌}
use native.Mathlib.Omega.{arith}
use lib.ListN.{length, take}
use Rattle.limits.specs.Answer.{cause_of}
use Rattle.ledger.specs.Ledger.{push_raw, dbm_of}
use Rattle.shifts.specs.Shifts.{schedule}
use Rattle.receiver.specs.Calls.{memory, refusal_of}
use Rattle.receiver.specs.Running.{Passes}
use Rattle.receiver.proofs.AnswerLaws.{passes, no_cause, refused_first, refused_later, refused_none, answered_exit, answered_yes, scratch-long, raw-taken, raw-fits}
use Rattle.receiver.proofs.CauseLaws.{view_cause}
use Rattle.receiver.proofs.SigfoxReceiver.push_raw.Goals.{Start, After-lengths_known, In_ok-check, After-dbm_of_all}
use Rattle.receiver.proofs.SigfoxReceiver.push_raw.Goals as goal

passing : (c : After-lengths_known) → refusal_of c.args.self.now (push_raw c.args.raw.now) (schedule c.args.given.now) (memory c.args.lent.now) ≡ 0 → Passes c.args.self.now (push_raw c.args.raw.now) c.args.lent.now.samples.now c.args.lent.now.events.now c.args.lent.now.scratch64.now
passing c e = passes c.args.self.now (push_raw c.args.raw.now) (memory c.args.lent.now) c.lengths_known.ensures.0 c.lengths_known.ensures.1 (no_cause c.args.self.now (push_raw c.args.raw.now) (schedule c.args.given.now) (memory c.args.lent.now) e)

-- no cause applies
none : (c : In_ok-check) → refusal_of c.args.self.now (push_raw c.args.raw.now) (schedule c.args.given.now) (memory c.args.lent.now) ≡ 0
unfolding cause_of
none c = refused_none c.args.self.now (push_raw c.args.raw.now) (schedule c.args.given.now) (memory c.args.lent.now) (c.in_ok-check_push_raw.ensures ∙ view_cause c.args.self.now (push_raw c.args.raw.now) c.view.result (memory c.args.lent.now) c.view.ensures) c.in_ok-check.ensures

pub returns-in_err-check_push_raw-clause-answered : goal.returns-in_err-check_push_raw-clause-answered
unfolding cause_of
returns-in_err-check_push_raw-clause-answered c =
    let e = c.in_err-check_push_raw.field-0.0 in
    answered_exit c.args.self.now (push_raw c.args.raw.now) (schedule c.args.given.now) (memory c.args.lent.now) c.from_residual.result e c.from_residual.ensures.1
    (refused_first c.args.self.now (push_raw c.args.raw.now) (schedule c.args.given.now) (memory c.args.lent.now) e (c.in_err-check_push_raw.ensures ∙ view_cause c.args.self.now (push_raw c.args.raw.now) c.view.result (memory c.args.lent.now) c.view.ensures))

pub returns-in_err-check-clause-answered : goal.returns-in_err-check-clause-answered
unfolding cause_of
returns-in_err-check-clause-answered c =
    let e = c.in_err-check.field-0.0 in
    answered_exit c.args.self.now (push_raw c.args.raw.now) (schedule c.args.given.now) (memory c.args.lent.now) c.from_residual-in_err-check.result e c.from_residual-in_err-check.ensures.1
    (refused_later c.args.self.now (push_raw c.args.raw.now) (schedule c.args.given.now) (memory c.args.lent.now) e (c.in_ok-check_push_raw.ensures ∙ view_cause c.args.self.now (push_raw c.args.raw.now) c.view.result (memory c.args.lent.now) c.view.ensures) c.in_err-check.ensures)

-- the bytes' samples have room
narrow : (c : After-lengths_known) → refusal_of c.args.self.now (push_raw c.args.raw.now) (schedule c.args.given.now) (memory c.args.lent.now) ≡ 0 → length c.args.raw.now ≤ length c.args.lent.now.scratch32.now
narrow c e =
    let a = c.args in
    let s = a.self.now in
    let p = raw-fits s a.raw.now a.lent.now.samples.now a.lent.now.events.now a.lent.now.scratch64.now (passing c e) in
    let q = scratch-long s (push_raw a.raw.now) (memory c.args.lent.now) c.lengths_known.ensures.0 c.lengths_known.ensures.1 (no_cause s (push_raw a.raw.now) (schedule c.args.given.now) (memory c.args.lent.now) e) in
    omega arith

taken : (d : After-dbm_of_all) → take (length d.args.raw.now) d.dbm_of_all.new.dbm ≡ map dbm_of d.args.raw.now
taken d = raw-taken d.args.raw.now d.args.lent.now.scratch32.now d.dbm_of_all.new.dbm d.dbm_of_all.ensures

pub dbm_of_all-requires : goal.dbm_of_all-requires
dbm_of_all-requires c =
    let d = goal.at.dbm_of_all-requires c in
    narrow d.After-lengths_known (none d.In_ok-check)

pub hear-requires : goal.hear-requires
hear-requires c =
    let d = goal.at.hear-requires c in
    rw (taken d.After-dbm_of_all) (passing d.After-lengths_known (none d.In_ok-check))

pub returns-clause-answered : goal.returns-clause-answered
returns-clause-answered c =
    let d = goal.at.returns-clause-answered c in
    answered_yes c.args.self.now (push_raw c.args.raw.now) (schedule c.args.given.now) (memory c.args.lent.now) _ _ (none d.In_ok-check) (rw (taken d.After-dbm_of_all) at c.hear.ensures)
