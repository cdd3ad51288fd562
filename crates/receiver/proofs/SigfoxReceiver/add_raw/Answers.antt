use mathlib.Core.List.{map}
use mathlib.Core.Path.{◌≡◌}
use Prim.Native.Nat.{◌≤◌}
use native.Mathlib.Omega.{arith}
use lib.ListN.{length, length-map, take}
use Rattle.ledger.specs.Ledger.{push_raw, dbm_of}
use Rattle.shifts.specs.Shifts.{schedule, mark_by}
use Rattle.receiver.specs.Calls.{memory}
use Rattle.receiver.specs.Running.{Passes, Adds}
use Rattle.receiver.proofs.AddLaws.{added}
use Rattle.receiver.proofs.AnswerLaws.{passes, no_cause, scratch-long, answered_yes, raw-taken, raw-fits}
use Rattle.receiver.proofs.SigfoxReceiver.add_raw.Goals.{After-dbm_of_all, After-lengths_known, Start}
use Rattle.receiver.proofs.SigfoxReceiver.add_raw.Goals as goal

passing : (c : After-lengths_known) → Passes c.args.self.now (push_raw c.args.raw.now) c.args.lent.now.samples.now c.args.lent.now.events.now c.args.lent.now.scratch64.now
passing c = passes c.args.self.now (push_raw c.args.raw.now) (memory c.args.lent.now) c.lengths_known.ensures.0 c.lengths_known.ensures.1 (no_cause c.args.self.now (push_raw c.args.raw.now) (schedule c.args.given.now) (memory c.args.lent.now) c.requires.accepted)

adding : (c : Start) → Adds c.args.self.now (length (map dbm_of c.args.raw.now))
adding c = rw (length-map c.args.raw.now dbm_of) c.requires.adds

-- the bytes' samples have room
narrow : (c : After-lengths_known) → length c.args.raw.now ≤ length c.args.lent.now.scratch32.now
narrow c =
    let a = c.args in
    let s = a.self.now in
    let p = raw-fits s a.raw.now a.lent.now.samples.now a.lent.now.events.now a.lent.now.scratch64.now (passing c) in
    let q = scratch-long s (push_raw a.raw.now) (memory c.args.lent.now) c.lengths_known.ensures.0 c.lengths_known.ensures.1 (no_cause s (push_raw a.raw.now) (schedule c.args.given.now) (memory c.args.lent.now) c.requires.accepted) in
    omega arith

taken : (d : After-dbm_of_all) → take (length d.args.raw.now) d.dbm_of_all.new.dbm ≡ map dbm_of d.args.raw.now
taken d = raw-taken d.args.raw.now d.args.lent.now.scratch32.now d.dbm_of_all.new.dbm d.dbm_of_all.ensures

pub dbm_of_all-requires : goal.dbm_of_all-requires
dbm_of_all-requires c = narrow (goal.at.dbm_of_all-requires c).After-lengths_known

pub add-requires : goal.add-requires
add-requires c =
    let d = goal.at.add-requires c in
    let p = passing d.After-lengths_known in
    rw (taken d.After-dbm_of_all) (adding d.Start, p.highest, p.places)

pub returns-clause-answered : goal.returns-clause-answered
returns-clause-answered c =
    let a = c.args in
    let d = goal.at.returns-clause-answered c in
    answered_yes a.self.now (push_raw a.raw.now) (schedule c.args.given.now) (memory c.args.lent.now) _ _ c.requires.accepted
    (added a.self.now (map dbm_of a.raw.now) a.lent.now.samples.now a.lent.now.events.now a.lent.now.scratch64.now (passing d.After-lengths_known) (adding d.Start) (mark_by (schedule c.args.given.now)) _ _ (rw (taken d.After-dbm_of_all) at c.add.ensures))
