use Rattle.shifts.specs.Shifts.{schedule, mark_by}
use Rattle.receiver.proofs.AddLaws.{addable, added}
use Rattle.receiver.proofs.run.hear.Goals as goal

pub only_adds-requires : goal.only_adds-requires
only_adds-requires c = let a = c.args in addable a.s.now a.dbm.now a.samples.now a.events.now a.scratch.now c.requires

pub add-requires : goal.add-requires
add-requires c = (c.only_adds.ensures c.if-only_adds.true, c.requires.highest, c.requires.places)

pub returns-then-only_adds : goal.returns-then-only_adds
returns-then-only_adds c = let a = c.args in
    added a.s.now a.dbm.now a.samples.now a.events.now a.scratch.now c.requires (c.only_adds.ensures c.if-only_adds.true) (mark_by (schedule a.given.now)) _ _ c.add.ensures
