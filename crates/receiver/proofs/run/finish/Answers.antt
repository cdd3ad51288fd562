use Rattle.receiver_closing.proofs.WrittenLaws.{records-behind}
use Rattle.shifts.specs.Shifts.{schedule, mark_by}
use Rattle.receiver.proofs.RunLaws.{ended}
use Rattle.receiver.proofs.run.finish.Goals as goal

pub write_messages-written-requires : goal.write_messages-written-requires
write_messages-written-requires c = (c.requires.waiting, c.requires.room)

pub returns : goal.returns
returns c k l old e u =
    let a = c.args in
    let w = c.write_messages-written in
    let x = w.ensures in
    ended a.s.now l old a.held a.base a.unscanned a.t.now a.events.now u (mark_by (schedule a.given.now)) k a.leaving e w.result _
    (λ rs was z q b. records-behind rs _ was a.events.now _ a.t.now.count w.result z x.2 q b c.requires.room x.0 x.1) c.over.new.old c.keep.new.old c.over.ensures c.keep.ensures
