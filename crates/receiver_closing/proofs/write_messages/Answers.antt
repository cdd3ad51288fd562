use mathlib.Core.List.{List}
use mathlib.Core.Path.{◌≡◌}
use native.Mathlib.Omega.{arith}
use lib.ListN.{length, take}
use Rattle.shifts.specs.Shifts.{schedule, mark_by}
use Rattle.ledger.specs.declared.Pending.{Pending}
use Rattle.receiver_waiting.proofs.WaitingLaws.{outside-message}
use Rattle.receiver_closing.proofs.WrittenLaws.{written_start, written-room, written-turn, written_all}
use Rattle.receiver_closing.proofs.write_messages.Goals as goal

pub loop-p-init : goal.loop-p-init
loop-p-init c =
    let a = c.args in
    written_start (mark_by (schedule a.given.now)) a.leaving (take a.w.now.count a.w.now.messages) a.count a.events.now

pub write_message-k-requires : goal.write_message-k-requires
write_message-k-requires c =
    let a = c.args in
    let l = c.loop-p in
    written-room (mark_by (schedule a.given.now)) a.leaving (take a.w.now.count a.w.now.messages) a.count a.events.now l.p-index l.k l.events l.invariant outside-message (omega arith) c.requires.1

pub loop-p-preserved : goal.loop-p-preserved
loop-p-preserved c =
    let a = c.args in
    let l = c.loop-p in
    let w = c.write_message-k in
    written-turn (mark_by (schedule a.given.now)) a.leaving (take a.w.now.count a.w.now.messages) a.count a.events.now l.p-index l.k l.events l.invariant outside-message (omega arith) w.result _ w.ensures.2 w.ensures.0 w.ensures.1

pub returns : goal.returns
returns c =
    let a = c.args in
    let l = c.loop-p in
    written_all (mark_by (schedule a.given.now)) a.leaving (take a.w.now.count a.w.now.messages) a.count a.events.now l.p-index l.k l.events l.invariant (omega arith)
