-- The invariant: the records of the messages looked at stand behind those that were there.
use Rattle.shifts.specs.Shifts.{schedule, mark_by}
use Rattle.receiver_closing.proofs.WrittenLaws.{WrittenAt}
use Rattle.receiver_closing.proofs.write_messages.Given as goal

abbrev pub invariant-loop-p : goal.invariant-loop-p
invariant-loop-p l = WrittenAt (mark_by (schedule l.given)) l.leaving l.p-items l.count l.initial.events l.p-index l.k l.events
