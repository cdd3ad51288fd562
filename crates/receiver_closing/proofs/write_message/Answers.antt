use mathlib.Core.Path.{◌∙◌, ◌≡◌, refl, sym}
use Prim.Native.Nat.{◌*◌, ◌+◌, ◌≤◌}
use native.Mathlib.Omega.{arith}
use lib.ListN.{length}
use borrow.Author.Rules.{rules}
use Rattle.limits.specs.Limits.{record_size}
use Rattle.record.specs.Record.{message_record}
use Rattle.ledger.specs.Merge.{finished}
use Rattle.shifts.specs.Shifts.{schedule, mark_by}
use Rattle.receiver_closing.proofs.WrittenLaws.{finished-size}
use Rattle.receiver_closing.proofs.write_message.Goals.{Start}
use Rattle.receiver_closing.proofs.write_message.Goals as goal

sized : (c : Start) → length (message_record (mark_by (schedule c.args.given.now) (finished c.args.p).time) (finished c.args.p)) ≡ record_size
sized c = finished-size _ c.args.p (search rules) (search rules)

pub overflow_mul-count : goal.overflow_mul-count
overflow_mul-count c =
    let h : record_size * (c.args.count + 1) ≤ length c.args.events.now = c.requires (sym c.leaves.ensures ∙ c.if-leaves.true) in
    omega arith

pub put_message-requires : goal.put_message-requires
put_message-requires c =
    let h : record_size * (c.args.count + 1) ≤ length c.args.events.now = c.requires (sym c.leaves.ensures ∙ c.if-leaves.true) in
    omega arith

pub overflow_add-result : goal.overflow_add-result
overflow_add-result c =
    let h : record_size * (c.args.count + 1) ≤ length c.args.events.now =
    c.requires (sym c.leaves.ensures ∙ c.if-leaves.true) in
    omega arith

pub returns-then-leaves : goal.returns-then-leaves
returns-then-leaves c =
    let e = sym c.leaves.ensures ∙ c.if-leaves.true in
    (rw e refl, rw (e, ← c.finished-m.ensures, ← c.mark-mark.ensures) c.put_message.ensures, sized (goal.at.returns-then-leaves c).Start)

pub returns : goal.returns
returns c =
    let e = sym c.leaves.ensures ∙ c.if-leaves.false in
    (rw e refl, rw e refl, sized (goal.at.returns c).Start)
