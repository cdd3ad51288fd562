use mathlib.Core.List.{List}
use mathlib.Core.Path.{◌∙◌, ◌≡◌, refl, sym}
use Prim.Native.Nat.{◌+◌, ◌≤◌}
use native.Mathlib.Omega.{arith}
use lib.ListN.{drop, length, length-set, set, take}
use lib.Seq.{drop-length, drop-set-lt, length-take-le}
use borrow.Author.Rules.{rules}
use Rattle.ledger.specs.Room.{open_places}
use Rattle.ledger.specs.declared.Pending.{Pending}
use Rattle.receiver_message.proofs.SpanLaws.{length_mapped}
use Rattle.receiver_waiting.proofs.WaitingLaws.{keep_all, keep-leaves, keep_none, keep-stays, outside-message}
use Rattle.receiver_waiting.specs.Waiting.{leaves}
use Rattle.receiver_waiting.proofs.keep.Goals as goal

pub loop-p-init : goal.loop-p-init
loop-p-init c =
    let a = c.args in
    (omega arith, keep_none (leaves a.leaving) (take a.w.now.count a.w.now.messages) a.old.now.messages)

pub loop-p-preserved : goal.loop-p-preserved
loop-p-preserved c =
    let a = c.args in
    let l = c.loop-p in
    let ms : List Pending = take a.w.now.count a.w.now.messages in
    let h : length a.w.now.messages ≡ open_places = search (rules, length_mapped, c.well_formed) in
    let g : length a.old.now.messages ≡ open_places = search (rules, length_mapped, c.well_formed) in
    let n : length ms ≡ a.w.now.count = length-take-le a.w.now.count a.w.now.messages (omega arith) in
    (omega arith, keep-stays (leaves a.leaving) ms a.old.now.messages l.old.messages l.p-index l.k outside-message (omega arith) l.invariant.1 (omega arith) (sym c.leaves.ensures ∙ c.if-leaves.false))

pub loop-p-preserved-then-leaves : goal.loop-p-preserved-then-leaves
loop-p-preserved-then-leaves c =
    let a = c.args in
    let l = c.loop-p in
    let ms : List Pending = take a.w.now.count a.w.now.messages in
    (omega arith, keep-leaves (leaves a.leaving) ms a.old.now.messages l.old.messages l.p-index l.k outside-message (omega arith) l.invariant.1 (sym c.leaves.ensures ∙ c.if-leaves.true))

pub returns : goal.returns
returns c =
    let a = c.args in
    let l = c.loop-p in
    let ms : List Pending = take a.w.now.count a.w.now.messages in
    keep_all (leaves a.leaving) ms a.old.now l.old.messages l.p-index l.k (omega arith) l.invariant.1
