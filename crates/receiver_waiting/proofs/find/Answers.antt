use mathlib.Core.List.{List}
use mathlib.Core.Path.{◌∙◌, ◌≡◌, refl, sym}
use Prim.Native.Nat.{◌+◌, ◌≤◌}
use native.Mathlib.Omega.{arith}
use lib.ListN.{drop, length, length-set, set, take}
use lib.Seq.{drop-length, drop-set-lt, length-take-le}
use borrow.Author.Rules.{rules}
use Rattle.ledger.specs.Room.{open_places}
use Rattle.ledger.specs.declared.Pending.{Pending}
use Rattle.receiver_message.proofs.SpanLaws.{length_mapped}
use Rattle.receiver_waiting.proofs.WaitingLaws.{find_hit, find_miss, find_none, outside-message}
use Rattle.receiver_waiting.specs.Waiting.{find_key}
use Rattle.receiver_waiting.proofs.find.Goals as goal

pub returns-then-is_of : goal.returns-then-is_of
returns-then-is_of c =
    let a = c.args in
    let l = c.loop-i in
    let ms : List Pending = take a.w.now.count a.w.now.messages in
    let e = find_hit ms l.i a.device_id a.counter outside-message (omega arith) (sym c.is_of.ensures ∙ c.if-is_of.true) in
    omega (arith, e, l.invariant)

pub loop-i-preserved : goal.loop-i-preserved
loop-i-preserved c =
    let a = c.args in
    let l = c.loop-i in
    let ms : List Pending = take a.w.now.count a.w.now.messages in
    let e = find_miss ms l.i a.device_id a.counter outside-message (omega arith) (sym c.is_of.ensures ∙ c.if-is_of.false) in
    omega (arith, e, l.invariant)

pub returns : goal.returns
returns c =
    let a = c.args in
    let l = c.loop-i in
    let h : length a.w.now.messages ≡ open_places = search (rules, length_mapped) in
    let ms : List Pending = take a.w.now.count a.w.now.messages in
    let n : length ms ≡ a.w.now.count = length-take-le a.w.now.count a.w.now.messages (omega arith) in
    let q : l.i ≡ length ms = omega arith in
    let e : find_key a.device_id a.counter (drop l.i ms) ≡ 0 = rw q (find_none ms a.device_id a.counter) in
    omega (arith, e, l.invariant)
