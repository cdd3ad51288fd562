use mathlib.Core.List.{List}
use mathlib.Core.Path.{◌∙◌, ◌≡◌, refl, sym}
use Prim.Native.Nat.{◌+◌, ◌≤◌}
use native.Mathlib.Omega.{arith}
use lib.ListN.{drop, length, length-set, set, take}
use lib.Seq.{drop-length, drop-set-lt, length-take-le}
use borrow.Author.Rules.{rules}
use Rattle.ledger.specs.Room.{open_places}
use Rattle.ledger.specs.declared.Pending.{Pending}
use Rattle.receiver_message.proofs.SpanLaws.{length_mapped}
use Rattle.receiver_waiting.proofs.WaitingLaws.{joined_at, opened_at, outside-message, over_by}
use Rattle.receiver_waiting.specs.Waiting.{find_key}
use Rattle.receiver_waiting.proofs.join.Goals as goal

pub returns-then-k-n : goal.returns-then-k-n
returns-then-k-n c =
    let a = c.args in
    let w = a.w.now in
    let h : length w.messages ≡ open_places = search (rules, length_mapped) in
    let n = w.count in
    let k = c.find-k.result in
    let l = w.messages in
    let p = c.merged-p.result in
    over_by w (record { messages = set l k p; count = n }) _ (omega (arith, length-set l k p))
    (joined_at a.f a.r l n k p outside-message (omega arith) c.find-k.ensures c.if-k-n.true c.merged-p.ensures)
    (drop-set-lt n l k p c.if-k-n.true)

pub returns : goal.returns
returns c =
    let a = c.args in
    let w = a.w.now in
    let h : length w.messages ≡ open_places = search (rules, length_mapped) in
    let k : w.count ≤ find_key a.f.device_id a.f.counter (take w.count w.messages) = omega (arith, c.find-k.ensures, c.if-k-n.false) in
    let n = w.count in
    let l = w.messages in
    let p = c.opened.result in
    over_by w (record { messages = set l n p; count = n + 1 }) _ (omega (arith, length-set l n p))
    (opened_at a.f a.r l n p (omega arith) k c.opened.ensures) (drop-set-lt (n + 1) l n p (omega arith))
