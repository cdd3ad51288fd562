use mathlib.Core.List.{List}
use mathlib.Core.Path.{◌∙◌, ◌≡◌, refl, sym}
use Prim.Native.Nat.{◌+◌, ◌≤◌}
use native.Mathlib.Omega.{arith}
use lib.ListN.{drop, length, length-set, set, take}
use lib.Seq.{drop-length, drop-set-lt, length-take-le}
use borrow.Author.Rules.{rules}
use Rattle.ledger.specs.Room.{open_places}
use Rattle.ledger.specs.declared.Pending.{Pending}
use Rattle.receiver_message.proofs.SpanLaws.{length_mapped}
use Rattle.receiver_waiting.proofs.WaitingLaws.{expires_hit, expires_miss, outside-message}
use Rattle.receiver_waiting.specs.Waiting.{any_expires}
use Rattle.receiver_waiting.proofs.any_expires.Goals as goal

pub returns-then-expires : goal.returns-then-expires
returns-then-expires c =
    let a = c.args in
    let l = c.loop-p in
    sym (l.invariant ∙ expires_hit a.messages.now l.p-index a.now outside-message (omega arith) (sym c.expires.ensures ∙ c.if-expires.true))

pub loop-p-preserved : goal.loop-p-preserved
loop-p-preserved c =
    let a = c.args in
    let l = c.loop-p in
    l.invariant ∙ expires_miss a.messages.now l.p-index a.now outside-message (omega arith) (sym c.expires.ensures ∙ c.if-expires.false)

pub returns : goal.returns
unfolding any_expires
returns c =
    let a = c.args in
    let l = c.loop-p in
    let e : l.p-index ≡ length a.messages.now = omega arith in
    sym (l.invariant ∙ rw (e, drop-length a.messages.now) refl)
