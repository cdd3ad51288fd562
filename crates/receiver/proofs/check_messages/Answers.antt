use mathlib.Core.Path.{refl}
use Rattle.limits.specs.Answer.{cause_of}
use Rattle.limits.specs.Limits.{bad_number}
use Rattle.receiver.proofs.CauseLaws.{messages-nan, messages-order}
use Rattle.receiver.proofs.StateLaws.{not_false, not_true}
use Rattle.receiver.proofs.check_messages.Goals as goal

pub returns-then-not-c : goal.returns-then-not-c
unfolding cause_of
returns-then-not-c c =
    let m = c.check-c in
    messages-order c.args.w.now m.result m.ensures (not_true m.result.ok c.if-not-c.true)

pub returns-then-c : goal.returns-then-c
unfolding cause_of
returns-then-c c =
    let m = c.check-c in
    messages-nan c.args.w.now m.result m.ensures (not_false m.result.ok c.if-not-c.false) bad_number (rw c.if-c.true refl)

pub returns : goal.returns
unfolding cause_of
returns c =
    let m = c.check-c in
    messages-nan c.args.w.now m.result m.ensures (not_false m.result.ok c.if-not-c.false) 0 (rw c.if-c.false refl)
