use mathlib.Core.Bool.{cond}
use mathlib.Core.Path.{◌≡◌, ◌∙◌, refl, sym}
use Prim.Native.Nat.{◌+◌}
use native.Mathlib.Omega.{arith}
use lib.Dec.{ltb}
use Rattle.limits.specs.Answer.{cause_of}
use Rattle.limits.specs.Limits.{bad_number, bad_state, longest_stream}
use Rattle.receiver.proofs.CauseLaws.{exit_cause, messages-nan, messages-order, nan_is_none, order_cause, order-messages, order-samples, state-last, state-order, stream_first, stream-later}
use Rattle.receiver.proofs.StateLaws.{not_false, not_true, samples-fit}
use Rattle.receiver.proofs.check_state.Goals.{Else-not-c}
use Rattle.receiver.proofs.check_state.Goals as goal

pub returns-then-not-samples_in_order : goal.returns-then-not-samples_in_order
unfolding cause_of
returns-then-not-samples_in_order c =
    let a = c.args in
    state-order a.s.now a.samples.now a.n bad_state (order-samples a.s.now a.samples.now (sym c.samples_in_order.ensures ∙ c.if-not-samples_in_order.true)) refl

pub returns-then-not-c : goal.returns-then-not-c
unfolding cause_of
returns-then-not-c c =
    let a = c.args in
    let m = c.check-c in
    state-order a.s.now a.samples.now a.n bad_state
    (messages-order a.s.now.waiting m.result m.ensures (not_true m.result.ok c.if-not-c.true) ∙ order-messages a.s.now a.samples.now (sym c.samples_in_order.ensures ∙ c.if-not-samples_in_order.false))
    refl

pub check_stream-requires : goal.check_stream-requires
check_stream-requires c =
    let s = c.args.s.now in
    let f = samples-fit s.rate s.held s.base s.unscanned s.starts c.args.samples.now (sym c.samples_in_order.ensures ∙ c.if-not-samples_in_order.false) in
    omega (arith, f.1, c.requires.1, f.0)

-- cause 9 of the messages, once they are in order
nan : (c : Else-not-c) → cond c.check-c.result.nan bad_number 0 ≡ order_cause c.args.s.now c.args.samples.now
nan c =
    let a = c.args in
    let m = c.check-c in
    messages-nan a.s.now.waiting m.result m.ensures (not_false m.result.ok c.if-not-c.false) _ refl
    ∙ order-messages a.s.now a.samples.now (sym c.samples_in_order.ensures ∙ c.if-not-samples_in_order.false)

pub returns-in_err-check_stream : goal.returns-in_err-check_stream
unfolding cause_of
returns-in_err-check_stream c =
    let a = c.args in
    let s = a.s.now in
    let x = cond c.check-c.result.nan bad_number 0 in
    exit_cause c.from_residual.result c.in_err-check_stream.field-0.0 c.from_residual.ensures.1
    ∙ state-last s a.samples.now a.n x (nan (goal.at.returns-in_err-check_stream c).Else-not-c) (nan_is_none c.check-c.result.nan) _
    (stream_first (ltb longest_stream (s.base + s.held + a.n)) c.in_err-check_stream.field-0.0 x c.in_err-check_stream.ensures)

pub returns-then-nan : goal.returns-then-nan
unfolding cause_of
returns-then-nan c =
    let a = c.args in
    let s = a.s.now in
    let h : bad_number ≡ order_cause s a.samples.now = rw c.if-nan.true at (nan (goal.at.returns-then-nan c).Else-not-c) in
    state-last s a.samples.now a.n bad_number h (λ q. omega arith) bad_number
    (stream-later (ltb longest_stream (s.base + s.held + a.n)) bad_number c.in_ok-check_stream.ensures)

pub returns : goal.returns
unfolding cause_of
returns c =
    let a = c.args in
    let s = a.s.now in
    let h : 0 ≡ order_cause s a.samples.now = rw c.if-nan.false at (nan (goal.at.returns c).Else-not-c) in
    state-last s a.samples.now a.n 0 h (λ q. omega arith) 0
    (stream-later (ltb longest_stream (s.base + s.held + a.n)) 0 c.in_ok-check_stream.ensures)
