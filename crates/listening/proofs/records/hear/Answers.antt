use mathlib.Core.Path.{◌≡◌, refl, ◌∙◌}
use mathlib.Core.List.{List, [], ◌∷◌}
use Prim.Native.Nat.{ℕ}
use native.Mathlib.Omega.{arith}
use lib.ListN.{length, length-append}
use Rattle.limits.specs.Answer.{cause_of}
use Rattle.listening.specs.Hand.{GoesOn}
use Rattle.listening.proofs.ReadLaws.{reached, next-fits, along-part, along_stop, along-next, along_end, goes_refused, goes_broken, loop-room}
use Rattle.listening.proofs.records.hear.Goals as goal

pub record_step-r-requires-clause-standing : goal.record_step-r-requires-clause-standing
record_step-r-requires-clause-standing g c =
    let x = reached _ _ _ _ _ _ _ _ _ _ _ _ _ c.loop-bytes.invariant.1 c.requires.come in
    record { ledger = x.ledger; stands = x.stands }

pub record_step-r-requires-clause-single : goal.record_step-r-requires-clause-single
record_step-r-requires-clause-single g c =
    let p = c.requires.room in
    let l = c.loop-bytes in
    let a = l.invariant.1 in
    let s = c.in-Some.ensures.steps in
    let wide = s.1.1 ∙ l.invariant.0 in
    let fits = next-fits _ _ _ _ _ _ _ _ _ _ _ _ _ a c.in-Some.bytes.now _ s.1.0 wide in
    let x = reached _ _ _ _ _ _ _ _ _ _ _ _ _ a c.requires.come in
    (x.single, loop-room _ _ (length l.yielded) (omega (arith, fits, p.0)) a.near p.1, omega (arith, a.room, p.2), wide)

pub hand_over-written-requires : goal.hand_over-written-requires
hand_over-written-requires g c =
    let l = c.loop-bytes in
    let s = c.in-Some.ensures.steps in
    record { part = along-part _ _ _ _ _ _ _ _ _ _ _ _ _ l.invariant.1 c.in-Some.bytes.now _ s.1.0 (s.1.1 ∙ l.invariant.0) c.requires.come _ _ _ _ c.record_step-r.ensures.goes }

pub returns-in_err-r-clause-by_index : goal.returns-in_err-r-clause-by_index
unfolding cause_of
returns-in_err-r-clause-by_index g c =
    let l = c.loop-bytes in
    let s = c.in-Some.ensures.steps in
    λ (read : List ℕ) (n : ℕ) h y.
    goes_refused _ c.in_err-r.field-0.0 _ _ _ _ _ _ c.from_residual.ensures.1
    (rw c.in_err-r.was at (along_stop _ _ _ _ _ _ _ _ _ _ _ _ _ l.invariant.1 c.in-Some.bytes.now _ s.1.0 (s.1.1 ∙ l.invariant.0) _ _ _ _ c.record_step-r.ensures.goes read n h y))

pub loop-bytes-preserved : goal.loop-bytes-preserved
unfolding cause_of
loop-bytes-preserved g c =
    let l = c.loop-bytes in
    let s = c.in-Some.ensures.steps in
    let r = c.record_step-r.ensures in
    let z : cause_of c.record_step-r.result.went ≡ 0 = rw c.in_ok-r.was refl in
    rw (length-append l.yielded (c.in-Some.bytes ∷ []))
    (s.0 ∙ l.invariant.0, along-next _ _ _ _ _ _ _ _ _ _ _ _ _ l.invariant.1 c.in-Some.bytes.now _ s.1.0 (s.1.1 ∙ l.invariant.0) _ _ _ _ r.goes r.steps z)

pub returns-in_err-written-clause-by_index : goal.returns-in_err-written-clause-by_index
returns-in_err-written-clause-by_index g c = λ read n h y. goes_broken _ _ _ _ _ _ _ c.from_residual-in_err-written.ensures.1

pub returns-clause-by_index : goal.returns-clause-by_index
unfolding GoesOn
returns-clause-by_index g c =
    let l = c.loop-bytes in
    let e = c.in-None.ensures.steps.1.0 in
    along_end _ _ _ _ _ _ _ _ _ _ _ _ _ l.invariant.1 (omega (arith, e, l.invariant.0))
