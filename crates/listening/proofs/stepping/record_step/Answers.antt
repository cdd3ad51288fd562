use mathlib.Core.Path.{◌≡◌, refl}
use Rattle.limits.specs.Answer.{cause_of}
use Rattle.limits.proofs.AnswerLaws.{number-positive}
use native.Mathlib.Omega.{arith}
use Rattle.ledger.specs.Ledger.{by_frames, Ledger}
use Rattle.listening_receiver.specs.Standing.{StandsFor}
use Rattle.listening.proofs.StepLaws.{led_room, stop-steps, both_steps, goes_as}
use Rattle.listening.proofs.stepping.record_step.Goals as goal

pub returns-in-Err : goal.returns-in-Err
unfolding cause_of
returns-in-Err c =
    let f = c.follow-f in
    let n : cause_of f.result.went ≡ 0 → ⊥ = λ z. number-positive _ (rw c.in-Err.is at z) in
    record { goes = λ (g : Ledger by_frames) (st : StandsFor c.args.receiver.now c.args.b.now.samples g). f.ensures.follows.stops n g _ _ st; steps = stop-steps _ _ _ _ _ _ f.ensures.leads }

pub receive-requires : goal.receive-requires
receive-requires c =
    let p = c.requires in
    let f = c.follow-f.ensures.leads in
    let q = led_room _ _ _ _ _ f p.single.1 in
    record { standing = p.standing; end_le_widest = (f.end, omega (arith, f.room, p.single.2), q.0, q.1, q.2) }

pub returns-in-Ok : goal.returns-in-Ok
unfolding cause_of
returns-in-Ok c =
    let f = c.follow-f in
    let h = f.ensures.follows in
    let r = c.receive.ensures in
    let z : cause_of f.result.went ≡ 0 = rw c.in-Ok.is refl in
    record { goes = λ (g : Ledger by_frames) (st : StandsFor c.args.receiver.now c.args.b.now.samples g). goes_as (h.on z g) (r.goes g _ _ h.text st (h.added z)); steps = both_steps _ _ _ _ _ _ _ f.ensures.leads r.receives }
