use Rattle.std.proofs.Common.{◌≡◌, ℕ, Ok, length, ap, ◌∙◌}
use Rattle.limits.specs.Answer.{said, said_by, cause_of, number, leaves, Free}
use Rattle.limits.proofs.AnswerLaws.{said_refused, said_accepted, lent_refused, free_kept}
use Rattle.demod.specs.Capture.{floor_of, captured, in_front}
use Rattle.demod.proofs.decode_capture.Goals as goal

pub returns-in_err-samples : goal.returns-in_err-samples
unfolding cause_of
returns-in_err-samples c = let a = c.args in
    let i = c.from_residual.ensures.1 in (
      said_refused _ _ _ i c.in_err-samples.ensures.cause _,
      lent_refused _ _ i _ a.events.now,
      free_kept _ a.scratch32.now,
      free_kept _ a.scratch64.now,
    )

pub returns : goal.returns
unfolding said_by cause_of number leaves Free in_front
returns c = let a = c.args in
    let h = c.in_ok-samples.ensures.cause in
    let e = c.in_ok-samples.ensures.ok in
    let o : captured c.in_ok-samples.samples.dbm.now c.in_ok-samples.samples.rate a.t0 c.floor_of.result ≡ captured a.dbm.now a.rate a.t0 (floor_of a.floor a.dbm.now) = rw (e.0, e.1, c.floor_of.ensures) in
    let n : c.capture.result ≡ length (captured a.dbm.now a.rate a.t0 (floor_of a.floor a.dbm.now)) = c.capture.ensures.0 ∙ ap length o in (
      ap (λ (k : ℕ). said (Ok k)) n ∙ said_accepted _ h _,
      c.capture.ensures.1 ∙ rw (o, n),
      tt,
      tt,
    )
