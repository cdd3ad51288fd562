use Rattle.std.proofs.Common.{◌≡◌, Ok, Option, ap, ◌∙◌}
use Rattle.limits.specs.Answer.{said, cause_of, Free}
use Rattle.limits.proofs.AnswerLaws.{said_refused, said_accepted, free_kept}
use Rattle.demod.specs.Decode.{decode_burst}
use Rattle.demod.specs.declared.DecodedFrame.{DecodedFrame}
use Rattle.demod.proofs.decode_burst.Goals as goal

pub returns-in_err-samples : goal.returns-in_err-samples
unfolding cause_of
returns-in_err-samples c = let a = c.args in (
  said_refused _ _ _ c.from_residual.ensures.1 c.in_err-samples.ensures.cause _,
  free_kept _ a.scratch32.now,
  free_kept _ a.scratch64.now,
)

pub returns : goal.returns
unfolding cause_of Free
returns c = let a = c.args in
    let h = c.in_ok-samples.ensures.cause in
    let e = c.in_ok-samples.ensures.ok in
    let o : decode_burst c.in_ok-samples.samples.dbm.now c.in_ok-samples.samples.rate a.burst a.t0 ≡ decode_burst a.dbm.now a.rate a.burst a.t0 = rw (e.0, e.1) in (
      ap (λ (v : Option DecodedFrame). said (Ok v)) (c.decode_within.ensures ∙ o) ∙ said_accepted _ h _,
      rw (← h) tt,
      rw (← h) tt,
    )
