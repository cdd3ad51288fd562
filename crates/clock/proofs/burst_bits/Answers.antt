use Rattle.std.proofs.Common.{◌≡◌, Option, Ok, ap, ◌∙◌}
use Rattle.limits.specs.Answer.{said, said_by, cause_of, number, leaves, Free}
use Rattle.limits.proofs.AnswerLaws.{said_refused, said_accepted, lent_refused, free_kept}
use Rattle.clock.specs.Bits.{Outcome, outcome, handed, values_of}
use Rattle.clock.specs.declared.BurstBits.{BurstBits}
use Rattle.clock.proofs.burst_bits.Goals as goal

pub returns-in_err-samples : goal.returns-in_err-samples
unfolding cause_of
returns-in_err-samples c = let a = c.args in
    let i = c.from_residual.ensures.1 in (
      said_refused _ _ _ i c.in_err-samples.ensures.cause _,
      lent_refused _ _ i _ a.bits.now,
      free_kept _ a.scratch32.now,
      free_kept _ a.scratch64.now,
    )

pub returns : goal.returns
unfolding said_by cause_of number leaves Free
returns c = let a = c.args in
    let h = c.in_ok-samples.ensures.cause in
    let e = c.in_ok-samples.ensures.ok in
    let o : outcome c.in_ok-samples.samples.dbm.now c.in_ok-samples.samples.rate ≡ outcome a.seg.now a.rate = rw (e.0, e.1) in (
      ap (λ (v : Option BurstBits). said (Ok v)) (c.bits_of.ensures.0 ∙ ap values_of o) ∙ said_accepted _ h _,
      c.bits_of.ensures.1 ∙ ap (λ (x : Outcome). handed x a.bits.now) o,
      tt,
      tt,
    )
