use Rattle.std.proofs.Common.{ℕ, Ok, length, ap, ◌∙◌}
use Rattle.limits.specs.Answer.{said, cause_of}
use Rattle.limits.proofs.AnswerLaws.{said_refused, said_accepted, lent_at_refusal, accepted_lent}
use Rattle.dips.specs.Dips.{found_in, Stored, dip_answer, dips_after}
use Rattle.dips.proofs.DipAnswers.{stored_count, stored_now}
use Rattle.dips.proofs.find_dips.Goals as goal

pub returns-in_err-samples : goal.returns-in_err-samples
unfolding cause_of dip_answer dips_after
returns-in_err-samples c = let a = c.args in
    let h = c.in_err-samples.ensures.cause in (
      said_refused _ _ _ c.from_residual.ensures.1 h _,
      lent_at_refusal c.in_err-samples.field-0.0 _ h _ a.dips.now,
    )

pub returns : goal.returns
unfolding cause_of dip_answer dips_after
returns c = let a = c.args in
    let h = c.in_ok-samples.ensures.cause in
    let e = c.in_ok-samples.ensures.ok in
    let f = found_in a.seg.now a.rate a.level in
    let w : Stored f a.dips.now c.dips_into.result c.dips_into.new.dips = rw (e.0, e.1) at c.dips_into.ensures.0 in (
      ap (λ (n : ℕ). said (Ok n)) (stored_count f a.dips.now c.dips_into.result c.dips_into.new.dips w) ∙ said_accepted _ h (length f),
      stored_now f a.dips.now c.dips_into.result c.dips_into.new.dips w ∙ accepted_lent _ h _ a.dips.now,
    )
