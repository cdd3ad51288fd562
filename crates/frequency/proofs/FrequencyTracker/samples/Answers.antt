use Rattle.std.proofs.Common.{ℕ, refl, sym}
use Rattle.std.proofs.lemmas.Option.{IfSome_then}
use Rattle.limits.specs.Answer.{cause_of}
use Rattle.limits.proofs.AnswerLaws.{cause_refused}
use Rattle.frequency_retain.specs.Retain.{Leads}
use Rattle.frequency.specs.Order.{Sound}
use Rattle.frequency.proofs.FrequencyTracker.samples.Goals as goal

pub returns-in_err-check_samples : goal.returns-in_err-check_samples
unfolding cause_of
returns-in_err-check_samples c =
    let r = cause_refused _ _ _ c.from_residual.ensures.1 c.in_err-check_samples.ensures in
    record { refusal = r.0; state = λ e. absurd (r.1 e); lists = λ e. absurd (r.1 e); same_state = λ e. refl; same_lists = λ e. refl }

pub hear_line-requires : goal.hear_line-requires
unfolding cause_of
hear_line-requires c = (sym c.in_ok-check_samples.ensures, IfSome_then _ c.sound_look-look.ensures (λ (lead : ℕ) (l : Sound _ _ × Leads _ lead _). l.1))

pub returns : goal.returns
unfolding cause_of
returns c = c.hear_line.ensures
