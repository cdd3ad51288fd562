use Rattle.std.proofs.Common.{ℕ, Ok, sym, ap, ◌∙◌}
use Rattle.limits.specs.Answer.{cause_of, said}
use Rattle.limits.proofs.AnswerLaws.{said_refused, said_accepted}
use Rattle.frequency.proofs.Framing.{freq-ordered}
use Rattle.frequency.proofs.FrequencyTracker.freq.Goals as goal

pub returns-in_err-check_freq : goal.returns-in_err-check_freq
unfolding cause_of
returns-in_err-check_freq c = said_refused _ _ _ c.from_residual.ensures.1 c.in_err-check_freq.ensures _

pub freq_of-requires : goal.freq_of-requires
unfolding cause_of
freq_of-requires c = let a = c.args in (freq-ordered a.self.now a.tunings.now (sym c.in_ok-check_freq.ensures)).places

pub returns : goal.returns
unfolding cause_of
returns c = ap (λ (f : ℕ). said (Ok f)) c.freq_of.ensures ∙ said_accepted _ c.in_ok-check_freq.ensures _
