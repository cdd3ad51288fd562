use mathlib.Core.Path.{sym, ◌∙◌}
use mathlib.Core.List.{◌++◌, map}
use lib.ListN.{length, drop}
use native.Mathlib.Omega.{arith}
use Rattle.limits.specs.Answer.{said_by, cause_of}
use Rattle.limits.proofs.AnswerLaws.{said_at_exit, lent_at_refusal, accepted_answer, accepted_lent}
use Rattle.coding.specs.Bits.{odd, bit_of}
use Rattle.coding.specs.Convolution.{fresh, deconvolved}
use Rattle.coding.specs.Answers.{coding_cause, coding_answer, deconvolve_out}
use Rattle.coding.proofs.Causes.{none}
use Rattle.coding.proofs.deconvolve.Goals as goal

pub returns-in_err-check : goal.returns-in_err-check
unfolding said_by cause_of coding_answer deconvolve_out
returns-in_err-check c = let a = c.args in
    let b = a.bits.now in
    let o = a.out.now in
    let k = coding_cause b a.rank (length o) in (
      said_at_exit c.from_residual.result c.in_err-check.field-0.0 k (λ v. v) c.from_residual.ensures.1 c.in_err-check.ensures (length b),
      lent_at_refusal c.in_err-check.field-0.0 k c.in_err-check.ensures (map bit_of (deconvolved a.rank fresh (map odd b)) ++ drop (length b) o) o,
    )

pub deconvolve_from-requires : goal.deconvolve_from-requires
unfolding cause_of
deconvolve_from-requires c = let a = c.args in
    let n = none a.bits.now a.rank (length a.out.now) (sym c.in_ok-check.ensures) in
    (n.all, n.fits, omega arith)

pub returns : goal.returns
unfolding said_by cause_of coding_answer deconvolve_out
returns c = let a = c.args in
    let b = a.bits.now in
    let o = a.out.now in
    let k = coding_cause b a.rank (length o) in (
      accepted_answer k c.in_ok-check.ensures (length b),
      c.deconvolve_from.ensures.0 ∙ accepted_lent k c.in_ok-check.ensures (map bit_of (deconvolved a.rank fresh (map odd b)) ++ drop (length b) o) o,
    )
