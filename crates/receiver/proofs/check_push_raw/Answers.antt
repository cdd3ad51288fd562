use mathlib.Core.Bool.{true}
use mathlib.Core.List.{map}
use mathlib.Core.Path.{◌∙◌, ◌≡◌, refl, sym}
use native.Mathlib.Omega.{arith}
use lib.ListN.{length, length-map}
use Rattle.ledger.proofs.Raw.{raw-valid}
use Rattle.ledger.specs.Ledger.{dbm_of}
use Rattle.limits.specs.Answer.{cause_of}
use Rattle.limits.specs.Samples.{all_dbm}
use Rattle.receiver.proofs.AnswerLaws.{at_least}
use Rattle.receiver.proofs.CauseLaws.{below_all, exit_cause, given-fits, given_same, push_first, push-later}
use Rattle.receiver.specs.Running.{viewed}
use Rattle.receiver.proofs.check_push_raw.Goals as goal

pub returns-in_err-check_given : goal.returns-in_err-check_given
unfolding cause_of
returns-in_err-check_given c =
    let a = c.args in
    let e = c.in_err-check_given.field-0.0 in
    exit_cause c.from_residual.result e c.from_residual.ensures.1
    ∙ push_first a.s.now a.lent.samples.now (viewed a.lent) (map dbm_of a.raw.now) (length a.raw.now) _ (sym (length-map a.raw.now dbm_of)) (given_same _ _ c.lengths.ensures c.in_err-check_given.ensures) (at_least e)

pub check_state-requires : goal.check_state-requires
unfolding cause_of
check_state-requires c =
    let a = c.args in
    let f = given-fits a.s.now.rate (viewed a.lent) (length a.raw.now) (sym (given_same _ _ c.lengths.ensures c.in_ok-check_given.ensures)) in
    f

pub returns : goal.returns
unfolding cause_of
returns c =
    let a = c.args in
    let v : all_dbm (map dbm_of a.raw.now) ≡ true = raw-valid a.raw.now (below_all 256 a.raw.now (λ i k. omega (arith, c.type_inv.raw i))) in
    push-later a.s.now a.lent.samples.now (viewed a.lent) (map dbm_of a.raw.now) (length a.raw.now) _ (sym (length-map a.raw.now dbm_of)) (sym (given_same _ _ c.lengths.ensures c.in_ok-check_given.ensures)) (c.check_state.ensures ∙ rw v refl)
