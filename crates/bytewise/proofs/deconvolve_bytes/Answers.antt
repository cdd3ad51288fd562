use mathlib.Core.Path.{sym, ap, ◌∙◌}
use mathlib.Core.Bool.{Bool}
use mathlib.Core.List.{List, ◌++◌, map}
use Prim.Native.Nat.{ℕ, ◌*◌}
use native.Mathlib.Omega.{arith}
use lib.ListN.{length, drop}
use Rattle.limits.specs.Answer.{accepted, said_by, cause_of}
use Rattle.limits.proofs.AnswerLaws.{said_at_exit, lent_at_refusal, accepted_answer, accepted_lent}
use Rattle.coding.specs.Bits.{bit_of, to_bytes}
use Rattle.coding.specs.Convolution.{state_after}
use Rattle.bytewise.specs.Answers.{state_is, bytes_cause, undone, bytes_answer, bytes_out, rest_out}
use Rattle.bytewise.proofs.Causes.{none}
use Rattle.bytewise.proofs.AnswerLaws.{bytes_are, rest_is, state_is_lem}
use Rattle.bytewise.proofs.deconvolve_bytes.Goals as goal

pub returns-in_err-check : goal.returns-in_err-check
unfolding said_by cause_of bytes_answer bytes_out rest_out
returns-in_err-check c =
    let a = c.args in
    let b = a.bytes.now in
    let t = a.rest.now in
    let o = a.out.now in
    let q = a.out_rest.now in
    let s = state_is a.start in
    let e = c.in_err-check.field-0.0 in
    let k = bytes_cause b t a.rank (length o) (length q) in
    let plain = undone b t a.rank s in
    let new : List ℕ = to_bytes (length b) plain ++ drop (length b) o in
    let new-rest : List ℕ = map bit_of (drop (8 * length b) plain) ++ drop (length t) q in (
      said_at_exit c.from_residual.result e k state_is c.from_residual.ensures.1 c.in_err-check.ensures (state_after s plain),
      lent_at_refusal e k c.in_err-check.ensures new o,
      lent_at_refusal e k c.in_err-check.ensures new-rest q,
    )

pub undo_into-s-requires : goal.undo_into-s-requires
unfolding cause_of
undo_into-s-requires c =
    let a = c.args in
    let x = none a.bytes.now a.rest.now a.rank (length a.out.now) (length a.out_rest.now) (sym c.in_ok-check.ensures) in
    (x.ranked, c.number_of.ensures.1, x.fits)

pub deconvolve_from-end-requires : goal.deconvolve_from-end-requires
unfolding cause_of
deconvolve_from-end-requires c =
    let a = c.args in
    let x = none a.bytes.now a.rest.now a.rank (length a.out.now) (length a.out_rest.now) (sym c.in_ok-check.ensures) in
    (x.all, x.rest-fits, omega (arith, c.undo_into-s.ensures.2))

pub returns : goal.returns
unfolding said_by cause_of bytes_answer bytes_out rest_out
returns c =
    let a = c.args in
    let b = a.bytes.now in
    let t = a.rest.now in
    let o = a.out.now in
    let q = a.out_rest.now in
    let s = state_is a.start in
    let k = bytes_cause b t a.rank (length o) (length q) in
    let plain = undone b t a.rank s in
    let new : List ℕ = to_bytes (length b) plain ++ drop (length b) o in
    let new-rest : List ℕ = map bit_of (drop (8 * length b) plain) ++ drop (length t) q in
    let h = c.in_ok-check.ensures in
    let n = c.number_of in
    let m = c.undo_into-s in
    let w = c.deconvolve_from-end in (
      ap accepted (c.state_of.ensures ∙ w.ensures.1 ∙ state_is_lem b t a.rank n.result m.result s n.ensures.0 m.ensures.1)
          ∙ accepted_answer k h (state_after s plain),
      m.ensures.0 ∙ ap (λ (l : List ℕ). l ++ drop (length b) o) (bytes_are b t a.rank n.result m.result s n.ensures.0 m.ensures.1)
          ∙ accepted_lent k h new o,
      w.ensures.0 ∙ ap (λ (l : List Bool). map bit_of l ++ drop (length t) q) (rest_is b t a.rank n.result m.result s n.ensures.0 m.ensures.1)
          ∙ accepted_lent k h new-rest q,
    )
