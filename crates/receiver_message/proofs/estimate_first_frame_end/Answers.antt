use mathlib.Core.Path.{◌∙◌, ◌≡◌, refl, sym}
use lib.ListN.{length}
use borrow.Author.Rules.{rules}
use Rattle.receiver_message.proofs.SpanLaws.{ok_is, length_mapped}
use Rattle.limits.specs.Answer.{answer, said_by}
use Rattle.receiver_message.specs.Messages.{estimate_cause, estimate_answer}
use Rattle.receiver_message.proofs.estimate_first_frame_end.Goals as goal

pub returns-then-spans_ok : goal.returns-then-spans_ok
unfolding said_by answer estimate_cause estimate_answer
returns-then-spans_ok c =
    let l = c.args.spans in
    let h : length l ≡ 3 = search (rules, length_mapped) in
    rw (sym (ok_is l c.spans_ok.result h c.spans_ok.ensures) ∙ c.if-spans_ok.true, c.estimate.ensures) refl

pub returns : goal.returns
unfolding said_by answer estimate_cause estimate_answer
returns c =
    let l = c.args.spans in
    let h : length l ≡ 3 = search (rules, length_mapped) in
    rw (sym (ok_is l c.spans_ok.result h c.spans_ok.ensures) ∙ c.if-spans_ok.false) refl
