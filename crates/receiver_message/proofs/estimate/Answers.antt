use Rattle.std.proofs.Common.{Some}
use mathlib.Core.Path.{◌∙◌, ◌≡◌, ap, sym}
use lib.ListN.{length}
use borrow.Author.Rules.{rules}
use Rattle.ledger.specs.Merge.{known_of}
use Rattle.receiver_message.proofs.SpanLaws.{estimate_is, length_mapped}
use Rattle.receiver_message.proofs.estimate.Goals as goal

pub returns-in_err-s : goal.returns-in_err-s
unfolding known_of
returns-in_err-s c =
    let l = c.args.spans in
    let h : length l ≡ 3 = search (rules, length_mapped) in
    rw c.from_residual.ensures
    (ap known_of (sym c.in_err-s.was) ∙ estimate_is l c.lower.result c.lower-second.result c.lower-third.result h c.lower-third.ensures c.lower-second.ensures c.lower.ensures)

pub returns : goal.returns
unfolding known_of
returns c =
    let l = c.args.spans in
    let h : length l ≡ 3 = search (rules, length_mapped) in
    ap Some c.end_before.ensures
    ∙ ap known_of (sym c.in_ok-s.was)
    ∙ estimate_is l c.lower.result c.lower-second.result c.lower-third.result h c.lower-third.ensures c.lower-second.ensures c.lower.ensures
