use mathlib.Core.Path.{◌≡◌}
use lib.ListN.{length}
use borrow.Author.Rules.{rules}
use Rattle.receiver_message.proofs.SpanLaws.{fit_is, length_mapped}
use Rattle.receiver_message.proofs.spans_fit.Goals as goal

pub returns : goal.returns
returns c = let l = c.args.spans in
    let h : length (l) ≡ 3 = search (rules, length_mapped) in
    fit_is l c.span_fits.result c.span_fits-2.result c.span_fits-3.result h c.span_fits.ensures c.span_fits-2.ensures c.span_fits-3.ensures
