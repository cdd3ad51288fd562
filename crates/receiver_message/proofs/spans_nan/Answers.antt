use mathlib.Core.Path.{◌≡◌}
use lib.ListN.{length}
use borrow.Author.Rules.{rules}
use Rattle.receiver_message.proofs.SpanLaws.{length_mapped, spans-nan_is}
use Rattle.receiver_message.proofs.spans_nan.Goals as goal

pub returns : goal.returns
returns c = let l = c.args.spans in
    let h : length (l) ≡ 3 = search (rules, length_mapped) in
    spans-nan_is l c.span_nan-first.result c.span_nan-second.result c.span_nan-third.result h c.span_nan-first.ensures c.span_nan-second.ensures c.span_nan-third.ensures
