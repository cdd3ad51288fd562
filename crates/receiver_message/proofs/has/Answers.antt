use mathlib.Core.Path.{◌≡◌}
use lib.ListN.{length}
use borrow.Author.Rules.{rules}
use Rattle.receiver_message.proofs.SpanLaws.{has_is, length_mapped}
use Rattle.receiver_message.proofs.has.Goals as goal

pub returns : goal.returns
returns c = let h : length c.args.spans ≡ 3 = search (rules, length_mapped) in
    has_is c.args.rank c.args.spans h
