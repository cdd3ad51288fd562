use mathlib.Core.Path.{◌≡◌}
use lib.ListN.{length}
use borrow.Author.Rules.{rules}
use Rattle.receiver_message.proofs.SpanLaws.{length_mapped, place-0, place-1, place-2, place_none}
use Rattle.receiver_message.proofs.place.Goals as goal

pub returns-then-s : goal.returns-then-s
returns-then-s c = λ f e.
    let h : length c.args.spans ≡ 3 = search (rules, length_mapped) in
    place-0 f c.args.span e c.args.spans h c.if-s.true

pub returns-then-s-2 : goal.returns-then-s-2
returns-then-s-2 c = λ f e.
    let h : length c.args.spans ≡ 3 = search (rules, length_mapped) in
    place-1 f c.args.span e c.args.spans h c.if-s.false c.if-s-2.true

pub returns-then-s-3 : goal.returns-then-s-3
returns-then-s-3 c = λ f e.
    let h : length c.args.spans ≡ 3 = search (rules, length_mapped) in
    place-2 f c.args.span e c.args.spans h c.if-s.false c.if-s-2.false c.if-s-3.true

pub returns : goal.returns
returns c = λ f e.
    let h : length c.args.spans ≡ 3 = search (rules, length_mapped) in
    place_none f c.args.span e c.args.spans h c.if-s.false c.if-s-2.false c.if-s-3.false
