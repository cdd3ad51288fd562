use mathlib.Core.List.{List}
use mathlib.Core.Path.{◌∙◌, ◌≡◌, refl, sym}
use Prim.Native.Nat.{◌+◌, ◌≤◌}
use native.Mathlib.Omega.{arith}
use lib.Dec.{eqb}
use lib.ListN.{drop, get_or, length}
use Rattle.std.specs.List.{list_any}
use Rattle.std.proofs.lemmas.Slice.{between_to_end}
use lib.Seq.{drop-length, drop-set-lt, length-take-le}
use borrow.Author.Rules.{rules}
use Rattle.ledger.specs.Room.{open_places}
use Rattle.ledger.specs.declared.Pending.{Pending}
use Rattle.receiver_message.proofs.SpanLaws.{length_mapped}
use Rattle.receiver_waiting.proofs.WaitingLaws.{distinct_more, distinct_not, number_in_is}
use Rattle.receiver_waiting.specs.Waiting.{distinct, number_in}
use Rattle.receiver_waiting.proofs.all_distinct.Goals as goal

pub returns-then-contains : goal.returns-then-contains
returns-then-contains c =
    let l = c.loop-i in
    let keys = c.args.keys.now in
    let key = get_or keys l.i 0 in
    let r : list_any (λ y. eqb y key) (drop (l.i + 1) keys) ≡ c.contains.result = sym (rw (between_to_end keys (l.i + 1) (length keys) (omega arith)) at c.contains.ensures.value) in
    sym (l.invariant ∙ distinct_not c.args.keys.now l.i (omega arith) (sym (number_in_is key (drop (l.i + 1) keys)) ∙ r ∙ c.if-contains.true))

pub loop-i-preserved : goal.loop-i-preserved
loop-i-preserved c =
    let l = c.loop-i in
    let keys = c.args.keys.now in
    let key = get_or keys l.i 0 in
    let r : list_any (λ y. eqb y key) (drop (l.i + 1) keys) ≡ c.contains.result = sym (rw (between_to_end keys (l.i + 1) (length keys) (omega arith)) at c.contains.ensures.value) in
    l.invariant ∙ distinct_more c.args.keys.now l.i (omega arith) (sym (number_in_is key (drop (l.i + 1) keys)) ∙ r ∙ c.if-contains.false)

pub returns : goal.returns
unfolding distinct
returns c =
    let l = c.loop-i in
    let e : l.i ≡ length c.args.keys.now = omega arith in
    sym (l.invariant ∙ rw (e, drop-length c.args.keys.now) refl)
