use mathlib.Core.List.{List}
use mathlib.Core.Path.{◌∙◌, ◌≡◌, refl, sym}
use Prim.Native.Nat.{◌+◌, ◌≤◌}
use native.Mathlib.Omega.{arith}
use lib.ListN.{drop, length, length-set, set, take}
use lib.Seq.{drop-length, drop-set-lt, length-take-le}
use borrow.Author.Rules.{rules}
use Rattle.ledger.specs.Room.{open_places}
use Rattle.ledger.specs.declared.Pending.{Pending}
use Rattle.receiver_message.proofs.SpanLaws.{length_mapped}
use Rattle.receiver_waiting.proofs.WaitingLaws.{checked_is, none_wait, too_many}
use Rattle.receiver_waiting.specs.Waiting.{waiting_of}
use Rattle.receiver_waiting.proofs.check.Goals as goal

pub returns-then-n-eq0 : goal.returns-then-n-eq0
returns-then-n-eq0 c = none_wait c.args.w.now c.args.now c.if-n-eq0.true

pub returns-then-n-gt-MOST_WAITING : goal.returns-then-n-gt-MOST_WAITING
returns-then-n-gt-MOST_WAITING c = too_many c.args.w.now c.args.now (omega (arith, c.if-n-gt-MOST_WAITING.true))

pub returns : goal.returns
returns c =
    let w = c.args.w.now in
    let g = c.well_formed.0 in
    let h : length w.messages ≡ open_places = search (rules, length_mapped, g) in
    checked_is w c.args.now c.look-l.result c.all_distinct.result _ (omega (arith, c.if-n-gt-MOST_WAITING.false)) h c.look-l.ensures c.all_distinct.ensures refl
