use native.Mathlib.Omega.{arith}
use mathlib.Core.Path.{◌≡◌, ap, ◌∙◌}
use mathlib.Core.Bool.{Bool, ◌&&◌}
use Prim.Native.Nat.{ℕ}
use lib.ListN.{replicate}
use mir.Syntax.{w64}
use mir.ValLaws.{to_z-of_z}
use Rattle.event_list.specs.Events.{events_of, messages_of, list_ok}
use Rattle.subscription.specs.Charges.{days, all_in_month}
use Rattle.subscription.specs.Counting.{second_of, tallied}
use Rattle.subscription.proofs.CountLaws.{few-zeros}
use Rattle.subscription.proofs.ChargeLaws.{says_long, says_read}
use Rattle.subscription.proofs.charges.Goals as goal

pub returns-then-records-gt-MOST_RECORD_BYTES : goal.returns-then-records-gt-MOST_RECORD_BYTES
returns-then-records-gt-MOST_RECORD_BYTES c =
    let a = c.args in
    says_long a.«records».now a.plan a.month_start c.if-records-gt-MOST_RECORD_BYTES.true

pub read_records-t-requires : goal.read_records-t-requires
read_records-t-requires c =
    let n = c.no_records.ensures.0 in
    (omega (arith, n, c.if-records-gt-MOST_RECORD_BYTES.false), c.second_of.ensures.1, few-zeros _)

pub total-requires : goal.total-requires
total-requires c =
    let r = c.read_records-t.ensures in
    record { size = r.4.size; under = λ j. omega (arith, r.4.under j, r.0, c.no_records.ensures.0, c.if-records-gt-MOST_RECORD_BYTES.false) }

pub returns : goal.returns
returns c =
    let a = c.args in
    let l = a.«records».now in
    let n = c.no_records.ensures in
    let q = to_z-of_z w64 a.month_start c.ranges.month_start in
    let d = c.second_of.ensures.0 ∙ ap second_of q in
    let r = c.read_records-t in
    let ok : r.result.ok ≡ list_ok l = r.ensures.1 ∙ ap (λ (b : Bool). b && list_ok l) n.1 in
    let within : r.result.within ≡ all_in_month (second_of a.month_start) (messages_of (events_of l)) =
    r.ensures.2 ∙ ap (λ (b : Bool). b && all_in_month c.second_of.result (messages_of (events_of l))) n.2 ∙ ap (λ (k : ℕ). all_in_month k (messages_of (events_of l))) d in
    let counts = r.ensures.3 ∙ ap (λ (k : ℕ). tallied k (replicate days 0) (events_of l)) d in
    c.total.ensures ∙ says_read l a.plan a.month_start c.if-records-gt-MOST_RECORD_BYTES.false r.result.ok r.result.within _ ok within counts _ q
