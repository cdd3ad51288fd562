use mathlib.Core.Path.{sym, ap, ◌∙◌}
use lib.ListN.{length}
use lib.Seq.{sets}
use Rattle.grip.proofs.AnswerLaws.{hears_short, hears-long, hears-bad, hears-time, hears-numbers}
use Rattle.grip.proofs.TimeLaws.{finite_is}
use Rattle.grip.proofs.MarkLaws.{unmarked}
use borrow.Author.Rules.{rules}
use Rattle.grip.proofs.on_air.Goals as goal

pub returns-then-numbers-records : goal.returns-then-numbers-records
returns-then-numbers-records c =
    let a = c.args in
    hears_short a.records.now a.x a.numbers.now c.if-numbers-records.true

pub returns-then-records-gt-MOST_RECORD_BYTES : goal.returns-then-records-gt-MOST_RECORD_BYTES
returns-then-records-gt-MOST_RECORD_BYTES c =
    let a = c.args in
    hears-long a.records.now a.x a.numbers.now c.if-numbers-records.false c.if-records-gt-MOST_RECORD_BYTES.true

pub mark_all-requires : goal.mark_all-requires
mark_all-requires c = (search rules, unmarked 125000)

pub returns-then-not-mark_all : goal.returns-then-not-mark_all
returns-then-not-mark_all c =
    let a = c.args in
    let m = c.mark_all in
    hears-bad a.records.now a.x a.numbers.now c.if-numbers-records.false c.if-records-gt-MOST_RECORD_BYTES.false (sym m.ensures.0 ∙ c.if-not-mark_all.true)

pub returns-then-not-is_finite : goal.returns-then-not-is_finite
returns-then-not-is_finite c =
    let a = c.args in
    let m = c.mark_all in
    hears-time a.records.now a.x a.numbers.now c.if-numbers-records.false c.if-records-gt-MOST_RECORD_BYTES.false (sym m.ensures.0 ∙ c.if-not-mark_all.false)
    (sym (c.is_finite.ensures.value ∙ finite_is c.args.x) ∙ c.if-not-is_finite.true)

pub returns : goal.returns
returns c =
    let a = c.args in
    let m = c.mark_all in
    let k = c.note_all in
    hears-numbers a.records.now a.x a.numbers.now c.if-numbers-records.false c.if-records-gt-MOST_RECORD_BYTES.false (sym m.ensures.0 ∙ c.if-not-mark_all.false)
    (sym (c.is_finite.ensures.value ∙ finite_is c.args.x) ∙ c.if-not-is_finite.false) k.result k.new.numbers (k.ensures.0 ∙ ap length m.ensures.1) (k.ensures.1 ∙ ap (sets a.numbers.now 0) m.ensures.1)
