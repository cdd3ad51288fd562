use Rattle.std.proofs.Common.{◌≡◌, ◌<◌, Some, sym, ap, ◌∙◌, arith}
use Rattle.subscription.specs.Charges.{days}
use Rattle.subscription.specs.Counting.{day_in}
use Rattle.subscription.proofs.CountLaws.{skips, refuses, raises, under_days}
use Rattle.subscription.proofs.days.counted.Goals.{In-Some}
use Rattle.subscription.proofs.days.counted.Goals as goal

pub returns-then-not-is_message : goal.returns-then-not-is_message
returns-then-not-is_message c =
    skips c.args.start c.requires.0 c.args.counts.now c.args.r.bytes.now (sym c.is_message.ensures ∙ c.if-not-is_message.true)

pub returns-in_default : goal.returns-in_default
returns-in_default c =
    let e = sym c.is_message.ensures ∙ c.if-not-is_message.false in
    refuses c.args.start c.requires.0 c.args.counts.now c.args.r.bytes.now e c.requires.1.size (sym c.in_default.is ∙ c.day_of.ensures ∙ ap (day_in c.args.start) c.time.ensures)

told : (c : In-Some) → Some c.in-Some.day ≡ day_in c.args.start (c.time.result)
told c = sym c.in-Some.is ∙ c.day_of.ensures

on_a_day : (c : In-Some) → c.in-Some.day < days
on_a_day c = under_days c.args.start c.requires.0 c.time.result c.in-Some.day (told c)

pub offset_bounds-counts-day : goal.offset_bounds-counts-day
offset_bounds-counts-day c = record { fits = omega (arith, on_a_day (goal.at.offset_bounds-counts-day c).In-Some) }

pub bounds-counts-day : goal.bounds-counts-day
bounds-counts-day c =
    omega (arith, on_a_day (goal.at.bounds-counts-day c).In-Some, c.requires.1.size)

pub overflow_add-counts : goal.overflow_add-counts
overflow_add-counts c =
    record { fits = omega (arith, c.requires.1.under c.in-Some.day) }

pub offset_bounds-counts-day-2 : goal.offset_bounds-counts-day-2
offset_bounds-counts-day-2 c = record { fits = omega (arith, on_a_day (goal.at.offset_bounds-counts-day-2 c).In-Some) }

pub bounds-counts-day-2 : goal.bounds-counts-day-2
bounds-counts-day-2 c =
    omega (arith, on_a_day (goal.at.bounds-counts-day-2 c).In-Some, c.requires.1.size)

pub returns : goal.returns
returns c =
    let e = sym c.is_message.ensures ∙ c.if-not-is_message.false in
    raises c.args.start c.requires.0 c.args.counts.now c.args.r.bytes.now e c.in-Some.day (sym c.in-Some.is ∙ c.day_of.ensures ∙ ap (day_in c.args.start) c.time.ensures)
