use mathlib.Core.Path.{sym, ◌∙◌}
use lib.Ieee.{binary32}
use Rattle.bench.proofs.Numbers.{numbers_are, none_nan, past, no_number, answered}
use Rattle.bench.proofs.bench_select32.Goals as goal

pub returns-then-xs-k : goal.returns-then-xs-k
returns-then-xs-k c = past binary32 c.args.xs.now c.args.k c.if-xs-k.true

pub select-requires : goal.select-requires
select-requires c =
    let a = c.all_numbers in
    (c.if-xs-k.false, none_nan c.args.xs.now (sym (numbers_are c.args.xs.now) ∙ sym a.ensures ∙ c.if-all_numbers.true))

pub returns-then-all_numbers : goal.returns-then-all_numbers
returns-then-all_numbers c =
    c.select.ensures ∙ answered binary32 c.args.xs.now c.args.k c.if-xs-k.false (sym (numbers_are c.args.xs.now) ∙ sym c.all_numbers.ensures ∙ c.if-all_numbers.true)

pub returns : goal.returns
returns c =
    no_number binary32 c.args.xs.now c.args.k c.if-xs-k.false (sym (numbers_are c.args.xs.now) ∙ sym c.all_numbers.ensures ∙ c.if-all_numbers.false)
