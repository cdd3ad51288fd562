use borrow.Author.Rules.{rules}
use borrow.Author.Tests.{tests}
use lib.Dec.{ltb}
use Rattle.std.proofs.lemmas.List.Sorted.{answers_always}
use Rattle.shifts.proofs.Loops.{rising_told}
use Rattle.shifts.proofs.rise.Goals as goal

pub returns : goal.returns
returns c = rising_told c.args.dates.now c.is_sorted_by.result (c.is_sorted_by.ensures.cases ltb (answers_always _ _ _ (λ f a r q k. search (rules, tests))))
