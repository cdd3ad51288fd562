use Rattle.std.proofs.Common.{ℕ, true, sym, ◌∙◌, leb-true, arith, ◌≡◌}
use Rattle.frequency_lists.specs.Lists.{all_numbers}
use Rattle.frequency_lists.proofs.Blocks.{numbers_rest}
use Rattle.frequency_retain.specs.Retain.{Looked}
use Rattle.frequency_retain.proofs.Retained.{looked_of, if-then_some}
use Rattle.frequency_retain.proofs.look_at_numbers.Goals as goal

pub returns : goal.returns
returns c =
    let a = c.args in
    let l = c.leading-lead in
    let s = c.in-Some.ensures in
    let n : all_numbers a.readings.now ≡ true = sym (numbers_rest a.readings.now l.result (sym c.no_nan.ensures ∙ c.if-not-no_nan.false)) ∙ sym s.numbers in
    rw c.then_some.ensures (if-then_some (λ (lead : ℕ). Looked a.low a.limit lead a.readings.now × (all_numbers a.readings.now ≡ true)) _ _ (λ e. (looked_of a.low a.limit l.result c.in-Some.bits a.readings.now l.ensures.0 (omega arith) (omega arith) l.ensures.1 s.bits (leb-true _ _ e), n)))
