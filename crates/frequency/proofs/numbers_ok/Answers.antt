use Rattle.std.proofs.Common.{sym, ap, ◌∙◌, ◌&&◌, Bool}
use Rattle.frequency.specs.Order.{floats_ok, numbers_ok}
use Rattle.frequency.proofs.Choices.{with_true}
use Rattle.frequency.proofs.numbers_ok.Goals as goal

pub returns-then-settled : goal.returns-then-settled
unfolding numbers_ok
returns-then-settled c =
    let s = c.requires.1 c.if-settled.true in
    c.floats_ok-floats.ensures ∙ with_true (floats_ok c.args.t.now) ∙ ap (λ (b : Bool). floats_ok c.args.t.now && b) (sym s.numbers)

pub returns : goal.returns
unfolding numbers_ok
returns c = cc
