use borrow.Author.Rules.{rules}
use native.Mathlib.Omega.{arith}
use mathlib.Core.Path.{refl}
use Rattle.charges.proofs.WordLaws.{number-turn, number_end}
use Rattle.charges.proofs.words.number.Goals as goal

pub loop-c-init : goal.loop-c-init
loop-c-init c = (search rules, refl)

pub loop-c-preserved : goal.loop-c-preserved
loop-c-preserved c =
    let l = c.loop-c in
    (c.then-n.ensures.1, number-turn c.args.text.now l.c-index l.n c.then-n.result _ (omega arith) c.then-n.ensures.0 l.invariant.1)

pub returns : goal.returns
returns c =
    let l = c.loop-c in
    (number_end c.args.text.now l.c-index l.n _ (omega arith) l.invariant.1, l.invariant.0)
