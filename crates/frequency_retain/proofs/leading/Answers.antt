use Rattle.std.proofs.Common.{◌∙◌, ap, arith, leb}
use Rattle.frequency_lists.specs.declared.Reading.{Reading}
use Rattle.frequency_lists.proofs.Gather.{map_at}
use borrow.Author.Tests.{le-leb, lt-leb}
use borrow.Author.Count.{below_more}
use Rattle.frequency_retain.proofs.leading.Goals as goal

pub loop-i-init : goal.loop-i-init
loop-i-init c = λ j h. absurd (omega arith)

pub returns-then-oldest-x : goal.returns-then-oldest-x
returns-then-oldest-x c = (omega arith, c.loop-i.invariant, λ h. ap (leb c.args.oldest) (map_at (λ (x : Reading). x.at) c.args.readings.now c.loop-i.i _ 0 c.loop-i-test.true) ∙ le-leb _ _ c.if-oldest-x.true)

pub loop-i-preserved : goal.loop-i-preserved
loop-i-preserved c =
    below_more _ _ c.loop-i.invariant (ap (leb c.args.oldest) (map_at (λ (x : Reading). x.at) c.args.readings.now c.loop-i.i _ 0 c.loop-i-test.true) ∙ lt-leb _ _ c.if-oldest-x.false)

pub returns : goal.returns
returns c = (omega arith, λ j h. c.loop-i.invariant j (omega arith), λ h. absurd (omega arith))
