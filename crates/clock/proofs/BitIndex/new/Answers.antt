use Rattle.clock.specs.Clock.{lost}
use Rattle.clock.proofs.BitIndex.new.Goals as goal

pub returns-then-none-beyond : goal.returns-then-none-beyond
unfolding lost
returns-then-none-beyond c = rw (c.is_nan-none.ensures.value, c.size_of-beyond.ensures) at c.if-none-beyond.true

pub invariant_of-result : goal.invariant_of-result
unfolding lost
invariant_of-result c = record { kept = rw (c.is_nan-none.ensures.value, c.size_of-beyond.ensures) at c.if-none-beyond.false }
