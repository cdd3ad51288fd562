use Rattle.std.proofs.Common.{sym, refl}
use Rattle.frequency_lists.proofs.Reach.{reached}
use Rattle.frequency_lists.proofs.numbers_within.Goals as goal

pub returns-then-bits-limit : goal.returns-then-bits-limit
returns-then-bits-limit c =
    let n = c.in-Some.ensures.numbers in
    let r = reached c.args.readings.now _ c.in-Some.bits c.args.limit c.if-low-limit.true c.if-bits-limit.true c.in-Some.ensures.bits in
    sym (rw (r, sym n) refl)
