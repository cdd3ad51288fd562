-- The counts hold what was read, and the bytes are counted up.
use Rattle.std.proofs.Common.{rules, arith}
use Rattle.subscription.proofs.CountLaws.{few-zeros}
use Rattle.charges.proofs.charge_input.Goals as goal

pub loop-bytes-init : goal.loop-bytes-init
loop-bytes-init g c = (search rules, c.second_of-start.ensures.1, omega (arith, c.no_records-t.ensures.0), few-zeros _)

pub total-requires : goal.total-requires
total-requires g c =
    let l = c.loop-bytes in
    record { size = l.invariant.3.size; under = λ j. omega (arith, l.invariant.3.under j, l.invariant.2, c.loop-bytes-test.true) }
