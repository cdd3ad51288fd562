use Rattle.std.proofs.Common.{arith}
use lib.Ieee.{binary64, to_bits}
use lib.Ieee.Bits.{to_bits-lt}
use Rattle.order.specs.Order.{key}
use Rattle.order.proofs.Places.{place-high, place-low, parts}
use Rattle.order.proofs.place.F64Ranked.place.Goals as goal

pub overflow_sub-result : goal.overflow_sub-result
overflow_sub-result c = omega (arith, to_bits-lt binary64 c.args.self (parts binary64 c.args.self c.requires).0)

pub returns-then-b-lt-ZERO64 : goal.returns-then-b-lt-ZERO64
unfolding key
returns-then-b-lt-ZERO64 c = place-high binary64 (to_bits binary64 c.args.self) c.if-b-lt-ZERO64.true

pub returns-else-b-lt-ZERO64 : goal.returns-else-b-lt-ZERO64
unfolding key
returns-else-b-lt-ZERO64 c = place-low binary64 (to_bits binary64 c.args.self) c.if-b-lt-ZERO64.false
