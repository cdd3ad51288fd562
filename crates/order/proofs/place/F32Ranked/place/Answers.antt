use Rattle.std.proofs.Common.{arith}
use lib.Ieee.{binary32, to_bits}
use lib.Ieee.Bits.{to_bits-lt}
use Rattle.order.specs.Order.{key}
use Rattle.order.proofs.Places.{place-high, place-low, parts}
use Rattle.order.proofs.place.F32Ranked.place.Goals as goal

pub overflow_sub-result : goal.overflow_sub-result
overflow_sub-result c = omega (arith, to_bits-lt binary32 c.args.self (parts binary32 c.args.self c.requires).0)

pub returns-then-b-lt-ZERO32 : goal.returns-then-b-lt-ZERO32
unfolding key
returns-then-b-lt-ZERO32 c = place-high binary32 (to_bits binary32 c.args.self) c.if-b-lt-ZERO32.true

pub returns-else-b-lt-ZERO32 : goal.returns-else-b-lt-ZERO32
unfolding key
returns-else-b-lt-ZERO32 c = place-low binary32 (to_bits binary32 c.args.self) c.if-b-lt-ZERO32.false
