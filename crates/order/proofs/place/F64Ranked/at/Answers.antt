use lib.Ieee.{binary64}
use Rattle.order.proofs.Places.{low-number, low_value, high-number, high_value}
use Rattle.order.proofs.place.F64Ranked.at.Goals as goal

pub float_from_bits-result : goal.float_from_bits-result
float_from_bits-result c = let r = c.requires in low-number binary64 r.0 r.1 c.args.place r.2 c.if-place-lt-ZERO64.true

pub returns-then-place-lt-ZERO64 : goal.returns-then-place-lt-ZERO64
returns-then-place-lt-ZERO64 c = λ x h e. low_value binary64 x h c.args.place e c.if-place-lt-ZERO64.true

pub float_from_bits-result-else-place-lt-ZERO64 : goal.float_from_bits-result-else-place-lt-ZERO64
float_from_bits-result-else-place-lt-ZERO64 c = let r = c.requires in high-number binary64 r.0 r.1 c.args.place r.2 c.if-place-lt-ZERO64.false

pub returns-else-place-lt-ZERO64 : goal.returns-else-place-lt-ZERO64
returns-else-place-lt-ZERO64 c = λ x h e. high_value binary64 x h c.args.place e c.if-place-lt-ZERO64.false
