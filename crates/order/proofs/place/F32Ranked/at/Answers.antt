use lib.Ieee.{binary32}
use Rattle.order.proofs.Places.{low-number, low_value, high-number, high_value}
use Rattle.order.proofs.place.F32Ranked.at.Goals as goal

pub float_from_bits-result : goal.float_from_bits-result
float_from_bits-result c = let r = c.requires in low-number binary32 r.0 r.1 c.args.place r.2 c.if-place-lt-ZERO32.true

pub returns-then-place-lt-ZERO32 : goal.returns-then-place-lt-ZERO32
returns-then-place-lt-ZERO32 c = λ x h e. low_value binary32 x h c.args.place e c.if-place-lt-ZERO32.true

pub float_from_bits-result-else-place-lt-ZERO32 : goal.float_from_bits-result-else-place-lt-ZERO32
float_from_bits-result-else-place-lt-ZERO32 c = let r = c.requires in high-number binary32 r.0 r.1 c.args.place r.2 c.if-place-lt-ZERO32.false

pub returns-else-place-lt-ZERO32 : goal.returns-else-place-lt-ZERO32
returns-else-place-lt-ZERO32 c = λ x h e. high_value binary32 x h c.args.place e c.if-place-lt-ZERO32.false
