use Rattle.clock.specs.Bits.{end_index}
use lib.Ieee.{of_bits, of_int, round}
use Rattle.clock.proofs.end_index.Goals as goal

pub returns : goal.returns
unfolding end_index of_bits of_int round
returns c = cc (c.floor64.ensures, c.count_as_f64.ensures, c.last_high-high.ensures.0, c.f32_to_f64_with_nan.ensures)
