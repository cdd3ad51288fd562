use Rattle.std.proofs.Common.{refl}
use lib.Ieee.{of_bits, of_int, round}
use Rattle.explaining.specs.Margins.{margin_of}
use Rattle.explaining.proofs.margin.Goals as goal

pub returns : goal.returns
unfolding margin_of of_bits of_int round
returns c = rw (c.f32_to_f64_with_nan.ensures, c.f32_to_f64_with_nan-2.ensures) refl
