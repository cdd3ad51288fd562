-- Scaffolding. The CRC's register as the code has it: a number of 16 bits that takes the message's bits one after the other. No definition of 01 rests on it. Assumes nothing.
use Rattle.std.specs.Prelude.{ℕ, ◌*◌, ◌/◌, ◌%◌, Bool, cond, List, [], ◌∷◌}
use Rattle.std.specs.Int.Bits.{bit_xor}
use Rattle.coding.specs.Bits.{plus, odd}
use Rattle.coding.specs.Crc.{polynomial}

unfoldable pub step : ℕ → Bool → ℕ
step c b = cond (plus (odd (c / 32768)) b) (bit_xor (c % 32768 * 2) polynomial) (c % 32768 * 2)

unfoldable pub run : ℕ → List Bool → ℕ
unfolding step
run c [] = c
run c (b ∷ m) = run (step c b) m
