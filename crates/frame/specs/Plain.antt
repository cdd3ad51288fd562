-- Scaffolding. A body's bits with the convolution undone, a byte at a time, as the code makes them. Assumes nothing.
use Rattle.std.specs.Prelude.{◌≡◌, List, Bool, ◌&&◌, ℕ, ◌*◌, ◌/◌, leb, length, take}
use Rattle.coding.specs.Bits.{value, to_bytes}
use Rattle.coding.specs.Register.{run}
use Rattle.coding.specs.Convolution.{State, fresh, state_of, state_after, deconvolved}
use Rattle.frame.specs.Fields.{crc_right}
use Rattle.frame.specs.declared.plain.Prefix.{Prefix}

-- the two inputs that end a byte
abbrev pub ending : ℕ → State
ending x = state_of x (x / 2)

-- the next byte of `rest` after the inputs that end `last`, and what ends it
pub record NextByte (rank : ℕ) (rest : List Bool) (last r : ℕ) : Type 0 where
  pub byte : r ≡ value (take 8 (deconvolved rank (ending last) rest))
  pub state : ending r ≡ state_after (ending last) (take 8 (deconvolved rank (ending last) rest))

-- a prefix of some bits: the CRC's register and the state after its bytes
pub record Passed (rank : ℕ) (l : List Bool) (f : Prefix) : Type 0 where
  pub crc : f.crc ≡ run 0 (take (8 * f.bytes) (deconvolved rank fresh l))
  pub state : ending f.last ≡ state_after fresh (take (8 * f.bytes) (deconvolved rank fresh l))

-- bits that parse as a frame of n bytes with a right CRC
unfoldable pub right_bits : ℕ → ℕ → List Bool → Bool
right_bits rank n l = leb (8 * n) (length l) && crc_right n (to_bytes n (deconvolved rank fresh l))
