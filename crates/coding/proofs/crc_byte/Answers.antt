use mathlib.Core.Path.{ap, ◌∙◌}
use Prim.Native.Nat.{ℕ, ◌*◌, ◌%◌}
use native.Mathlib.Omega.{arith}
use lib.Bits.{bit_xor}
use Rattle.coding.proofs.ByteLaws.{byte_more}
use Rattle.coding.proofs.crc_byte.Goals as goal

pub returns : goal.returns
returns c =
    let a = c.args in
    ap (λ (y : ℕ). bit_xor (a.c % 256 * 256) (bit_xor (bit_xor (y % 16 * 4096) (y * 32)) y)) c.from-y.ensures
    ∙ byte_more a.c a.b (omega arith) (omega arith)
