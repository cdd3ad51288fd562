use mathlib.Core.Path.{◌≡◌, sym, ap, ◌∙◌, subst}
use Prim.Native.Nat.{ℕ, ◌^◌, ◌<◌}
use Rattle.endian.specs.Bytes.{number_at}
use Rattle.endian.proofs.Numbers.{number_lt}
use Rattle.endian.proofs.get.Given.{Over}
use Rattle.endian.proofs.get.Goals.{After-number}
use Rattle.endian.proofs.get.Goals as goal

is : (g : Over) (c : After-number g) → c.number.result ≡ number_at g.T.LittleEndian.SIZE c.args.s.now c.args.at
is g c = c.number.ensures ∙ ap (λ (k : ℕ). number_at k c.args.s.now c.args.at) c.SIZE.ensures

pub of_bits-requires : goal.of_bits-requires
of_bits-requires g c = let w = g.T.LittleEndian.SIZE in subst (λ (n : ℕ). n < 256 ^ w) (sym (is g c)) (number_lt w c.args.s.now c.args.at (λ j. (c.type_inv.s j).fits))

pub returns : goal.returns
returns g c = c.of_bits.ensures ∙ ap g.T.LittleEndian.of_pattern (is g (goal.at.returns g c).After-number)
