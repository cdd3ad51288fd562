-- Scaffolding. The bits of a splice in bits, and when they are a body's. Assumes nothing.
use Rattle.std.specs.Prelude.{◌≡◌, List, Bool, map}
use Rattle.coding.specs.Bits.{odd}
use Rattle.frame.specs.Splices.{spliced}
use Rattle.frame.specs.declared.bodies.Body.{Body}
use Rattle.frame.specs.declared.splices.Spliced.{Spliced}

abbrev pub bits_of : Spliced → List Bool
bits_of v = spliced v.splice (map odd v.bits.now)

-- the bits, the rank and the size of a body
abbrev pub IsOf : Spliced → Body → Type 0
IsOf v b = (v.bits.now ≡ b.bits.now) × (v.rank ≡ b.kind.rank) × (v.size ≡ b.size)
