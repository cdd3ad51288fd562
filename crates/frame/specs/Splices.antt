-- Scaffolding. A repair in the form in which the code tries it: `put` bits, 0 or 1 of them, in the place of `skip` bits. Assumes nothing.
use Rattle.std.specs.Prelude.{ℕ, Bool, true, List, ltb, replicate, Option, None, Some}
use Rattle.coding.specs.Bits.{odd}
use Rattle.frame.specs.Repairs.{replaced}
use Rattle.frame.specs.declared.Repair.{Repair}
use Rattle.frame.specs.declared.Repair.TheVariants.{Inserted, Deleted, Flipped}
use Rattle.frame.specs.declared.splices.Splice.{Splice}

unfoldable pub spliced : Splice → List Bool → List Bool
unfolding replaced
spliced s l = replaced s.at (replicate s.put (odd s.bit)) s.skip l

-- no repair, or one at one of n places
unfoldable pub placed : Option Repair → ℕ → Bool
placed None n = true
placed (Some (Inserted b at)) n = ltb at n
placed (Some (Deleted at)) n = ltb at n
placed (Some (Flipped at)) n = ltb at n

-- the place of a repair
abbrev pub place : Repair → ℕ
place (Inserted b at) = at
place (Deleted at) = at
place (Flipped at) = at

-- the splice that changes nothing
abbrev pub keeping : Splice
keeping = record { at = 0; put = 0; bit = 0; skip = 0 }
