-- The single-bit errors of a frame's body that decoding undoes, and the order in which it tries them (frame.rs repairs; 01: 'for each place in order:
-- true inserted, false inserted, deleted, flipped'). Assumes nothing.
use Rattle.std.specs.Prelude.{ℕ, zero, suc, ◌+◌, Bool, true, false, not, cond, List, [], ◌∷◌, ◌++◌, take, drop, get_or, Option, None, Some}
use Rattle.frame.specs.declared.Repair.{Repair}
use Rattle.frame.specs.declared.Repair.TheVariants.{Inserted, Deleted, Flipped}

-- `skip` bits at a place replaced by `middle` (frame.rs `with`)
unfoldable pub replaced : ℕ → List Bool → ℕ → List Bool → List Bool
replaced at middle skip l = take at l ++ (middle ++ drop (at + skip) l)

-- the body after a repair, or as it is
unfoldable pub repaired : Option Repair → List Bool → List Bool
unfolding replaced
repaired None l = l
repaired (Some (Inserted b at)) l = replaced at (b ∷ []) 0 l
repaired (Some (Deleted at)) l = replaced at [] 1 l
repaired (Some (Flipped at)) l = replaced at (not (get_or l at false) ∷ []) 1 l

-- those at n places from i
unfoldable pub repairs : ℕ → ℕ → List Repair
repairs zero i = []
repairs (suc n) i = Inserted true i ∷ Inserted false i ∷ Deleted i ∷ Flipped i ∷ repairs n (suc i)

-- the first repair that passes
unfoldable pub first_of : (Repair → Bool) → List Repair → Option Repair
first_of ok [] = None
first_of ok (h ∷ hs) = cond (ok h) (Some h) (first_of ok hs)
