-- What an array of starts stands for, the steps over it, and the order of a state as far as its starts go. Assumes nothing.
-- 02, request 10: "Remembered starts become signed 32-bit distances from the first held sample", whose absolute index is the base.
use Rattle.std.specs.Prelude.{List, [], ◌∷◌, ◌++◌, map, Bool, true, false, not, ◌&&◌, ◌||◌, cond, ℕ, suc, ◌+◌, ◌-◌, ◌*◌, length, take, drop, replicate, leb, ltb, ℤ, pos, negsuc, neg_ℤ, nat_abs, ◌-ℤ◌}
use Rattle.std.proofs.Math.IntN.{sub_ℕ}
use Rattle.std.specs.Int.Signed.{le_z, lt_z}
use Rattle.ledger.specs.Causes.{most_starts, oldest_s}
use Rattle.receiver_starts.specs.declared.Starts.{Starts}

-- the distances that are remembered, in order
abbrev pub distances : Starts → List ℤ
distances s = take s.count s.at

-- the distance of the sample s, and the sample at a distance: none is below minus the base in a state in order, and 0 stands for one that is
abbrev pub distance_of : ℕ → ℕ → ℤ
distance_of base s = sub_ℕ s base

unfoldable pub sample_at : ℕ → ℤ → ℕ
sample_at base (pos n) = base + n
sample_at base (negsuc k) = base - suc k

-- of absolute starts, and the absolute starts
abbrev pub distances_of : ℕ → List ℕ → List ℤ
distances_of base l = map (distance_of base) l

abbrev pub remembered : ℕ → Starts → List ℕ
remembered base s = map (sample_at base) (distances s)

-- no start, and 0 in every place
abbrev pub none : Starts
none = record { at = replicate most_starts (pos 0); count = 0 }

-- the distances l in the first places of an array; places past the count keep their contents
unfoldable pub over : Starts → List ℤ → Starts
over s l = record { at = l ++ drop (length l) s.at; count = length l }

-- ---- steps

-- the distance x is under 0.3×rate samples from one of l
unfoldable pub near_one : ℕ → List ℤ → ℤ → Bool
near_one rate [] x = false
near_one rate (d ∷ l) x = ltb (10 * nat_abs (d -ℤ x)) (3 * rate) || near_one rate l x

-- those that are not below −back
unfoldable pub lately : ℕ → List ℤ → List ℤ
lately back [] = []
lately back (d ∷ l) = cond (le_z (neg_ℤ (pos back)) d) (d ∷ lately back l) (lately back l)

-- "dropping the older half of the buffer moves them all"
abbrev pub moved : ℕ → List ℤ → List ℤ
moved by l = map (λ (d : ℤ). d -ℤ pos by) l

-- ---- the order, over the distances

-- "below base + held": below held
unfoldable pub all_below : ℕ → List ℤ → Bool
all_below held [] = true
all_below held (d ∷ l) = lt_z d (pos held) && all_below held l

-- none is below −back
unfoldable pub all_from : ℕ → List ℤ → Bool
all_from back [] = true
all_from back (d ∷ l) = le_z (neg_ℤ (pos back)) d && all_from back l

-- "pairwise at least 0.3 s apart": none of l is nearer to one of acc or to an earlier one of l
unfoldable pub all_apart : ℕ → List ℤ → List ℤ → Bool
all_apart rate acc [] = true
all_apart rate acc (d ∷ l) = not (near_one rate acc d) && all_apart rate (acc ++ (d ∷ [])) l

-- "at most 96 remembered starts, below base + held, not before base − 7×rate", "and none may be below minus the base", "pairwise at least 0.3 s apart"
abbrev pub starts_ok : ℕ → ℕ → ℕ → Starts → Bool
starts_ok rate base held s =
    leb s.count most_starts
    && (all_below held (distances s)
    && (all_from (oldest_s * rate) (distances s) && (all_from base (distances s) && all_apart rate [] (distances s))))
