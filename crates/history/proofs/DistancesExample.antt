-- Distances worked out, at 1,000 samples a second: what a state's starts stand for, what a drop and a scan's end make of them, and the order at its edges.
use mathlib.Core.Path.{◌≡◌, refl}
use mathlib.Core.Bool.{Bool, true, false}
use mathlib.Core.List.{List, [], ◌∷◌, map}
use Prim.Native.Nat.{ℕ}
use lib.IntN.{ℤ, pos, negsuc, ◌+ℤ◌}
use Rattle.receiver_starts.specs.Starts as starts
use Rattle.receiver_starts.specs.Starts.{lately, moved, near_one, starts_ok}

-- starts at 5,999, 6,000 and 7,400, seen from the base 7,000: −1,001, −1,000 and 400
abbrev seen : List ℤ
seen = negsuc 1000 ∷ negsuc 999 ∷ pos 400 ∷ []

abbrev from : ℕ → List ℤ → List ℤ
from base l = map (λ (d : ℤ). pos base +ℤ d) l

there : from 7000 seen ≡ pos 5999 ∷ pos 6000 ∷ pos 7400 ∷ []
there = refl

-- a drop moves the base by 6,000 and the distances with it: the samples stay
dropped : from 13000 (moved 6000 seen) ≡ from 7000 seen
dropped = refl

-- a scan's end forgets what lies over a second before the base
forgotten : lately 1000 seen ≡ negsuc 999 ∷ pos 400 ∷ []
unfolding lately
forgotten = refl

-- a burst at buffer index 699 is under 0.3 s from the start at 7,400, one at 700 is not
near : near_one 1000 seen (pos 699) ≡ true
unfolding near_one
near = refl

far : near_one 1000 seen (pos 700) ≡ false
unfolding near_one
far = refl

-- the order of a state with one start, at the base 500, with 12 s held
abbrev ordered : ℤ → Bool
ordered d = starts_ok 1000 500 12000 (record { at = d ∷ []; count = 1 })

-- sample 0 is the first, and what is below minus the base is none
first : ordered (negsuc 499) ≡ true
unfolding starts.all_below starts.all_from starts.all_apart starts.near_one
first = refl

none : ordered (negsuc 500) ≡ false
unfolding starts.all_below starts.all_from starts.all_apart starts.near_one
none = refl

last : ordered (pos 11999) ≡ true
unfolding starts.all_below starts.all_from starts.all_apart starts.near_one
last = refl

end : ordered (pos 12000) ≡ false
unfolding starts.all_below starts.all_from starts.all_apart starts.near_one
end = refl
