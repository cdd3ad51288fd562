-- Scaffolding. The bits between points, given by their places (bit index + 2^31): by membership, and point by point, where the points rise, as `write_bits` writes them.
use Rattle.std.specs.Prelude.{ℕ, zero, suc, ◌+◌, ◌-◌, ◌*◌, ◌<◌, ◌≤◌, Bool, false, cond, ◌||◌, List, [], ◌∷◌, map, drop, ◌==◌, Float}
use Rattle.std.specs.Float.Ieee.{to_unsigned}
use Rattle.clock.specs.Numbers.{farthest_bit}
use Rattle.clock.specs.declared.Clock.{Clock}

-- a point has place k
unfoldable pub has_place : ℕ → List ℕ → Bool
has_place k [] = false
has_place k (p ∷ ps) = k == p || has_place k ps

-- the n bits from place k on
unfoldable pub bits_from : List ℕ → ℕ → ℕ → List ℕ
unfolding has_place
bits_from points k zero = []
bits_from points k (suc n) = cond (has_place k points) 0 1 ∷ bits_from points (suc k) n

-- a 1, and the bits from the first place to the end's
unfoldable pub placed_bits : List ℕ → ℕ → ℕ → List ℕ
unfolding bits_from
placed_bits points first end = 1 ∷ bits_from points first (end + 1 - first)

-- the first of a list is k
unfoldable pub heads : ℕ → List ℕ → Bool
heads k [] = false
heads k (p ∷ ps) = k == p

unfoldable pub walked : List ℕ → ℕ → ℕ → List ℕ
unfolding heads
walked points k zero = []
walked points k (suc n) = cond (heads k points) (0 ∷ walked (drop 1 points) (suc k) n) (1 ∷ walked points (suc k) n)

-- the places of points, which stand as floats
abbrev pub places : List Float → List ℕ
places l = map (to_unsigned 64) l

-- points that rise, from k on
pub data Rising : ℕ → List ℕ → Type 0 where
  flat : {k : ℕ} → Rising k []
  rise : {k p : ℕ} {ps : List ℕ} → k ≤ p → Rising (suc p) ps → Rising k (p ∷ ps)

-- a clock with its points: they rise from its first, and its last is not before that, nor beyond the farthest
pub record Ready (c : Clock) (points : List ℕ) : Type 0 where
  pub rising : Rising c.first points
  pub order : 0 < c.count → c.first ≤ c.last
  pub low : 0 < c.count → c.last ≤ 2 * farthest_bit
