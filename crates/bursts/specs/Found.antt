-- Scaffolding. What the searches inside `find_bursts` promise, on the Rust's loop. Assumes nothing.
use Rattle.std.specs.Prelude.{◌≡◌, ℕ, suc, ◌<◌, ◌≤◌, true, List, ◌∷◌, length, drop, slice_index_or, Float}
use Rattle.std.specs.Float.{nan}
use Rattle.bursts.specs.Bursts.{cluster, none, since, loud, clusters, threshold, gap_samples, bursts_in}
use Rattle.bursts.specs.declared.BurstOptions.{BurstOptions}
use Rattle.bursts.specs.declared.Burst.{Burst}

-- the bursts that the loop finds from an index on, with no cluster open there
unfoldable pub bursts_from : List Float → ℕ → BurstOptions → Float → ℕ → List Burst
unfolding bursts_in clusters
bursts_from dbm rate o floor at = bursts_in dbm rate o floor (clusters (threshold o floor) (gap_samples o rate) none at (drop at dbm))

-- r is the first loud sample from `from` on, or the length
pub record FirstLoud (t : Float) (l : List Float) (from r : ℕ) : Type 0 where
  pub passed : (gap : ℕ) → clusters t gap none from (drop from l) ≡ clusters t gap none r (drop r l)
  pub after : from ≤ r
  pub inside : r ≤ length l
  pub there : r < length l → loud t (slice_index_or l r nan) ≡ true

-- r is the last loud sample of the cluster that `first` opens
pub record LastLoud (t : Float) (gap : ℕ) (l : List Float) (first r : ℕ) : Type 0 where
  pub closed : clusters t gap (since first first) (suc first) (drop (suc first) l)
      ≡ cluster first r ∷ clusters t gap none (suc r) (drop (suc r) l)
  pub after : first ≤ r
  pub inside : r < length l
