-- Which bursts a call took. Assumes nothing.
use Rattle.std.specs.Prelude.{ℕ, Bool, not, ◌&&◌, List, ℤ, pos}
use Rattle.receiver_starts.specs.Starts.{near_one}

-- a scan takes a burst whose start is not under 0.3 s from one that is remembered, and then remembers it (receiver.rs `scan`). So a call took the burst at a place of
-- the held samples where its start itself is remembered after the call (under 0.3 samples away: rate 1), and none under 0.3 s from it was before
unfoldable pub took_at : ℕ → List ℤ → ℕ → List ℤ → ℕ → Bool
took_at rate old i new j = near_one 1 new (pos j) && not (near_one rate old (pos i))
