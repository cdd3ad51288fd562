-- What the clock makes of a dip, with its reason: clock's `step`, whose two causes of a skip are told apart. Assumes nothing.
use Rattle.std.specs.Prelude.{◌≡◌, ℕ, Bool, cond, ◌&&◌, List, [], ◌∷◌, nat_le, nat_lt, Float}
use Rattle.std.specs.Float.{binary64}
use Rattle.std.specs.Float.Ieee.{add, sub, mul, div, lt}
use Rattle.floats.specs.Trig.{magnitude}
use Rattle.clock.specs.Numbers.{off_grid}
use Rattle.clock.specs.Clock.{lost}
use Rattle.clock.specs.Running.{place, index_at, summed, refit, step, points_from}
use Rattle.clock.specs.declared.Clock.{Clock}
use Rattle.clock.specs.declared.Step.{Step}
use Rattle.clock.specs.declared.Step.TheVariants as steps
use Rattle.explaining.specs.declared.Verdict.{Verdict}
use Rattle.explaining.specs.declared.Verdict.TheVariants.{Lost, OffGrid, Behind, Accepted}

-- the grid line of bit index k
abbrev pub line : Clock → Float → Float
line c k = add binary64 c.phase (mul binary64 k c.period)

-- how far a dip is from it, in bits
unfoldable pub off_by : Clock → Float → Float → Float
off_by c d k = div binary64 (sub binary64 d (line c k)) c.period

-- demod.rs: (d - predicted).abs() > 0.35 * period
unfoldable pub is_far : Clock → Float → Float → Bool
is_far c d k = lt (mul binary64 off_grid c.period) (magnitude (sub binary64 d (line c k)))

-- demod.rs: k <= points.last().0
unfoldable pub is_behind : Clock → Float → Bool
is_behind c k = nat_lt 0 c.count && nat_le (place k) c.last

-- the reason of a skip: where a dip is both too far and behind, it is too far
unfoldable pub skipped_by : Bool → Float → Verdict
skipped_by far off = cond far (OffGrid off) (Behind off)

unfoldable pub judged : Clock → Float → Verdict
unfolding off_by is_far is_behind
judged c d =
    cond (lost (index_at c d)) Lost
    (cond (is_far c d (index_at c d)) (OffGrid (off_by c d (index_at c d)))
    (cond (is_behind c (index_at c d)) (Behind (off_by c d (index_at c d)))
    (Accepted (refit (summed c d (index_at c d))) (off_by c d (index_at c d)))))

-- what a verdict says of the clock
unfoldable pub step_of : Verdict → Step
step_of Lost = steps.Lost
step_of (OffGrid x) = steps.Skipped
step_of (Behind x) = steps.Skipped
step_of (Accepted c x) = steps.Joined c

-- the clock behind a verdict
unfoldable pub clock_after : Clock → Verdict → Clock
clock_after c Lost = c
clock_after c (OffGrid x) = c
clock_after c (Behind x) = c
clock_after c (Accepted e x) = e

-- the verdicts on all dips, in order
unfoldable pub judged_from : Clock → List Float → List Verdict
unfolding judged clock_after
judged_from c [] = []
judged_from c (d ∷ ds) = judged c d ∷ judged_from (clock_after c (judged c d)) ds

-- the places of those that are accepted
unfoldable pub places_of : List Verdict → List ℕ
places_of [] = []
places_of (Lost ∷ vs) = places_of vs
places_of (OffGrid x ∷ vs) = places_of vs
places_of (Behind x ∷ vs) = places_of vs
places_of (Accepted c x ∷ vs) = c.last ∷ places_of vs

-- each verdict is the clock's step, and the dips that are accepted are the points that the clock is fitted to and the bits are read from
abbrev pub SameStep : Type 0
SameStep = (c : Clock) (d : Float) → step_of (judged c d) ≡ step c d

abbrev pub SamePoints : Type 0
SamePoints = (c : Clock) (ds : List Float) → places_of (judged_from c ds) ≡ points_from c ds
