-- Two frames read twice, computed: one step moves the answer by more than a step's 131.26 Hz; and 0.992 Hz beside d×1562500/11904 is reached. Assumes nothing.
use Rattle.std.specs.Prelude.{ℕ, ◌≤◌, false, List, [], ◌∷◌}
use Rattle.floats.specs.Number.{num}
use Rattle.record.specs.declared.FrameSpan.{FrameSpan}
use Rattle.register_error.specs.Bound.{RawReading, U32, ReadTwice, frame1_readings, Answers, least, Bound}

-- frame 1 on air from 1 s to 2 s
abbrev pub on_air : List FrameSpan
on_air = record { rank = 0; time = num 1; end = num 2 } ∷ []

abbrev pub read_at : ℕ → ℕ → RawReading
read_at at value = record { at = at; lo = 868130000; value = value }

-- one reading before SETTLE_S, which does not count, and five
abbrev pub readings : ℕ → ℕ → ℕ → ℕ → ℕ → ℕ → List RawReading
readings early a b c d e = read_at 1200 early ∷ read_at 1500 a ∷ read_at 1508 b ∷ read_at 1516 c ∷ read_at 1524 d ∷ read_at 1532 e ∷ []

-- 0, 3, 1, 2, −1 steps, and 1, 2, 2, 3, 0 steps
abbrev pub steady : List RawReading
steady = readings 700 0 3 1 2 0xfff

abbrev pub step_off : List RawReading
step_off = readings 1400 1 2 2 3 0

-- −60 steps, and 60 steps
abbrev pub lowest : List RawReading
lowest = readings 0 0xfc4 0xfc4 0xfc4 0xfc4 0xfc4

abbrev pub highest : List RawReading
highest = readings 0 60 60 60 60 60

-- all that `Bound` assumes
pub record Instance (d : ℕ) (raw raw' : List RawReading) (a b : ℕ) : Type 0 where
  pub u32 : U32 raw
  pub twice : ReadTwice d (frame1_readings 1000 on_air raw) (frame1_readings 1000 on_air raw')
  pub first : Answers 1000 raw on_air false a
  pub second : Answers 1000 raw' on_air false b

pub record Examples : Type 0 where
  -- 132 Hz apart
  pub one_step : Instance 1 steady step_off 868130131 868130263
  -- 15,752 Hz apart, which is 120 × 1562500/11904 + 11808/11904 Hz
  pub widest : Instance 120 lowest highest 868122124 868137876
  -- so the bound holds with nothing less than these 0.992 Hz
  pub no_less : (more : ℕ) → Bound more → least ≤ more
