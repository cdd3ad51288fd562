-- The two tests of a dip in the Rust's sequence, and the statement that request 02's sequence finds the same dips. Assumes nothing.
use Rattle.std.specs.Prelude.{◌≡◌, ℕ, ◌-◌, Bool, ◌&&◌, List, map, length, Float}
use Rattle.rates.specs.Rates.{win_of, half_of}
use Rattle.dips.specs.Dips.{sides, neighbours, indices_from, centre, dips_of}

-- find_dips of demod.rs: the side levels first, the neighbours after
unfoldable pub sides_first : Float → ℕ → ℕ → List Float → ℕ → Bool
sides_first level win half seg i = sides level win seg i && neighbours half seg i

-- the dips that it finds
unfoldable pub rust_dips : List Float → ℕ → Float → List Float
rust_dips seg rate level = map (centre seg) (indices_from (sides_first level (win_of rate) (half_of rate) seg) (length seg - 1 - 1) 1)

-- 02, request 02: "The dips found are those found today." Of all samples, rates and levels.
abbrev pub SameDips : Type 0
SameDips = (seg : List Float) (rate : ℕ) (level : Float) → dips_of seg rate level ≡ rust_dips seg rate level
