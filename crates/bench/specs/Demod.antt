-- Of an answer of demod.rs's calls the number that the benchmark compares, 0 where there is none. Assumes nothing.
use Rattle.std.specs.Prelude.{ℕ, Float, Option, None, Some}
use Rattle.std.specs.Float.{binary32}
use Rattle.std.specs.Float.Ieee.{of_bits}
use Rattle.limits.specs.Answer.{Answer, refused, accepted}
use Rattle.bursts.specs.declared.Burst.{Burst}
use Rattle.clock.specs.declared.BurstBits.{BurstBits}

-- the floor
abbrev pub level_of : Answer Float → Float
level_of (refused n) = of_bits binary32 0
level_of (accepted x) = x

-- where the burst ends
abbrev pub end_of : Answer (Option Burst) → ℕ
end_of (refused n) = 0
end_of (accepted None) = 0
end_of (accepted (Some b)) = b.end

-- how many dips, how many records
abbrev pub count_of : Answer ℕ → ℕ
count_of (refused n) = 0
count_of (accepted n) = n

-- how many bits
abbrev pub bit_count_of : Answer (Option BurstBits) → ℕ
bit_count_of (refused n) = 0
bit_count_of (accepted None) = 0
bit_count_of (accepted (Some v)) = v.count
