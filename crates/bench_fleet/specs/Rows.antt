-- Of an answer of `fleet_report` the number that the benchmark compares. Assumes nothing.
use Rattle.std.specs.Prelude.{ℕ}
use Rattle.limits.specs.Answer.{Answer, refused, accepted}

-- how many rows, 0 where the call is refused
abbrev pub rows_of : Answer ℕ → ℕ
rows_of (refused n) = 0
rows_of (accepted n) = n
