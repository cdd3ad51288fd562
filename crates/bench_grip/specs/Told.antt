-- Of the answers of `nearest_message` and `on_air` the numbers that the benchmark compares. Assumes nothing.
use Rattle.std.specs.Prelude.{ℕ, ◌≡◌, Option, Some, None, Result, Ok, Err, List, Float}
use Rattle.limits.specs.Answer.{Answer, refused, accepted}
use Rattle.limits.specs.declared.Refusal.{Refusal}
use Rattle.grip.specs.Nearest.{Call}

-- the record's number; the highest number for none
abbrev pub number_of : Result (Option ℕ) Refusal → ℕ
number_of (Ok (Some n)) = n
number_of (Ok None) = 0xffff_ffff_ffff_ffff
number_of (Err e) = 0xffff_ffff_ffff_ffff

-- a call that gives it
pub record Tells (l : List ℕ) (grip within : Float) (n : ℕ) : Type 0 where
  pub answer : Result (Option ℕ) Refusal
  pub call : Call l grip within answer
  pub number : n ≡ number_of answer

-- how many record numbers there are, 0 where the call is refused
abbrev pub count_of : Answer ℕ → ℕ
count_of (refused n) = 0
count_of (accepted n) = n
