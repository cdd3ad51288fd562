-- Scaffolding. How the code counts and prices: a count for each day of what is read so far of a list that comes in parts, and how far the steps reach. `charges` reads its list as one part. Assumes nothing.
use Rattle.std.specs.Prelude.{ℕ, zero, suc, ◌+◌, ◌-◌, ◌/◌, ◌≤◌, min, ◌≡◌, Bool, true, cond, List, [], ◌∷◌, eqb, length, get_or, set, ℤ, nat_abs, Float, Option, Some, None}
use Rattle.std.specs.Float.Ieee.{to_unsigned}
use Rattle.record.specs.Readers.{time_of}
use Rattle.event_list.specs.Events.{is_message}
use Rattle.subscription.specs.declared.Plan.{Plan}
use Rattle.subscription.specs.Charges.{day_s, days, between, in_month, start_ok, upper_of}

-- where the days begin; where the month's start is refused, anything serves
abbrev pub second_of : ℤ → ℕ
second_of z = cond (start_ok z) (nat_abs z) 0

-- the day of a time, by its whole seconds; `days` where it lies outside the month
unfoldable pub day_at : ℕ → Float → ℕ
unfolding to_unsigned
day_at start t = cond (between start 0 days t) ((to_unsigned 64 t - start) / day_s) days

-- the day of a time in the month
abbrev pub day_in : ℕ → Float → Option ℕ
day_in start t = cond (between start 0 days t) (Some (day_at start t)) None

-- a count is raised by one; there is none at `days`
abbrev pub raised : List ℕ → ℕ → List ℕ
raised c d = set c d (get_or c d 0 + 1)

-- a message is counted on its day
unfoldable pub stepped : ℕ → List ℕ → List ℕ → List ℕ
unfolding day_at
stepped start c r = cond (is_message r) (raised c (day_at start (time_of r))) c

-- no message outside the month
abbrev pub inside : ℕ → List ℕ → Bool
inside start r = cond (is_message r) (in_month start r) true

-- the counts after some records
unfoldable pub tallied : ℕ → List ℕ → List (List ℕ) → List ℕ
unfolding stepped
tallied start c [] = c
tallied start c (r ∷ rs) = tallied start (stepped start c r) rs

-- no day has more messages than there were records
pub record Few (c : List ℕ) (n : ℕ) : Type 0 where
  pub size : length c ≡ days
  pub under : (j : ℕ) → get_or c j 0 ≤ n

-- how many of x extra messages of a day the first j steps take; the last step takes all
abbrev pub reached : Plan → ℕ → ℕ → ℕ
reached plan x zero = 0
reached plan x (suc j) = cond (eqb (suc j) plan.count) x (min x (upper_of plan j))
