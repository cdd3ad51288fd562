-- A window walked minute by minute, as with a finger on a calendar: law `as-walked` has the test of a window equal to it. Assumes nothing.
use Rattle.std.specs.Prelude.{Bool, false, ◌||◌, cond, ℕ, zero, suc, ◌+◌, ◌%◌, eqb}
use Rattle.shifts.specs.Shifts.{week_min}
use Rattle.shifts.specs.declared.Window.{Window}

-- the minute after a: Monday's first after Sunday's last
abbrev pub next : ℕ → ℕ
next a = (a + 1) % week_min

-- the minute m is met on a walk of at most n minutes, from the minute a on, that ends where the next one is e
unfoldable pub meets : ℕ → ℕ → ℕ → ℕ → Bool
meets zero m a e = false
meets (suc n) m a e = eqb a m || cond (eqb (next a) e) false (meets n m (next a) e)

-- no walk is longer than a week: one that ends where it began is the whole week
abbrev pub walked : ℕ → Window → Bool
walked m w = meets week_min m w.start w.end
