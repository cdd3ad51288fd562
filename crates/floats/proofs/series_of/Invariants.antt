-- The invariant: the terms that are left, from here on, make the whole.
use Rattle.std.proofs.Common.{◌≡◌, ℕ, ◌+◌, ◌-◌, ◌*◌, ◌≤◌}
use Rattle.floats.specs.Trig.{terms, series}
use Rattle.floats.proofs.series_of.Given as goal

abbrev pub invariant-loop-n : goal.invariant-loop-n
invariant-loop-n g l =
    (1 ≤ l.n)
    × ((o : ℕ) → ((n d : ℕ) → 1 ≤ n → goal.F-post g l.divisor n d → d ≡ (2 * n - 1 + o) * (2 * n + o)) → series o (l.n - 1) l.q l.p ≡ series o terms l.q l.initial.p)
