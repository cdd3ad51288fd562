-- Marks, computed: each line is one sentence of 02. Assumes nothing.
use Rattle.std.proofs.Common.{Option, None, Some}
use mathlib.Core.Path.{◌≡◌, refl}
use mathlib.Core.List.{[], ◌∷◌}
use Prim.Native.Nat.{ℕ}
use lib.ListN.{replicate}
use lib.Ieee.{nan, round, of_int, le, lt, eq, to_unsigned, neg}
use Rattle.floats.specs.Number.{num, near}
use Rattle.shifts.specs.Shifts.{mark_of, mark_from, mark_at, holds, unmarked, inside, outside, shifts_cause, shifts_ok, start_ok, rising, rising_from}
use Rattle.shifts.specs.declared.Shifts.{Shifts}

-- one window, from a to e, in a stream that began at b
one : (Option ℕ) → ℕ → ℕ → Shifts
one b a e = record { start = b; windows = record { start = a; end = e } ∷ replicate 31 (record { start = 0; end = 0 }); count = 1 }

-- 6:00 to 14:00 of Monday, in a stream from Monday 5:59:59 on: "The start minute belongs to the window, the end minute doesn't"
early : (mark_of (one (Some 21599) 360 840) [] (near 99 100) ≡ outside) × (mark_of (one (Some 21599) 360 840) [] (num 1) ≡ inside)
unfolding one mark_from mark_at holds le lt eq round of_int to_unsigned
early = (refl, refl)

late : (mark_of (one (Some 0) 360 840) [] (near 503999 10) ≡ inside) × (mark_of (one (Some 0) 360 840) [] (num 50400) ≡ outside)
unfolding one mark_from mark_at holds le lt eq round of_int to_unsigned
late = (refl, refl)

-- 22:00 of Sunday to 6:00 of Monday: "an end before the start runs over Sunday midnight"
night : (mark_of (one (Some 604799) 10020 360) [] (num 0) ≡ inside) × (mark_of (one (Some 604799) 10020 360) [] (num 1) ≡ inside)
    × (mark_of (one (Some 604799) 10020 360) [] (num 21601) ≡ outside)
unfolding one mark_from mark_at holds le lt eq round of_int to_unsigned
night = (refl, refl, refl)

-- "equal ends mean the whole week"; closed: day 0 lasts until its midnight, here for one second
closed_day : (mark_of (one (Some 86399) 7 7) (0 ∷ 2 ∷ []) (near 9 10) ≡ outside) × (mark_of (one (Some 86399) 7 7) (0 ∷ 2 ∷ []) (num 1) ≡ inside)
    × (mark_of (one (Some 86399) 7 7) (0 ∷ 2 ∷ []) (num 86401) ≡ outside)
unfolding one mark_from mark_at holds le lt eq round of_int to_unsigned
closed_day = (refl, refl, refl)

-- both ends of the range belong to it, −0 is 0, and a time that is not a number is outside
ends : (mark_of (one (Some 0) 7 7) [] (num 10000000000) ≡ inside) × (mark_of (one (Some 0) 7 7) [] (near 100000000001 10) ≡ outside)
    × (mark_of (one (Some 0) 7 7) [] (neg (num 0)) ≡ inside) × (mark_of (one (Some 0) 7 7) [] (neg (near 1 10)) ≡ outside) × (mark_of (one (Some 0) 7 7) [] nan ≡ outside)
unfolding one mark_from mark_at holds le lt eq round of_int to_unsigned neg
ends = (refl, refl, refl, refl, refl)

-- "0 where no start second was given", on a closed date too
no_start : mark_of (one None 7 7) (0 ∷ []) (num 0) ≡ unmarked
unfolding one mark_from
no_start = refl

-- windows and dates are looked at where no start second is given too
refused : (shifts_cause (one None 10080 0) [] ≡ 11) × (shifts_cause (one None 7 7) (3 ∷ 3 ∷ []) ≡ 11) × (shifts_cause (one (Some 604800) 7 7) [] ≡ 11)
    × (shifts_cause (one (Some 604799) 10079 0) (0 ∷ 3 ∷ []) ≡ 0)
unfolding one shifts_cause shifts_ok start_ok rising rising_from
refused = (refl, refl, refl, refl)
