-- Shift windows (02, request 03): which are accepted, and the mark of a message by its time. Assumes nothing.
use Rattle.std.specs.Prelude.{List, [], ◌∷◌, Bool, true, ◌&&◌, ◌||◌, cond, ℕ, ◌+◌, ◌/◌, ◌%◌, take, replicate, leb, ltb, eqb, Float, Option, None, Some}
use Rattle.std.specs.List.{list_all, list_any}
use Rattle.std.specs.Float.Ieee.{le, to_unsigned}
use Rattle.floats.specs.Number.{num}
use Rattle.limits.specs.Limits.{bad_shifts}
use Rattle.shifts.specs.declared.Window.{Window}
use Rattle.shifts.specs.declared.Shifts.{Shifts}
use Rattle.shifts.specs.declared.Given.{Given}

-- "up to 32 windows"
abbrev pub most_windows : ℕ
most_windows = 32

-- minutes and seconds of a week, seconds of a day
abbrev pub week_min : ℕ
week_min = 10080

abbrev pub week_s : ℕ
week_s = 604800

abbrev pub day_s : ℕ
day_s = 86400

-- "from 0 to 10^10 s"
abbrev pub farthest : ℕ
farthest = 10000000000

-- "Event byte 34 holds the mark: 1 inside, 2 outside, 0 where no start second was given"
abbrev pub unmarked : ℕ
unmarked = 0

abbrev pub inside : ℕ
inside = 1

abbrev pub outside : ℕ
outside = 2

-- the windows that the count names
abbrev pub windows_of : Shifts → List Window
windows_of s = take s.count s.windows

-- no start second, no window
abbrev pub no_shifts : Shifts
no_shifts = record { start = None; windows = replicate most_windows (record { start = 0; end = 0 }); count = 0 }

-- ---- refusal 11

-- not "a start second of 604,800 or more"
unfoldable pub start_ok : Option ℕ → Bool
start_ok (Some s) = ltb s week_s
start_ok None = true

-- not "a minute of 10,080 or more"
abbrev pub window_ok : Window → Bool
window_ok w = ltb w.start week_min && ltb w.end week_min

abbrev pub windows_ok : List Window → Bool
windows_ok l = list_all window_ok l

-- every date of l is above the one before it, the first above d
unfoldable pub rising_from : ℕ → List ℕ → Bool
rising_from d [] = true
rising_from d (e ∷ l) = ltb d e && rising_from e l

-- not "closed dates that don't rise"
unfoldable pub rising : List ℕ → Bool
rising [] = true
rising (d ∷ l) = rising_from d l

-- windows and dates are looked at whether or not a start second is given (docs/DECISIONS.md 82)
unfoldable pub shifts_ok : Shifts → List ℕ → Bool
shifts_ok s closed = start_ok s.start && (leb s.count most_windows && (windows_ok (windows_of s) && rising closed))

-- "It refuses, after 10, with 11 .."
unfoldable pub shifts_cause : Shifts → List ℕ → ℕ
shifts_cause s closed = cond (shifts_ok s closed) 0 bad_shifts

-- ---- the mark

-- "a message whose time is not from 0 to 10^10 s" is outside: both ends belong to it, and a NaN doesn't
abbrev pub in_range : Float → Bool
in_range x = le (num 0) x && le x (num farthest)

-- a time from 0 on "rounded down to a second" (law `rounded-down`)
abbrev pub second : Float → ℕ
second x = to_unsigned 64 x

-- "listed as a day number from the stream's first day (0, until its midnight)", after t whole seconds
abbrev pub day_at : ℕ → ℕ → ℕ
day_at start t = (start % day_s + t) / day_s

abbrev pub minute_at : ℕ → ℕ → ℕ
minute_at start t = (start + t) % week_s / 60

abbrev pub among : ℕ → List ℕ → Bool
among d l = list_any (eqb d) l

-- "The start minute belongs to the window, the end minute doesn't; an end before the start runs over Sunday midnight; equal ends mean the whole week"
-- (law `as-walked`: the minutes of a walk from the start to the end)
unfoldable pub holds : ℕ → Window → Bool
holds m w =
    cond (eqb w.start w.end) true
    (cond (ltb w.start w.end) (leb w.start m && ltb m w.end) (leb w.start m || ltb m w.end))

abbrev pub any_holds : ℕ → List Window → Bool
any_holds m l = list_any (holds m) l

-- "On a closed date .. every message is outside"
unfoldable pub mark_at : ℕ → Shifts → List ℕ → ℕ → ℕ
mark_at start s closed t =
    cond (among (day_at start t) closed) outside
    (cond (any_holds (minute_at start t) (windows_of s)) inside outside)

unfoldable pub mark_from : Option ℕ → Shifts → List ℕ → Float → ℕ
mark_from None s closed x = unmarked
mark_from (Some start) s closed x = cond (in_range x) (mark_at start s closed (second x)) outside

-- "every message is marked inside or outside by its time, rounded down to a second"
abbrev pub mark_of : Shifts → List ℕ → Float → ℕ
mark_of s closed x = mark_from s.start s closed x

-- ---- what a call is given

-- the start second with the windows, and the closed dates
pub record Schedule : Type 0 where
  pub shifts : Shifts
  pub closed : List ℕ

abbrev pub schedule : Given → Schedule
schedule g = record { shifts = g.shifts; closed = g.closed.now }

abbrev pub no_schedule : Schedule
no_schedule = record { shifts = no_shifts; closed = [] }

abbrev pub schedule_cause : Schedule → ℕ
schedule_cause p = shifts_cause p.shifts p.closed

abbrev pub mark_by : Schedule → Float → ℕ
mark_by p x = mark_of p.shifts p.closed x
