-- The tracker's lists as frequency.rs has them: readings and tunings, the last of a list, tests of each element, and the readings of a line. Assumes nothing.
use Rattle.std.specs.Prelude.{ℕ, ◌+◌, ◌^◌, ◌<◌, ◌≤◌, Bool, cond, not, ◌&&◌, leb, List, [], ◌∷◌, map, length, get_or, is_nan, nat_le, Float}
use Rattle.std.specs.List.{list_all}
use Rattle.cfo.specs.Cfo.{reading_hz}
use Rattle.frequency_signal.specs.Seconds.{settling}
use Rattle.frequency_lists.specs.declared.Reading.{Reading}
use Rattle.frequency_lists.specs.declared.Tuning.{Tuning}

-- CFO_EVERY: one CFO value per 8 RSSI samples
abbrev pub cfo_every : ℕ
cfo_every = 8

-- the last element, or d: last().map_or(d, ..)
unfoldable pub last_or : {A : Type 0} → A → List A → A
last_or d [] = d
last_or d (x ∷ l) = last_or x l

-- 'tracker counts within their lists': the list has a place for every reading
abbrev pub fits_readings : ℕ → List Reading → Bool
fits_readings end l = nat_le end (length l)

abbrev pub fits_tunings : ℕ → List Tuning → Bool
fits_tunings end l = nat_le end (length l)

-- the columns of the lists
abbrev pub ats : List Reading → List ℕ
ats l = map (λ (x : Reading). x.at) l

abbrev pub hzs : List Reading → List Float
hzs l = map (λ (x : Reading). x.hz) l

abbrev pub tuneds : List Tuning → List ℕ
tuneds l = map (λ (u : Tuning). u.at) l

abbrev pub freqs : List Tuning → List ℕ
freqs l = map (λ (u : Tuning). u.freq) l

-- indices 0 to n
abbrev pub up_to : ℕ → List ℕ → Bool
up_to n l = list_all (λ (a : ℕ). leb a n) l

abbrev pub read_up_to : ℕ → List Reading → Bool
read_up_to n l = list_all (λ (x : Reading). leb x.at n) l

abbrev pub tuned_up_to : ℕ → List Tuning → Bool
tuned_up_to n l = list_all (λ (u : Tuning). leb u.at n) l

-- indices that are small enough for the 60 s
abbrev pub Small : List ℕ → Type 0
Small l = (i : ℕ) → i < length l → get_or l i 0 ≤ 2 ^ 41

-- low + r reaches a; and a is not before low, where the two are below 2^64
abbrev pub Reaches : ℕ → ℕ → ℕ → Type 0
Reaches low r a = (a ≤ low + r) × (r + low < 2 ^ 64 → low ≤ a)

-- of each index of a list
abbrev pub ReachesAll : ℕ → ℕ → List ℕ → Type 0
ReachesAll low r l = (i : ℕ) → i < length l → Reaches low r (get_or l i 0)

-- 'any NaN'
abbrev pub no_nan : List Float → Bool
no_nan l = list_all (λ (x : Float). not (is_nan x)) l

abbrev pub all_numbers : List Reading → Bool
all_numbers l = list_all (λ (x : Reading). not (is_nan x.hz)) l

-- cfo: the readings of a line's values, from the index at on. tuned: the last tuning's index; more: whether there is more than one tuning
unfoldable pub readings_from : ℕ → Float → Bool → ℕ → ℕ → ℕ → List ℕ → List Reading
readings_from rate step more tuned lo at [] = []
readings_from rate step more tuned lo at (v ∷ vs) =
    let rest = readings_from rate step more tuned lo (at + cfo_every) vs in
    cond (settling rate tuned at && more) rest (record { at = at; lo = lo; hz = reading_hz lo v step } ∷ rest)
