-- The fleet report by counting and adding up over a device's messages (02, request 09). Assumes nothing.
use Rattle.std.specs.Prelude.{ℕ, ◌+◌, ◌/◌, ◌%◌, min, max, Bool, cond, List, [], ◌∷◌, ℤ, pos, negsuc, ◌==◌, nat_lt, Float}
use Rattle.std.specs.Float.{binary64}
use Rattle.std.specs.Float.Ieee.{mul, to_signed}
use Rattle.floats.specs.Number.{num}
use Rattle.floats.specs.Floor.{floor}
use Rattle.record.specs.Readers.{rank_of, device_of, ppm_of, rssi_of}
use Rattle.event_list.specs.Sums.{those, sum_of}
use Rattle.fleet_sheet.specs.declared.rows.Row.{Row}

-- ---- of one message

-- how many repetitions were heard: byte 1 is the sum of 1, 2, 4
abbrev pub ranks_of : List ℕ → ℕ
ranks_of m = rank_of m % 2 + rank_of m / 2 % 2 + rank_of m / 4 % 2

-- 'RSSI is rounded down to a half decibel first': as many half decibels. Twice a binary32 number is exact in binary64, and of -200 to 100 dBm the floor lies from -400 to 200.
unfoldable pub half_decibels : Float → ℤ
half_decibels x = to_signed 31 (floor (mul binary64 x (num 2)))

abbrev pub halves_of : List ℕ → ℤ
halves_of m = half_decibels (rssi_of m)

abbrev pub one_if : Bool → ℤ
one_if t = cond t (pos 1) (pos 0)

abbrev pub has_ranks : ℕ → List ℕ → ℤ
has_ranks k m = one_if (ranks_of m == k)

abbrev pub each : List ℕ → ℤ
each m = pos 1

-- ---- lowest and highest

unfoldable pub min_z : ℤ → ℤ → ℤ
min_z (pos a) (pos b) = pos (min a b)
min_z (pos a) (negsuc b) = negsuc b
min_z (negsuc a) (pos b) = negsuc a
min_z (negsuc a) (negsuc b) = negsuc (max a b)

unfoldable pub max_z : ℤ → ℤ → ℤ
max_z (pos a) (pos b) = pos (max a b)
max_z (pos a) (negsuc b) = pos a
max_z (negsuc a) (pos b) = pos b
max_z (negsuc a) (negsuc b) = negsuc (min a b)

-- `op` over the numbers of a list's elements, from z on; of a list that isn't empty from its first one
module _ {A : Type 0} (op : ℤ → ℤ → ℤ) (f : A → ℤ) where
  unfoldable pub over_from : ℤ → List A → ℤ
  over_from z [] = z
  over_from z (x ∷ l) = op (f x) (over_from z l)

  unfoldable pub over : List A → ℤ
  unfolding over_from
  over [] = pos 0
  over (x ∷ l) = over_from (f x) l

-- ---- of a device

-- what is said of messages that are all of one device
unfoldable pub row_from : List (List ℕ) → Row
unfolding min_z max_z over
row_from l = record {
  messages = sum_of each l;
  one = sum_of (has_ranks 1) l;
  two = sum_of (has_ranks 2) l;
  three = sum_of (has_ranks 3) l;
  lowest = over min_z ppm_of l;
  highest = over max_z ppm_of l;
  halves = sum_of halves_of l;
}

abbrev pub is_of : ℕ → List ℕ → Bool
is_of d m = device_of m == d

-- the row of device d
abbrev pub row_of : List (List ℕ) → ℕ → Row
row_of ms d = row_from (those (is_of d) ms)

-- a number put into a rising list, unless it is there
unfoldable pub insert : ℕ → List ℕ → List ℕ
insert d [] = d ∷ []
insert d (x ∷ l) = cond (nat_lt d x) (d ∷ x ∷ l) (cond (d == x) (x ∷ l) (x ∷ insert d l))

-- 'devices that have a message, in rising device number'
unfoldable pub devices_of : List (List ℕ) → List ℕ
unfolding insert
devices_of [] = []
devices_of (m ∷ ms) = insert (device_of m) (devices_of ms)
