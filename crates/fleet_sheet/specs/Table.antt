-- Scaffolding. How the rows stand in the code's table while the list is read: in the order of the devices. Assumes nothing.
use Rattle.std.specs.Prelude.{◌≡◌, ℕ, zero, suc, ◌+◌, ◌^◌, ◌<◌, ◌≤◌, Bool, cond, ◌&&◌, List, [], ◌∷◌, ◌++◌, map, length, take, drop, ℤ, pos, ◌+ℤ◌, ◌==◌, nat_lt, slice_index, slice_index_or, slice_set}
use Rattle.std.specs.Int.Signed.{mag}
use Rattle.std.proofs.Math.Seq.{slice}
use Rattle.record.specs.Readers.{ppm_of, device_of}
use Rattle.event_list.specs.Events.{is_message}
use Rattle.fleet_sheet.specs.declared.rows.Row.{Row}
use Rattle.fleet_sheet.specs.declared.table.DeviceRow.{DeviceRow}
use Rattle.fleet_sheet.specs.Report.{nine}
use Rattle.fleet_sheet.specs.Fleet.{min_z, max_z, halves_of, has_ranks, row_of, devices_of}

-- the row of a single message
abbrev pub single : List ℕ → Row
single m = record {
  messages = pos 1;
  one = has_ranks 1 m;
  two = has_ranks 2 m;
  three = has_ranks 3 m;
  lowest = ppm_of m;
  highest = ppm_of m;
  halves = halves_of m;
}

-- two rows of one device
abbrev pub merge : Row → Row → Row
merge a b = record {
  messages = a.messages +ℤ b.messages;
  one = a.one +ℤ b.one;
  two = a.two +ℤ b.two;
  three = a.three +ℤ b.three;
  lowest = min_z a.lowest b.lowest;
  highest = max_z a.highest b.highest;
  halves = a.halves +ℤ b.halves;
}

-- the sums of a row leave room for another of its kind
pub record Small (r : Row) : Type 0 where
  pub messages-small : mag r.messages < 2 ^ 62
  pub one_small : mag r.one < 2 ^ 62
  pub two_small : mag r.two < 2 ^ 62
  pub three_small : mag r.three < 2 ^ 62
  pub halves_small : mag r.halves < 2 ^ 62

-- the devices of a table, and their rows
abbrev pub devices_in : List DeviceRow → List ℕ
devices_in = map (λ e. e.device)

abbrev pub rows_in : List DeviceRow → List Row
rows_in = map (λ e. e.row)

abbrev pub no_row : Row
no_row = record { messages = pos 0; one = pos 0; two = pos 0; three = pos 0; lowest = pos 0; highest = pos 0; halves = pos 0 }

-- what stands in a table where no device has a row
abbrev pub no_entry : DeviceRow
no_entry = record { device = 0; row = no_row }

-- the row at a place
abbrev pub row_at : List Row → ℕ → Row
row_at t p = slice_index_or t p no_row

-- how many at the front of a list are below d
unfoldable pub place_of : ℕ → List ℕ → ℕ
place_of d [] = 0
place_of d (x ∷ l) = cond (nat_lt x d) (suc (place_of d l)) 0

-- each is above those before it
abbrev pub Rising : List ℕ → Type 0
Rising l = (i j : ℕ) → i < j → j < length l → slice_index l i < slice_index l j

-- the places from `from` up to `to` moved on by w
abbrev pub shifted : {A : Type 0} → ℕ → ℕ → ℕ → List A → List A
shifted w from to l = take (from + w) l ++ (slice from to l ++ drop (to + w) l)

-- ---- a record is taken into the first n rows

abbrev pub rows_most : ℕ
rows_most = 256

-- more than the table holds
abbrev pub overfull : ℕ
overfull = 257

abbrev pub at : List ℕ → ℕ → List ℕ → ℕ
at m n ids = place_of (device_of m) (take n ids)

abbrev pub is_there : ℕ → ℕ → ℕ → List ℕ → Bool
is_there d p n ids = nat_lt p n && slice_index ids p == d

abbrev pub is_known : List ℕ → ℕ → List ℕ → Bool
is_known m n ids = is_there (device_of m) (at m n ids) n ids

unfoldable pub taken_count : List ℕ → ℕ → List ℕ → ℕ
unfolding place_of
taken_count m n ids = cond (is_message m) (cond (is_known m n ids) n (cond (nat_lt n rows_most) (n + 1) overfull)) n

unfoldable pub taken_ids : List ℕ → ℕ → List ℕ → List ℕ
unfolding place_of
taken_ids m n ids =
    cond (is_message m) (cond (is_known m n ids) ids (cond (nat_lt n rows_most) (slice_set (shifted 1 (at m n ids) n ids) (at m n ids) (device_of m)) ids)) ids

unfoldable pub taken_rows : List ℕ → ℕ → List ℕ → List Row → List Row
unfolding place_of
taken_rows m n ids t =
    cond (is_message m)
    (cond (is_known m n ids)
    (slice_set t (at m n ids) (merge (row_at t (at m n ids)) (single m)))
    (cond (nat_lt n rows_most) (slice_set (shifted 1 (at m n ids) n t) (at m n ids) (single m)) t))
    t

-- the first n rows are those of some messages
pub record Stands (ids : List ℕ) (t : List Row) (n : ℕ) (ms : List (List ℕ)) : Type 0 where
  pub places : length ids ≡ rows_most
  pub long : length t ≡ rows_most
  pub many : n ≡ length (devices_of ms)
  pub room : n ≤ rows_most
  pub named : take n ids ≡ devices_of ms
  pub held : take n t ≡ map (row_of ms) (devices_of ms)

-- what reading a list ends with: its rows, or more devices than the table holds
pub record Gathered (ids : List ℕ) (t : List Row) (n : ℕ) (ms : List (List ℕ)) : Type 0 where
  pub under : n ≤ rows_most → Stands ids t n ms
  pub above : rows_most < n → rows_most < length (devices_of ms)

-- the nine numbers of each of the first n rows
unfoldable pub nines : ℕ → List ℕ → List Row → List ℤ
nines zero ids t = []
nines (suc p) ids t = nines p ids t ++ nine (slice_index ids p) (row_at t p)
