-- REQUEST 09'S CLAIMS, over every call of `fleet_report`: which devices have a row, 'the sums over all devices equal those over all message records', and that the order of the records doesn't matter.
-- `Call` is what the contract of `fleet_report` ensures of a call; proofs/Contracts.antt takes it from the contract itself. Assumes nothing.
use Rattle.std.specs.Prelude.{◌≡◌, ℕ, zero, suc, ◌*◌, ◌<◌, Result, List, [], length, drop, ℤ, pos, ◌+ℤ◌, slice_index_or}
use Rattle.std.proofs.lemmas.List.Edits.{sets}
use Rattle.limits.specs.Answer.{said, answer, number, leaves, accepted}
use Rattle.record.specs.Readers.{device_of}
use Rattle.event_list.specs.Events.{Reordered}
use Rattle.event_list.specs.Sums.{sum_of}
use Rattle.limits.specs.declared.Refusal.{Refusal}
use Rattle.fleet_sheet.specs.Fleet.{has_ranks, halves_of, devices_of}
use Rattle.fleet_sheet.specs.Report.{sheet, fleet_messages, fleet_cause}

-- a call: the records, the result list before and after it, and its answer
pub record Call (l : List ℕ) (before after : List ℤ) (r : Result ℕ Refusal) : Type 0 where
  pub answered : said r ≡ answer (fleet_cause l (length before)) (length (devices_of (fleet_messages l)))
  pub left : after ≡ leaves (number (said r)) (sets before 0 (sheet (fleet_messages l))) before

-- ---- THE THEOREMS

-- the device of row p
abbrev pub device_at : List ℤ → ℕ → ℤ
device_at rows p = slice_index_or rows (9 * p) (pos 0)

-- a row p of the first n, of device d
pub record RowFor (rows : List ℤ) (n d : ℕ) : Type 0 where
  pub row : ℕ
  pub inside : row < n
  pub device : device_at rows row ≡ pos d

-- a message of device d: at a place of the list
pub record MessageOf (ms : List (List ℕ)) (d : ℕ) : Type 0 where
  pub place : ℕ
  pub inside : place < length ms
  pub device : device_of (slice_index_or ms place []) ≡ d

-- 'for up to 256 devices that have a message, in rising device number': each row's device has a message, each message's device has a row, and the rows rise
pub record Devices (rows : List ℤ) (n : ℕ) (ms : List (List ℕ)) : Type 0 where
  pub rises : (p q : ℕ) → p < q → q < n → (d e : ℕ) → device_at rows p ≡ pos d → device_at rows q ≡ pos e → d < e
  pub named : (p : ℕ) → p < n → (d : ℕ) → device_at rows p ≡ pos d → MessageOf ms d
  pub heard : (d : ℕ) → MessageOf ms d → RowFor rows n d

abbrev pub EveryDevice : Type 0
EveryDevice = (l : List ℕ) (before after : List ℤ) (r : Result ℕ Refusal) (n : ℕ) → Call l before after r → said r ≡ accepted n → Devices after n (fleet_messages l)

-- the sum of number j of the first n rows
unfoldable pub column : ℕ → ℕ → List ℤ → ℤ
column zero j rows = pos 0
column (suc n) j rows = slice_index_or rows j (pos 0) +ℤ column n j (drop 9 rows)

-- 'the sums over all devices equal those over all message records'
pub record Sums (rows : List ℤ) (n : ℕ) (ms : List (List ℕ)) : Type 0 where
  pub messages : column n 1 rows ≡ pos (length ms)
  pub one : column n 2 rows ≡ sum_of (has_ranks 1) ms
  pub two : column n 3 rows ≡ sum_of (has_ranks 2) ms
  pub three : column n 4 rows ≡ sum_of (has_ranks 3) ms
  pub halves : column n 7 rows ≡ sum_of halves_of ms
  pub count : column n 8 rows ≡ pos (length ms)

abbrev pub EverySum : Type 0
EverySum = (l : List ℕ) (before after : List ℤ) (r : Result ℕ Refusal) (n : ℕ) → Call l before after r → said r ≡ accepted n → Sums after n (fleet_messages l)

-- whatever the order of the records: the same answer, and the same list
abbrev pub AnyOrder : Type 0
AnyOrder =
    (l k : List ℕ) (before after after' : List ℤ) (r r' : Result ℕ Refusal) → Reordered l k → Call l before after r → Call k before after' r'
    → (said r ≡ said r') × (after ≡ after')
