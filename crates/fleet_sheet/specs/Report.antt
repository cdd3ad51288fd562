-- What `fleet_report` answers, a refusal's number or how many devices have a row, and leaves in the result list (02, request 09; causes 2, 3, 12 and 13). Assumes nothing.
use Rattle.std.specs.Prelude.{ℕ, Bool, cond, List, [], ◌∷◌, ◌++◌, length, ℤ, pos, nat_lt}
use Rattle.limits.specs.Limits.{short, long, bad_records, many_devices, most_record_bytes}
use Rattle.event_list.specs.Events.{events_of, messages_of, list_ok}
use Rattle.fleet_sheet.specs.declared.rows.Row.{Row}
use Rattle.fleet_sheet.specs.Fleet.{row_of, devices_of}

-- 'up to 256 devices'
abbrev pub most_devices : ℕ
most_devices = 256

-- 'a result list under 2,304 places is refusal 2'
abbrev pub sheet_places : ℕ
sheet_places = 2304

-- 'nine signed 64-bit numbers: device, messages, how many had one, two and three ranks, lowest and highest clock ppm, and the sum of RSSI in half decibels with its count'
abbrev pub nine : ℕ → Row → List ℤ
nine d r = pos d ∷ r.messages ∷ r.one ∷ r.two ∷ r.three ∷ r.lowest ∷ r.highest ∷ r.halves ∷ r.messages ∷ []

-- the rows of some devices, one behind the other
unfoldable pub sheet_of : List (List ℕ) → List ℕ → List ℤ
sheet_of ms [] = []
sheet_of ms (d ∷ ds) = nine d (row_of ms d) ++ sheet_of ms ds

-- the report of a list of messages: a row for each device that has one
abbrev pub sheet : List (List ℕ) → List ℤ
sheet ms = sheet_of ms (devices_of ms)

abbrev pub fleet_messages : List ℕ → List (List ℕ)
fleet_messages l = messages_of (events_of l)

-- 12 and 13, or 0: `ok` says that 12 does not apply, whose messages these are
unfoldable pub sheet_cause : Bool → List (List ℕ) → ℕ
sheet_cause ok ms = cond ok (cond (nat_lt most_devices (length (devices_of ms))) many_devices 0) bad_records

-- the first cause that applies, 0 where none does: `places` are those of the result list
unfoldable pub fleet_cause : List ℕ → ℕ → ℕ
unfolding sheet_cause
fleet_cause l places =
    cond (nat_lt places sheet_places) short
    (cond (nat_lt most_record_bytes (length l)) long
    (sheet_cause (list_ok l) (fleet_messages l)))
