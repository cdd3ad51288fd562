-- Scaffolding. What is read so far of a list that comes in parts: the tally and the table stand for the messages among it. `fleet_report` reads its list as one part. Assumes nothing.
use Rattle.std.specs.Prelude.{◌≡◌, ℕ, ◌≤◌, Result, List, ◌++◌, length, ℤ}
use Rattle.std.proofs.lemmas.List.Edits.{sets}
use Rattle.limits.specs.Answer.{said, answer, number, leaves}
use Rattle.fleet_sheet.specs.declared.Tally.{Tally}
use Rattle.limits.specs.declared.Refusal.{Refusal}
use Rattle.fleet_sheet.specs.Fleet.{devices_of}
use Rattle.fleet_sheet.specs.Report.{sheet, fleet_messages, sheet_cause}
use Rattle.fleet_sheet.specs.declared.table.DeviceRow.{DeviceRow}
use Rattle.fleet_sheet.specs.Table.{devices_in, rows_in, Gathered}

-- the messages of what was read
pub record Held (t : Tally) (table : List DeviceRow) (ms : List (List ℕ)) : Type 0 where
  pub gathered : Gathered (devices_in table) (rows_in table) t.devices ms
  pub few : length ms ≤ t.«records»

-- some messages are
pub record Tallied (t : Tally) (table : List DeviceRow) : Type 0 where
  pub messages : List (List ℕ)
  pub held : Held t table messages

-- a part is read behind what was: its messages come behind those
abbrev pub Adds : List ℕ → Tally → List DeviceRow → Tally → List DeviceRow → Type 0
Adds l t table t' table' = (ms : List (List ℕ)) → Held t table ms → Held t' table' (ms ++ fleet_messages l)

-- the report of what was read, or refusal 12 or 13
abbrev pub Reported : Tally → List DeviceRow → Result ℕ Refusal → List ℤ → List ℤ → Type 0
Reported t table r before after =
    (ms : List (List ℕ)) → Held t table ms
    → (said r ≡ answer (sheet_cause t.ok ms) (length (devices_of ms))) × (after ≡ leaves (number (said r)) (sets before 0 (sheet ms)) before)
