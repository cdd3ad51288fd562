-- The report's answers, one for each way through the calls. Assumes nothing.
use Rattle.std.proofs.Common.{◌≡◌, ℕ, ◌<◌, ◌≤◌, Bool, true, false, List, length, ℤ, sym, refl, ap, ◌∙◌, le-ltb, lt-ltb}
use lib.Seq.{sets}
use Rattle.std.specs.Prelude.{Result, Ok, Err}
use Rattle.limits.specs.declared.Refusal.{Refusal}
use Rattle.limits.specs.declared.Refusal.TheVariants.{Short, Long, BadRecords, ManyDevices}
use Rattle.limits.specs.Limits.{most_record_bytes}
use Rattle.limits.specs.Answer.{said, said_by, accepted, answer, number, leaves}
use Rattle.event_list.specs.Events.{list_ok}
use Rattle.fleet_sheet.specs.Fleet.{devices_of}
use Rattle.fleet_sheet.specs.Report.{most_devices, sheet_places, sheet, fleet_messages, sheet_cause, fleet_cause}

-- ---- of what was read

module _ (ok : Bool) (ms : List (List ℕ)) (rows : List ℤ) where
  abbrev pub Reports : Result ℕ Refusal → List ℤ → Type 0
  Reports r rows' = (said r ≡ answer (sheet_cause ok ms) (length (devices_of ms))) × (rows' ≡ leaves (number (said r)) (sets rows 0 (sheet ms)) rows)

  pub reports_bad : ok ≡ false → Reports (Err BadRecords) rows
  unfolding said_by sheet_cause answer number leaves
  reports_bad e = rw e (refl, refl)

  pub reports_many : ok ≡ true → most_devices < length (devices_of ms) → Reports (Err ManyDevices) rows
  unfolding said_by sheet_cause answer number leaves
  reports_many e h = rw (e, lt-ltb most_devices (length (devices_of ms)) h) (refl, refl)

  pub reports_rows : ok ≡ true → (n : ℕ) (rows' : List ℤ) → n ≡ length (devices_of ms) → length (devices_of ms) ≤ most_devices → rows' ≡ sets rows 0 (sheet ms)
      → Reports (Ok n) rows'
  unfolding said_by sheet_cause answer number leaves
  reports_rows e n rows' m h s = rw (e, le-ltb most_devices (length (devices_of ms)) h) (ap accepted m, s)

-- ---- of a list

module _ (l : List ℕ) (rows : List ℤ) where
  abbrev pub Says : Result ℕ Refusal → List ℤ → Type 0
  Says r rows' =
      (said r ≡ answer (fleet_cause l (length rows)) (length (devices_of (fleet_messages l))))
      × (rows' ≡ leaves (number (said r)) (sets rows 0 (sheet (fleet_messages l))) rows)

  pub says_short : length rows < sheet_places → Says (Err Short) rows
  unfolding said_by fleet_cause answer number leaves
  says_short h = rw (lt-ltb (length rows) sheet_places h) (refl, refl)

  module _ (a : sheet_places ≤ length rows) where
    pub says_long : most_record_bytes < length l → Says (Err Long) rows
    unfolding said_by fleet_cause answer number leaves
    says_long h = rw (le-ltb (length rows) sheet_places a, lt-ltb most_record_bytes (length l) h) (refl, refl)

    pub says_read : length l ≤ most_record_bytes → (ok : Bool) → ok ≡ list_ok l → (r : Result ℕ Refusal) (rows' : List ℤ) → Reports ok (fleet_messages l) rows r rows' → Says r rows'
    unfolding fleet_cause
    says_read b ok e r rows' p =
        let c : fleet_cause l (length rows) ≡ sheet_cause ok (fleet_messages l) = rw (le-ltb (length rows) sheet_places a, le-ltb most_record_bytes (length l) b, ← e) refl in
        (p.0 ∙ ap (λ (k : ℕ). answer k (length (devices_of (fleet_messages l)))) (sym c), p.1)
