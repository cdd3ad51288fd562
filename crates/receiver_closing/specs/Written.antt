-- Scaffolding. The records of the messages that a call writes at its end. Assumes nothing.
use Rattle.std.specs.Prelude.{List, map, Bool, cond, ℕ, Float}
use Rattle.std.proofs.lemmas.List.Edits.{sets}
use Rattle.ledger.specs.Ledger.{by_entry, chosen, event_of}
use Rattle.ledger.specs.Records.{record_of}
use Rattle.ledger.specs.declared.Pending.{Pending}
use Rattle.receiver_waiting.specs.Waiting.{leaves}
use Rattle.receiver_waiting.specs.declared.Leaving.{Leaving}

-- with their marks: "a push writes .. the open messages that have three ranks or now − last over 10; a flush, all"
abbrev pub written : (Float → ℕ) → Leaving → List Pending → List (List ℕ)
written mark which l = map (record_of mark) (map (event_of by_entry) (chosen (leaves which) l))

-- bytes with a record at a place, where it is written
abbrev pub put_if : Bool → List ℕ → ℕ → List ℕ → List ℕ
put_if b r at bytes = cond b (sets bytes at r) bytes
