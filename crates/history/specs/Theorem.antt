-- DEMAND 3 OF THE PORT: "Take every list of the calls push, push_raw and flush, refused ones included, from a fresh receiver." Assumes nothing.
-- Read `Runs` first: a call is what the contracts of push, push_raw and flush say (`Answered`), a run is a list of calls in which "each gets the state that
-- the last one returned and the sample buffer as the last one left it", and `turn_from` is what a client reads off a call's number, count and bytes.
-- That these are the contracts of the code is the field `code`.
-- Then this file; then what it cites of the crate ledger, which has no word of the port: `Ledger` and `Causes` (01's ledger and its refusals), `Demodulation`
-- (demand 2's frames), `Records` (the table's bytes and their readers), `Demand3` (the claims).
use Rattle.std.specs.Prelude.{◌≡◌, List, [], ◌∷◌, map, ℕ, Float}
use Rattle.shifts.specs.Shifts.{mark_by}
use Rattle.ledger.specs.Ledger.{by_frames, Demod, Ledger, fresh}
use Rattle.ledger.specs.Causes.{Attempt, number, after_call, call_events}
use Rattle.ledger.specs.Demodulation.{demod_of}
use Rattle.ledger.specs.Records.{record_of, with_records}
use Rattle.ledger.specs.Demand3.{Demand3}
use Rattle.ledger.specs.History.{run_of}
use Rattle.receiver.proofs.Contracts.{Contracts}
use Rattle.history.specs.Runs.{Exchange, Port, memory_of, port_after, Run, fresh_port, records_from, turn_from, attempt_of}

-- ---- what is said of each call

-- the records of 01's ledger, call by call, as bytes, each message with the mark that its call's shifts give it (02, request 03)
unfoldable pub ledger_records : ℕ → Demod → Ledger by_frames → List Attempt → List (List (List ℕ))
ledger_records rate d l [] = []
ledger_records rate d l (a ∷ cs) =
    map (record_of (mark_by a.schedule)) (call_events rate d l a.call (number rate l a)) ∷ ledger_records rate d (after_call rate d l a.call (number rate l a)) cs

-- "A refused call changes nothing": neither the state nor anything lent, scratch included
pub record Untouched (p : Port) (x : Exchange) : Type 0 where
  pub port : port_after x ≡ p
  pub memory : x.reply.after ≡ memory_of p x.asked

abbrev pub RefusedUntouched : Port → List Exchange → Type 0
RefusedUntouched p [] = Unit
RefusedUntouched p (x ∷ xs) = ((x.reply.received.refused ≡ 0 → ⊥) → Untouched p x) × RefusedUntouched (port_after x) xs

-- "event bytes past the count .. keep their contents"
abbrev pub RestKept : List Exchange → Type 0
RestKept [] = Unit
RestKept (x ∷ xs) = (x.reply.after.events ≡ with_records (records_from x) x.asked.events) × RestKept xs

-- ---- THE THEOREM

pub record Holds (rate : ℕ) (samples : List Float) (xs : List Exchange) : Type 0 where
  -- "The port accepts exactly the calls to which no cause .. applies; a cause that looks at state or held samples looks at the ledger's": the number that came
  -- back and what is read off the records are those of 01's ledger, which is fed the calls and the lengths of what was lent, "and nothing that the port answers"
  pub as_ledger : map turn_from xs ≡ run_of rate (demod_of rate) (map (attempt_of samples) xs)
  -- "the frame records of each call equal those of 01's ledger, in order", and of a message "in all else the bytes of the ledger's message": as many records as
  -- the count names, byte by byte, a zero's sign included; byte 34 of a message too, its mark, which 02 lets the demand pass over
  pub same_bytes : map records_from xs ≡ ledger_records rate (demod_of rate) fresh (map (attempt_of samples) xs)
  -- "A refusal .. leaves state and lent memory unchanged"
  pub refused : RefusedUntouched (fresh_port rate samples) xs
  pub rest_kept : RestKept xs
  -- "No two frames start under 0.3 s apart" to "over 10 s past the start of the frame that had joined last": each sentence is a field of `Demand3`, and all of
  -- them are of what a client reads off the bytes, in the whole history
  pub claims : Demand3 rate (map turn_from xs)

pub record Theorem : Type 0 where
  -- the calls of a run are those of the code: what its contracts tell a caller is what `Runs` is made of, and they ask nothing (receiver's proofs/Contracts.antt)
  pub code : Contracts
  -- "A fresh receiver has any rate", "The sample buffer has any length and first contents; event buffer and scratch may be others at each call, of any length"
  pub holds : (rate : ℕ) (samples : List Float) (xs : List Exchange) → Run (fresh_port rate samples) xs → Holds rate samples xs

-- ---- WRONG PROGRAMS, and the fields that each fails (claims: the list at the end of `Demand3`)
-- as-ledger: refuses all, or for a state that it spoiled itself, or accepts what a cause refuses · swallows samples · never writes · hears the first push, shams the
--   later ones · the same frame always · a burst at index 0 or too near the newest sample taken · a start forgotten too early, or never · a dip of other depth, a
--   frame that demand 2 does not find · a message late, early, twice, joined again
-- same_bytes: a count that is not that of the records · records of a call in another order · a span, end, repair, clock error, length or spare byte that is not the
--   table's · a first-frame end that is not the Rust's · a mark that is not that of the call's shifts
-- refused: moves its state, its samples, an event byte or a scratch number, and then refuses · rest-kept: writes past the count
-- claims: wrong even where port and ledger would be wrong together
-- code: a contract that says less, with a body that does less
