-- DEMAND 3 OF THE PORT holds of every run.
use mathlib.Core.Path.{◌≡◌, refl}
use mathlib.Core.List.{List, [], ◌∷◌, map}
use Prim.Native.Nat.{ℕ}
use lib.Ieee.{Float}
use Rattle.ledger.specs.Ledger.{by_frames, Ledger, fresh}
use Rattle.ledger.specs.Causes.{number, after_call}
use Rattle.ledger.specs.Demodulation.{demod_of}
use Rattle.ledger.specs.History.{history}
use Rattle.ledger.proofs.Theorem.{demand3}
use Rattle.receiver.proofs.Contracts.{contracts}
use Rattle.history.specs.Runs.{Exchange, Port, Run, port_after, fresh_port, records_from, turn_from, attempt_of, call_of}
use Rattle.history.specs.Theorem.{ledger_records, RefusedUntouched, RestKept, Holds, Theorem}
use Rattle.history.proofs.Calls.{Stands, fresh-stands, turn, records, rest, untouched, next}

module _ (rate : ℕ) (first : List Float) where
  -- a run from a port that stands for a ledger
  record Walked (p : Port) (l : Ledger by_frames) (xs : List Exchange) : Type 0 where
    turns : map turn_from xs ≡ history rate (demod_of rate) l (map (attempt_of first) xs)
    bytes : map records_from xs ≡ ledger_records rate (demod_of rate) l (map (attempt_of first) xs)
    refused : RefusedUntouched p xs
    rest_kept : RestKept xs

  walk : (p : Port) (l : Ledger by_frames) (xs : List Exchange) → Stands rate first p l → Run p xs → Walked p l xs
  unfolding history ledger_records
  walk p l [] st run = record { turns = refl; bytes = refl; refused = tt; rest_kept = tt }
  walk p l (x ∷ xs) st run =
      let k = after_call rate (demod_of rate) l (call_of x.asked.request) (number rate l (attempt_of first x)) in
      let w = walk (port_after x) k xs (next rate first p l st x run.0) run.1 in
      record {
        turns = rw (turn rate first p l st x run.0, w.turns) refl;
        bytes = rw (records rate first p l st x run.0, w.bytes) refl;
        refused = (untouched rate first p l st x run.0, w.refused);
        rest_kept = (rest rate first p l st x run.0, w.rest_kept);
      }

every-run : (rate : ℕ) (samples : List Float) (xs : List Exchange) → Run (fresh_port rate samples) xs → Holds rate samples xs
every-run rate samples xs run =
    let w = walk rate samples (fresh_port rate samples) fresh xs (fresh-stands rate samples) run in
    record {
      as_ledger = w.turns;
      same_bytes = w.bytes;
      refused = w.refused;
      rest_kept = w.rest_kept;
      claims = rw w.turns (demand3 rate (demod_of rate) (map (attempt_of samples) xs));
    }

pub theorem : Theorem
theorem = record { code = contracts; holds = every-run }
