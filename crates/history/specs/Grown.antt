-- A RECEIVER GROWN FROM A FRESH ONE, at the port: after every call of every run at most 34 messages wait in its state, and no call is refused with 5, for a state that
-- is not in order. Assumes nothing.
-- Read `Runs` first, as for demand 3: a run is made of what `push`, `push_raw` and `flush` promise, refused calls included. ledger's Grown says the same of 01's
-- ledger; its GrownExample is worked out.
use Rattle.std.specs.Prelude.{◌≡◌, List, [], ◌∷◌, ℕ, ◌≤◌, Float}
use Rattle.limits.specs.Limits.{bad_state}
use Rattle.ledger.specs.Grown.{most_grown}
use Rattle.receiver.proofs.Contracts.{Contracts}
use Rattle.history.specs.Runs.{Exchange, Run, fresh_port}

-- of one call
pub record Stays (x : Exchange) : Type 0 where
  -- in the state that it returns "at most 34 can wait"
  pub waiting : x.reply.received.receiver.waiting.count ≤ most_grown
  -- it is not refused with 5: the state that the calls before it left is in order
  pub in_order : x.reply.received.refused ≡ bad_state → ⊥

-- of each
abbrev pub AllStay : List Exchange → Type 0
AllStay [] = Unit
AllStay (x ∷ xs) = Stays x × AllStay xs

pub record Grown : Type 0 where
  -- the calls of a run are those of the code
  pub code : Contracts
  -- "on a receiver grown from a fresh one at most 34 can wait. Show that for all lists of calls"
  pub port : (rate : ℕ) (samples : List Float) (xs : List Exchange) → Run (fresh_port rate samples) xs → AllStay xs
