-- A RECEIVER GROWN FROM A FRESH ONE: how many messages wait on it, and that its state is in order. Assumes nothing.
-- GrownExample works out a list of calls, and the causes of a state with 40 and with 41 messages.
use Rattle.std.specs.Prelude.{◌≡◌, List, ℕ, ◌≤◌, length}
use Rattle.limits.specs.Limits.{bad_state}
use Rattle.ledger.specs.Ledger.{by_frames, Ledger, fresh}
use Rattle.ledger.specs.Causes.{Attempt, number, after}
use Rattle.ledger.specs.Demodulation.{demod_of}

-- "Starts of frames are 0.3 s apart and a message left after a push has its last frame within 10 s of the newest sample, so .. at most 34 can wait"
abbrev pub most_grown : ℕ
most_grown = 34

-- 01's ledger after a list of calls, refused ones included
abbrev pub grown : ℕ → List Attempt → Ledger by_frames
grown rate cs = after rate (demod_of rate) fresh cs

-- "Show that for all lists of calls"
pub record Grown (rate : ℕ) (cs : List Attempt) : Type 0 where
  pub waiting : length (grown rate cs).waiting ≤ most_grown
  -- so no call after them is refused with 5, for over 40 waiting or for any other rule of the order
  pub in_order : (a : Attempt) → number rate (grown rate cs) a ≡ bad_state → ⊥
