-- THE REMEMBERED STARTS OF THE PORT: after every call of every run from a fresh receiver, base plus the distances of its state are the starts of 01's ledger.
-- Assumes nothing.
-- Read `Runs` first, as for demand 3: a run is made of what `push`, `push_raw` and `flush` promise, refused calls included. `grown` is 01's ledger after a list of calls
-- (ledger's Grown). receiver_starts' Starts says what a state's distances are; proofs/DistancesExample works them out.
use Rattle.std.specs.Prelude.{◌≡◌, true, List, [], ◌∷◌, ◌++◌, map, ℕ, ℤ, pos, ◌+ℤ◌, Float}
use Rattle.ledger.specs.Ledger.{by_frames, Ledger, spaced}
use Rattle.ledger.specs.Causes.{Attempt}
use Rattle.ledger.specs.Grown.{grown}
use Rattle.receiver_starts.specs.Starts.{distances}
use Rattle.receiver.specs.declared.SigfoxReceiver.{SigfoxReceiver}
use Rattle.receiver.proofs.Contracts.{Contracts}
use Rattle.history.specs.Runs.{Exchange, Run, fresh_port, attempt_of}

-- base plus each distance, as signed numbers: one below minus the base would show
abbrev pub absolute : SigfoxReceiver → List ℤ
absolute s = map (λ (d : ℤ). pos s.base +ℤ d) (distances s.starts)

-- of a state and the ledger that it stands for
pub record Exact (rate : ℕ) (s : SigfoxReceiver) (l : Ledger by_frames) : Type 0 where
  -- "base plus these distances are exactly the ledger's starts", in order
  pub starts : absolute s ≡ map pos l.starts
  -- "the 0.3 s rule still covers the absolute samples"
  pub apart : spaced rate [] l.starts ≡ true

-- after each call x, where the calls cs came before
abbrev pub AllExact : ℕ → List Float → List Attempt → List Exchange → Type 0
AllExact rate samples cs [] = Unit
AllExact rate samples cs (x ∷ xs) =
    Exact rate x.reply.received.receiver (grown rate (cs ++ (attempt_of samples x ∷ [])))
    × AllExact rate samples (cs ++ (attempt_of samples x ∷ [])) xs

pub record Distances : Type 0 where
  -- the calls of a run are those of the code
  pub code : Contracts
  -- "Show that after every list of calls as in demand 3 .."
  pub port : (rate : ℕ) (samples : List Float) (xs : List Exchange) → Run (fresh_port rate samples) xs → AllExact rate samples [] xs
