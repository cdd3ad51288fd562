-- The port stands for a ledger. This file cites no contract: `Stands` is in contracts of the crates above. Assumes nothing.
use mathlib.Core.Path.{◌≡◌}
use mathlib.Core.List.{List}
use Prim.Native.Nat.{ℕ}
use lib.Ieee.{Float}
use lib.ListN.{length, take}
use Rattle.ledger.specs.Ledger.{by_frames, Ledger}
use Rattle.ledger.proofs.Carry.{carry}
use Rattle.ledger.proofs.Sound.{Sound}
use Rattle.history.specs.Runs.{Port}
use Rattle.history.proofs.States.{For}

pub record Stands (rate : ℕ) (first : List Float) (p : Port) (l : Ledger by_frames) : Type 0 where
  pub state : For rate p.receiver (carry l)
  pub size : length p.samples ≡ length first
  pub holds : take (length l.held) p.samples ≡ l.held
  pub sound : Sound l
