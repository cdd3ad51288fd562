-- Demand 2's demodulation is as the bounds need it: its bursts lie in a row, and its frames' arrays are as long as an open message's.
use Prim.Native.Nat.{ℕ, ◌≤◌}
use Rattle.limits.specs.Limits.{lowest_rate, highest_rate}
use Rattle.demod.proofs.DecodedFacts.{burst_lawful}
use Rattle.ledger.specs.Demodulation.{demod_of}
use Rattle.ledger.specs.Room.{Fair}
use Rattle.ledger.proofs.ScanRows.{scan-row}

pub demod_fair : (rate : ℕ) → lowest_rate ≤ rate → rate ≤ highest_rate → Fair rate (demod_of rate)
demod_fair rate lo hi =
    record {
      row = scan-row rate lo hi;
      payload = λ held t b x e. (burst_lawful held rate b t x e).payload;
      auth = λ held t b x e. (burst_lawful held rate b t x e).auth;
    }
