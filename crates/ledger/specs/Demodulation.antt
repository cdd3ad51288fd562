-- Demand 2's demodulation as the ledger uses it: the bursts of a scan, and demod.rs `decode_burst` of one. No word of the port. Assumes nothing.
use Rattle.std.specs.Prelude.{List, ℕ, Float, Option}
use Rattle.demod.specs.Decode.{decode_burst}
use Rattle.demod.proofs.DecodedFacts.{burst_lawful}
use Rattle.ledger.specs.Types.{DecodedFrame, Burst}
use Rattle.ledger.specs.Ledger.{Demod}
use Rattle.ledger.specs.Scanning.{held_bursts}

-- "A burst taken that decodes, by demand 2's definition"; t is the time of the held list's first sample
abbrev pub held_frame : ℕ → List Float → Float → Burst → Option DecodedFrame
held_frame rate held t b = decode_burst held rate b t

abbrev pub demod_of : ℕ → Demod
demod_of rate =
    record {
      bursts = held_bursts rate;
      decode = held_frame rate;
      ranks = λ held t b x e. (burst_lawful held rate b t x e).rank;
    }
