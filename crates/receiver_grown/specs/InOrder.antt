-- Scaffolding. What a receiver that grew from a fresh one needs no test of. Assumes nothing.
use Rattle.std.specs.Prelude.{◌≡◌, true, List, Float}
use Rattle.limits.specs.Samples.{rate_ok}
use Rattle.ledger.specs.Causes.{orderly}
use Rattle.receiver.specs.State.{ledger_of, counts_of}
use Rattle.receiver.specs.declared.SigfoxReceiver.{SigfoxReceiver}

-- 01's cause 5 does not apply to the state s over this sample buffer, the held samples included. Of a rate that is not accepted nothing is said: cause 1 comes before.
pub record InOrder (s : SigfoxReceiver) (samples : List Float) : Type 0 where
  pub order : rate_ok s.rate ≡ true → orderly s.rate (counts_of s) (ledger_of s samples) ≡ true
