use Rattle.ledger.specs.Ledger.{seconds}
use Rattle.receiver_scan.proofs.seconds.Goals as goal

pub returns : goal.returns
unfolding seconds
returns c = rw c.count_as_f64.ensures
