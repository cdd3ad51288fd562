use Rattle.listening_records.proofs.EmissionLaws.{rate_is}
use Rattle.listening_records.proofs.earlier.Goals as goal

pub returns : goal.returns
returns c = cc (c.count_as_f64.ensures, rate_is)
