use lib.Dec.{eqb}
use Rattle.record.specs.Record.{no_rank}
use Rattle.record.specs.Spans.{place_ok}
use Rattle.record.proofs.PartLaws.{not_not}
use Rattle.record.proofs.spans.place_ok.Goals as goal

pub returns : goal.returns
unfolding place_ok
returns c = cc (not_not (eqb c.args.s.rank no_rank))
