use Rattle.bursts.specs.Bursts.{options_ok}
use Rattle.bursts.proofs.Constants.{most_db_is, most_ms_is}
use Rattle.bursts.proofs.options_ok.Goals as goal

pub returns : goal.returns
unfolding options_ok
returns c = cc (c.is_dbm-level.ensures, c.within-gap.ensures, c.within-min.ensures, c.within-above.ensures, most_db_is, most_ms_is)
