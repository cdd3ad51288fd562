use Rattle.demod.specs.Decode.{burst_ok}
use Rattle.demod.proofs.burst_ok.Goals as goal

pub returns : goal.returns
unfolding burst_ok
returns c = rw (c.time_ok-time.ensures, c.is_dbm-floor.ensures, c.is_nan-peak.ensures.value)
