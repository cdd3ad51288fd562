use Rattle.std.proofs.Common.{ap, ◌∙◌}
use lib.Ieee.{Float}
use Rattle.floats.specs.Fold.{max_from}
use Rattle.bursts.proofs.Constants.{lowest-peak_is}
use Rattle.bursts.proofs.peak.Goals as goal

pub returns : goal.returns
returns c = c.highest32.ensures ∙ ap (λ (v : Float). max_from v c.args.dbm.now) lowest-peak_is
