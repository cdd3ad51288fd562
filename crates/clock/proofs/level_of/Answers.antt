use Rattle.std.proofs.Common.{length, sym, ap, ◌∙◌, arith}
use lib.Ieee.{binary32}
use Rattle.order.specs.Order.{kth}
use Rattle.limits.proofs.Samples.{numbers}
use Rattle.rates.specs.Rates.{nine_tenths_of}
use Rattle.rates.proofs.Quantiles.{nine-tenths_is}
use Rattle.bursts.specs.Levels.{quantile}
use Rattle.clock.proofs.level_of.Goals as goal

pub select-requires : goal.select-requires
select-requires c =
    (omega arith, numbers c.args.seg.now c.requires.2)

pub returns : goal.returns
unfolding quantile nine_tenths_of
returns c =
    let l = c.args.seg.now in
    c.select.ensures ∙ ap (kth binary32 l) (sym (nine-tenths_is (length l) (omega (arith, c.requires.1))))
