use Rattle.std.proofs.Common.{length, sym, ap, ◌∙◌, arith}
use lib.Ieee.{binary32}
use Rattle.order.specs.Order.{kth}
use Rattle.limits.proofs.Samples.{numbers}
use Rattle.rates.proofs.Quantiles.{fifth_is}
use Rattle.bursts.proofs.Constants.{silence_is}
use Rattle.bursts.proofs.LevelLaws.{floor_none, floor_some}
use Rattle.bursts.proofs.measured_floor.Goals as goal

pub returns-then-dbm-eq0 : goal.returns-then-dbm-eq0
returns-then-dbm-eq0 c = silence_is ∙ sym (floor_none c.args.dbm.now c.if-dbm-eq0.true)

pub select-requires : goal.select-requires
select-requires c =
    (omega (arith, c.if-dbm-eq0.false), numbers c.args.dbm.now c.requires.1)

pub returns : goal.returns
returns c =
    let l = c.args.dbm.now in
    c.select.ensures ∙ ap (kth binary32 l) (sym (fifth_is (length l) (omega (arith, c.requires.0)))) ∙ sym (floor_some l (omega (arith, c.if-dbm-eq0.false)))
