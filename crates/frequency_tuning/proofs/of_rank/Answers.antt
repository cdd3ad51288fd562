use Rattle.std.proofs.Common.{refl, sym, ◌∙◌}
use lib.Ieee.{nan}
use Rattle.frequency_tuning.proofs.Ranks.{rank_here, rank_later, rank_none}
use Rattle.frequency_tuning.proofs.of_rank.Goals as goal

pub loop-s-init : goal.loop-s-init
loop-s-init c = refl

pub returns-then-s-rank : goal.returns-then-s-rank
returns-then-s-rank c =
    let a = c.args in
    (c.frame_of.ensures.0 ∙ sym (rank_here a.rate a.readings.now a.spans.now a.rank c.loop-s.s-index _ c.loop-s-test.true c.if-s-rank.true) ∙ c.loop-s.invariant, c.frame_of.ensures.1 ∙ c.loop-s.auto.out)

pub loop-s-preserved : goal.loop-s-preserved
loop-s-preserved c =
    let a = c.args in
    sym (rank_later a.rate a.readings.now a.spans.now a.rank c.loop-s.s-index _ c.loop-s-test.true c.if-s-rank.false) ∙ c.loop-s.invariant

pub returns : goal.returns
returns c =
    let a = c.args in
    (sym (rank_none a.rate a.readings.now a.spans.now a.rank c.loop-s.s-index (record { rank = 0; time = nan; end = nan }) c.loop-s-test.false) ∙ c.loop-s.invariant, c.loop-s.auto.out)
