use Rattle.std.proofs.Common.{get_or, sym, ◌∙◌, arith}
use lib.Ieee.{nan}
use Rattle.dips.specs.Dips.{neighbours}
use Rattle.dips.proofs.DipLaws.{lowest-stop, lowest-turn, lowest_end}
use Rattle.dips.proofs.Inner.neighbours_higher.Goals as goal

pub loop-k-init : goal.loop-k-init
unfolding neighbours
loop-k-init c = rw (c.back-k.ensures, c.min-end.ensures)

pub returns-then-speaks_against : goal.returns-then-speaks_against
returns-then-speaks_against c =
    let a = c.args in
    lowest-stop (get_or a.self.seg.now a.self.at nan) a.self.at a.self.seg.now c.loop-k.k c.min-end.result _ c.loop-k.invariant
    (omega arith) (omega (arith, c.min-end.ensures)) (sym c.speaks_against.ensures ∙ c.if-speaks_against.true)

pub loop-k-preserved : goal.loop-k-preserved
loop-k-preserved c =
    let a = c.args in
    lowest-turn (get_or a.self.seg.now a.self.at nan) a.self.at a.self.seg.now c.loop-k.k c.min-end.result _ c.loop-k.invariant
    (omega arith) (omega (arith, c.min-end.ensures)) (sym c.speaks_against.ensures ∙ c.if-speaks_against.false)

pub returns : goal.returns
returns c =
    let a = c.args in
    lowest_end (get_or a.self.seg.now a.self.at nan) a.self.at a.self.seg.now c.loop-k.k c.min-end.result _ c.loop-k.invariant (omega (arith, c.min-end.ensures, c.back-k.ensures))
