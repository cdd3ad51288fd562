use mathlib.Core.Path.{◌∙◌}
use native.Mathlib.Omega.{arith}
use mir.Syntax.{w32}
use mir.ValLaws.{to_z-of_z}
use Rattle.receiver_starts.proofs.StartLaws.{Biased, biased-lt, less_fits, less_is}
use Rattle.receiver_starts.proofs.less.Goals.{After-biased}
use Rattle.receiver_starts.proofs.less.Goals as goal

-- the distance with 2^31 added
is : (c : After-biased)
    → Biased c.args.d c.biased.result
is c = rw (to_z-of_z w32 c.args.d c.ranges.d) at c.biased.ensures

pub overflow_sub-biased : goal.overflow_sub-biased
overflow_sub-biased c = less_fits c.args.d c.biased.result (is c) c.args.by c.requires.0 c.requires.1

pub unbiased-requires : goal.unbiased-requires
unbiased-requires c = omega (arith, biased-lt c.args.d c.biased.result (is c) c.ranges.d.sfits)

pub returns : goal.returns
returns c =
    to_z-of_z w32 c.unbiased.result (record { sfits = c.unbiased.type_inv })
    ∙ c.unbiased.ensures
    ∙ less_is c.args.d c.biased.result (is (goal.at.returns c).After-biased) c.args.by (overflow_sub-biased (goal.at.returns c).After-biased)
