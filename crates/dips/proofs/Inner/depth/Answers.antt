use Rattle.std.proofs.Common.{sym, ◌∙◌}
use Rattle.dips.specs.Dips.{depth_of}
use Rattle.dips.proofs.DipLaws.{no_minimum, by_sides, by_neighbours}
use Rattle.dips.proofs.Inner.depth.Goals as goal

pub returns-then-neighbours_higher : goal.returns-then-neighbours_higher
returns-then-neighbours_higher c =
    let a = c.args in
    by_sides a.level a.windows.side a.windows.half a.self.seg.now a.self.at c.sides_high.result (depth_of a.windows.side a.self.seg.now a.self.at) (sym c.neighbours_higher.ensures ∙ c.if-neighbours_higher.true) c.sides_high.ensures

pub returns-else-neighbours_higher : goal.returns-else-neighbours_higher
returns-else-neighbours_higher c =
    let a = c.args in
    by_neighbours a.level a.windows.side a.windows.half a.self.seg.now a.self.at (depth_of a.windows.side a.self.seg.now a.self.at) (sym c.neighbours_higher.ensures ∙ c.if-neighbours_higher.false)

pub returns-else-beside_higher : goal.returns-else-beside_higher
returns-else-beside_higher c =
    let a = c.args in
    by_neighbours a.level a.windows.side a.windows.half a.self.seg.now a.self.at (depth_of a.windows.side a.self.seg.now a.self.at)
    (no_minimum a.windows.half a.self.seg.now a.self.at a.windows.some a.self.before a.self.after (sym c.beside_higher.ensures ∙ c.if-beside_higher.false))
