use Rattle.std.proofs.Common.{◌≡◌, ◌+◌, ◌-◌, take, drop, ap, sym, ◌∙◌, arith}
use Rattle.std.proofs.lemmas.List.{drop-take}
use lib.Seq.{slice}
use lib.Ieee.{Float}
use Rattle.floats.specs.Fold.{max_from}
use Rattle.dips.specs.Numbers.{lowest_side}
use Rattle.dips.proofs.Constants.{lowest-side_is}
use Rattle.dips.proofs.Inner.side_level.Goals as goal

pub returns : goal.returns
returns c =
    let a = c.args in
    let s = a.self.seg.now in
    let n : a.from + (a.to - a.from) ≡ a.to = omega arith in
    let e : take (a.to - a.from) (drop a.from s) ≡ slice a.from a.to s = rw n at (sym (drop-take a.from (a.to - a.from) s)) in
    c.highest32.ensures ∙ ap (λ (v : Float). max_from v (take (a.to - a.from) (drop a.from s))) lowest-side_is ∙ ap (max_from lowest_side) e
