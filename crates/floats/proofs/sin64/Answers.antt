use Rattle.std.proofs.Common.{◌≡◌, ◌+◌, ◌*◌, ◌∙◌, rules, sym}
use Rattle.floats.specs.Trig.{sine}
use Rattle.floats.proofs.Vectors.{sine-divisor}
use Rattle.floats.proofs.sin64.Goals as goal

pub returns : goal.returns
unfolding sine
returns c =
    let is = c.series_of.ensures 1 (λ n d h e. let f : d ≡ 2 * n * (2 * n + 1) = search rules in f ∙ sym (sine-divisor n h)) in
    cc (is, c.reduced-r.ensures)
