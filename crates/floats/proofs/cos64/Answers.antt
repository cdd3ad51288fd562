use Rattle.std.proofs.Common.{◌≡◌, ◌-◌, ◌*◌, ◌∙◌, rules, sym}
use Rattle.floats.specs.Trig.{cosine}
use Rattle.floats.proofs.Vectors.{cosine-divisor}
use Rattle.floats.proofs.cos64.Goals as goal

pub returns : goal.returns
unfolding cosine
returns c =
    let is = c.series_of.ensures 0 (λ n d h e. let f : d ≡ (2 * n - 1) * (2 * n) = search rules in f ∙ sym (cosine-divisor n)) in
    cc (is, c.reduced-r.ensures)
