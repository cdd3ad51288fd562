use mathlib.Core.Path.{ap, ◌∙◌}
use mathlib.Core.List.{map}
use Rattle.coding.specs.Bits.{odd}
use Rattle.frame.specs.Splices.{spliced}
use Rattle.frame.specs.declared.splices.Splice.{Splice}
use Rattle.frame.proofs.bodies.Body.with.Goals as goal

pub spliced-requires : goal.spliced-requires
spliced-requires c = let s = c.splice_of.ensures in (s.0, s.1, s.2, s.3)

pub returns : goal.returns
returns c = let l = map odd c.args.self.bits.now in
    let s = c.splice_of.ensures in
    let e = c.spliced.ensures.1 in
    (c.spliced.ensures.0, ap (λ (s : Splice). s.at) e ∙ s.4, ap (λ (s : Splice). spliced s l) e ∙ s.5)
