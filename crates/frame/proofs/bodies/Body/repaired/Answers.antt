use mathlib.Core.Path.{sym, ap, ◌∙◌}
use mathlib.Core.List.{map}
use Rattle.std.proofs.Common.{Option}
use Rattle.coding.specs.Bits.{odd}
use Rattle.frame.specs.Repairs.{repaired}
use Rattle.frame.specs.Splices.{spliced}
use Rattle.frame.specs.declared.Repair.{Repair}
use Rattle.frame.specs.declared.splices.Splice.{Splice}
use Rattle.frame.proofs.SpliceLaws.{kept}
use Rattle.frame.proofs.bodies.Body.repaired.Goals as goal

pub returns-in-None : goal.returns-in-None
unfolding repaired
returns-in-None c = let l = map odd c.args.self.bits.now in
    (c.unchanged.ensures.0, ap (λ (s : Splice). spliced s l) c.unchanged.ensures.1 ∙ kept l ∙ sym (ap (λ (h : Option Repair). repaired h l) c.in-None.is))
