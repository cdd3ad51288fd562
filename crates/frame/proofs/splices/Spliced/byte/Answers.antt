use mathlib.Core.Path.{sym, subst}
use mathlib.Core.Bool.{Bool}
use mathlib.Core.List.{List}
use native.Mathlib.Omega.{arith}
use Rattle.frame.specs.Plain.{NextByte}
use Rattle.frame.proofs.SpliceLaws.{length-spliced, drop-spliced}
use Rattle.frame.proofs.splices.Spliced.byte.Goals as goal

pub straight_byte-requires : goal.straight_byte-requires
straight_byte-requires c = let v = c.args.self in omega (arith, c.requires.0, length-spliced v, c.if-s-from.true, v.inside)

pub returns-then-s-from : goal.returns-then-s-from
returns-then-s-from c = let a = c.args in
    subst (λ (x : List Bool). NextByte a.self.rank x a.last c.straight_byte.result) (sym (drop-spliced a.self a.from c.if-s-from.true)) c.straight_byte.ensures
