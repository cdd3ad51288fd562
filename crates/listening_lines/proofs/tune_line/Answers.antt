use mathlib.Core.Path.{refl}
use Rattle.listening_lines.specs.Lines.{tune_line}
use Rattle.listening_lines.proofs.tune_line.Goals as goal

pub returns-in-None : goal.returns-in-None
unfolding tune_line
returns-in-None c = rw c.in-None.is c.new.ensures

pub returns-in-Some : goal.returns-in-Some
unfolding tune_line
returns-in-Some c = rw (c.in-Some.is, c.put_field.ensures.text, c.head-line.ensures, c.from.ensures) refl
