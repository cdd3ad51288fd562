use mathlib.Core.Path.{refl}
use Rattle.listening_lines.proofs.refusal_line.Goals as goal

pub returns : goal.returns
returns c = rw (c.number_line.ensures, c.from.ensures) refl
