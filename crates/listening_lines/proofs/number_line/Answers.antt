use mathlib.Core.Path.{refl}
use Rattle.listening_lines.specs.Lines.{refusal_line}
use Rattle.listening_lines.proofs.number_line.Goals as goal

pub returns : goal.returns
unfolding refusal_line
returns c = rw (c.put_field.ensures.text, c.head-line.ensures, c.from.ensures) refl
