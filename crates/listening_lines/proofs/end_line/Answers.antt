use mathlib.Core.List.{append_assoc}
use Rattle.listening_lines.specs.Lines.{end_line}
use Rattle.listening_lines.proofs.end_line.Goals as goal

pub returns : goal.returns
unfolding end_line
returns c =
    rw (c.put_field-4.ensures.text, c.put_field-3.ensures.text, c.put_field-2.ensures.text, c.put_field.ensures.text, c.head-line.ensures) (simp append_assoc)
