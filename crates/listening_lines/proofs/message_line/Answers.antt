use mathlib.Core.List.{append_assoc}
use Rattle.listening_lines.specs.Lines.{message_line}
use Rattle.listening_lines.proofs.message_line.Goals as goal

pub returns : goal.returns
unfolding message_line
returns c =
    rw (c.put_byte-2.ensures, c.put_hz.ensures.text, c.put_byte.ensures, c.put_payload.ensures.text, c.sender-line.ensures.text) (simp append_assoc)
