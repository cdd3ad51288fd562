use mathlib.Core.Path.{◌∙◌}
use Rattle.listening_lines.proofs.LineLaws.{sender_parts}
use Rattle.listening_lines.proofs.sender.Goals as goal

pub returns-clause-text : goal.returns-clause-text
returns-clause-text c =
    rw (c.put_field-2.ensures.text, c.put_field.ensures.text, c.put_byte.ensures, c.put_hex.ensures.text, c.head-line.ensures)
    (sender_parts c.args.event.bytes.now _ _ _ (c.from.ensures ∙ c.device.ensures) (c.from-2.ensures ∙ c.counter.ensures) (c.from-3.ensures ∙ c.rank.ensures))
