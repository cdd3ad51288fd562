use Rattle.listening_lines.specs.Lines.{hz_text}
use Rattle.listening_lines.proofs.put_hz.Goals as goal

pub returns-in-None-clause-text : goal.returns-in-None-clause-text
unfolding hz_text
returns-in-None-clause-text c = rw (c.in-None.is) c.put_byte.ensures

pub returns-in-Some-clause-text : goal.returns-in-Some-clause-text
unfolding hz_text
returns-in-Some-clause-text c = rw (c.in-Some.is) (rw c.from.ensures at c.put_number.ensures.text)
