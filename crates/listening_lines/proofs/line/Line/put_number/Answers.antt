use mathlib.Core.Path.{◌≡◌, ◌∙◌}
use native.Mathlib.Omega.{arith}
use lib.ListN.{take}
use Rattle.listening_lines.specs.Text.{decimal}
use Rattle.listening_lines.proofs.TextLaws.{decimal_of}
use Rattle.listening_lines.proofs.line.Line.put_number.Goals as goal

pub returns-clause-text : goal.returns-clause-text
returns-clause-text c =
    let d = c.decimal-k in
    let e : take d.result d.new.out ≡ decimal c.args.n = d.ensures.digits ∙ decimal_of _ d.result (omega arith) d.ensures.len in
    rw e at c.put.ensures
