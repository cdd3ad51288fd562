use mathlib.Core.Path.{ap}
use native.Mathlib.Omega.{arith}
use lib.ListN.{length, length-append}
use Rattle.listening_lines.specs.Text.{hex}
use Rattle.listening_lines.proofs.TextLaws.{as_wide, digits-hex, hex-length}
use Rattle.listening_lines.proofs.line.Line.put_hex.Goals as goal

pub returns-clause-text : goal.returns-clause-text
returns-clause-text c =
    let a = c.args in
    let d = c.hex-k in
    let w = as_wide a.width a.n d.result c.requires.1 c.requires.2 c.requires.3 d.ensures.len in
    rw (d.ensures.digits, w, digits-hex a.width a.n) at c.put.ensures

pub returns-clause-count : goal.returns-clause-count
returns-clause-count c =
    let a = c.args in
    let d = c.hex-k in
    let w = as_wide a.width a.n d.result c.requires.1 c.requires.2 c.requires.3 d.ensures.len in
    let t = rw (d.ensures.digits, w, digits-hex a.width a.n) at c.put.ensures in
    omega (arith, ap length t, length-append a.self.now (hex a.width a.n), hex-length a.width a.n)
