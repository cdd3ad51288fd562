use mathlib.Core.List.{map}
use Rattle.coding.specs.Bits.{odd}
use Rattle.writer.specs.Uplink.{repeated}
use Rattle.writer.proofs.WriteLaws.{all_stored}
use Rattle.writer.proofs.put_all.Goals as goal

pub returns : goal.returns
returns c =
    let a = c.args in
    let p = c.put_repetition in
    let q = c.put_repetition-2 in
    let r = c.put_repetition-3 in
    all_stored (repeated a.layout.class (map odd a.body.now)) a.out.now p.new.out q.new.out r.new.out p.ensures q.ensures r.ensures
