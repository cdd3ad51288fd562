use mathlib.Core.Path.{refl}
use Prim.Native.Nat.{◌+◌}
use lib.ListN.{length}
use Rattle.writer.proofs.WriteLaws.{covered-stored, bytes-stored}
use Rattle.writer.proofs.frame_bytes.Goals as goal

pub returns : goal.returns
returns c =
    let a = c.args in
    let h = c.write_header in
    let k = c.copy_into in
    let r = c.crc16-crc in
    let p = c.put_byte in
    let q = c.put_byte-2 in
    let n = 6 + length a.payload.now + length a.auth.now in
    bytes-stored a.fields a.payload.now a.auth.now c.requires.2 k.new.out p.new.out q.new.out n r.result
    (covered-stored a.fields a.payload.now a.auth.now c.requires.2 h.new.out k.new.out (6 + length a.payload.now) h.ensures refl k.ensures)
    refl r.ensures p.ensures q.ensures
