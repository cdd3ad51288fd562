use mathlib.Core.Path.{◌≡◌, sym, ◌∙◌}
use Prim.Native.Nat.{◌≤◌}
use native.Mathlib.Omega.{arith}
use Rattle.endian.proofs.Numbers.{written}
use Rattle.endian.proofs.put.Goals as goal

pub returns : goal.returns
returns g c =
    let a = c.args in
    let same : c.SIZE-2.result ≡ c.SIZE.result = c.SIZE-2.ensures ∙ sym c.SIZE.ensures in
    let small : c.SIZE.result ≤ 8 = omega (arith, c.SIZE.ensures, g.met.T.LittleEndian.fits) in
    written c.SIZE.result c.bits.result a.at a.out.now c.copy_from_slice.new.self small (omega (arith, c.SIZE.ensures, c.requires)) (rw (c.copy_from_slice.ensures.after, c.to_le_bytes-bytes.ensures, same))
    ∙ rw (c.SIZE.ensures, c.bits.ensures)
