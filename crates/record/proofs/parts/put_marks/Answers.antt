use mathlib.Core.Path.{◌≡◌, refl}
use mathlib.Core.List.{[], ◌∷◌}
use Prim.Native.Nat.{◌+◌}
use lib.Seq.{sets}
use Rattle.record.specs.Record.{mark_bytes}
use Rattle.record.proofs.PartLaws.{follow}
use Rattle.record.proofs.parts.put_marks.Goals as goal

pub returns : goal.returns
unfolding mark_bytes
returns c =
    let l = c.args.out.now in
    let at = c.args.at in
    let f0 : c.put_byte.new.out ≡ sets l at (c.args.k.depth ∷ []) = c.put_byte.ensures in
    let f1 : c.put_byte-2.new.out ≡ sets l at (c.args.k.depth ∷ c.args.k.shift ∷ []) =
    follow l at (c.args.k.depth ∷ []) c.put_byte.new.out (c.args.k.shift ∷ []) c.put_byte-2.new.out (at + 1) f0 c.put_byte-2.ensures refl in
    follow l at (c.args.k.depth ∷ c.args.k.shift ∷ []) c.put_byte-2.new.out (0 ∷ []) c.put_byte-3.new.out (at + 2) f1 c.put_byte-3.ensures refl
