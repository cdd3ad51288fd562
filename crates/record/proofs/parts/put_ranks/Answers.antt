use mathlib.Core.Path.{◌≡◌, refl}
use mathlib.Core.List.{[], ◌∷◌}
use Prim.Native.Nat.{◌+◌}
use lib.Seq.{sets}
use Rattle.record.specs.Record.{rank_bytes}
use Rattle.record.proofs.PartLaws.{follow}
use Rattle.record.proofs.parts.put_ranks.Goals as goal

pub returns : goal.returns
unfolding rank_bytes
returns c =
    let l = c.args.out.now in
    let at = c.args.at in
    let f0 : c.put_byte.new.out ≡ sets l at (c.args.a ∷ []) = c.put_byte.ensures in
    let f1 : c.put_byte-2.new.out ≡ sets l at (c.args.a ∷ c.args.b ∷ []) =
    follow l at (c.args.a ∷ []) c.put_byte.new.out (c.args.b ∷ []) c.put_byte-2.new.out (at + 1) f0 c.put_byte-2.ensures refl in
    let f2 : c.put_byte-3.new.out ≡ sets l at (c.args.a ∷ c.args.b ∷ c.args.c ∷ []) =
    follow l at (c.args.a ∷ c.args.b ∷ []) c.put_byte-2.new.out (c.args.c ∷ []) c.put_byte-3.new.out (at + 2) f1 c.put_byte-3.ensures refl in
    let f3 : c.put_byte-4.new.out ≡ sets l at (c.args.a ∷ c.args.b ∷ c.args.c ∷ 0 ∷ []) =
    follow l at (c.args.a ∷ c.args.b ∷ c.args.c ∷ []) c.put_byte-3.new.out (0 ∷ []) c.put_byte-4.new.out (at + 3) f2 c.put_byte-4.ensures refl in
    f3
