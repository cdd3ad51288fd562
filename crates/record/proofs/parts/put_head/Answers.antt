use mathlib.Core.Path.{◌≡◌, refl, ap, ◌∙◌}
use mathlib.Core.List.{[], ◌∷◌}
use Prim.Native.Nat.{◌+◌}
use lib.Seq.{sets}
use Rattle.endian.specs.Bytes.{bytes_of}
use Rattle.record.specs.Record.{head_bytes}
use Rattle.record.proofs.PartLaws.{follow, place-bytes}
use Rattle.record.proofs.parts.put_head.Goals as goal

pub returns : goal.returns
unfolding head_bytes
returns c =
    let l = c.args.out.now in
    let at = c.args.at in
    let h = c.args.h in
    let f0 : c.put_byte.new.out ≡ sets l at (h.kind ∷ []) = c.put_byte.ensures in
    let f1 : c.put_byte-2.new.out ≡ sets l at (h.kind ∷ h.rank ∷ []) =
    follow l at (h.kind ∷ []) c.put_byte.new.out (h.rank ∷ []) c.put_byte-2.new.out (at + 1) f0 c.put_byte-2.ensures refl in
    let f2 : c.put_byte-3.new.out ≡ sets l at (h.kind ∷ h.rank ∷ h.flags ∷ []) =
    follow l at (h.kind ∷ h.rank ∷ []) c.put_byte-2.new.out (h.flags ∷ []) c.put_byte-3.new.out (at + 2) f1 c.put_byte-3.ensures refl in
    let f3 : c.put_byte-4.new.out ≡ sets l at (h.kind ∷ h.rank ∷ h.flags ∷ h.payload_len ∷ []) =
    follow l at (h.kind ∷ h.rank ∷ h.flags ∷ []) c.put_byte-3.new.out (h.payload_len ∷ []) c.put_byte-4.new.out (at + 3) f2 c.put_byte-4.ensures refl in
    let f4 : c.put_byte-5.new.out ≡ sets l at (h.kind ∷ h.rank ∷ h.flags ∷ h.payload_len ∷ h.auth_len ∷ []) =
    follow l at (h.kind ∷ h.rank ∷ h.flags ∷ h.payload_len ∷ []) c.put_byte-4.new.out (h.auth_len ∷ []) c.put_byte-5.new.out (at + 4) f3 c.put_byte-5.ensures refl in
    let f5 : c.put_byte-6.new.out ≡ sets l at (h.kind ∷ h.rank ∷ h.flags ∷ h.payload_len ∷ h.auth_len ∷ h.repair ∷ []) =
    follow l at (h.kind ∷ h.rank ∷ h.flags ∷ h.payload_len ∷ h.auth_len ∷ []) c.put_byte-5.new.out (h.repair ∷ []) c.put_byte-6.new.out (at + 5) f4 c.put_byte-6.ensures refl in
    follow l at (h.kind ∷ h.rank ∷ h.flags ∷ h.payload_len ∷ h.auth_len ∷ h.repair ∷ []) c.put_byte-6.new.out (bytes_of 2 h.place) c.put.new.out (at + 6) f5 (c.put.ensures ∙ ap (sets c.put_byte-6.new.out (at + 6)) (place-bytes h.place)) refl
