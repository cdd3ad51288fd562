use borrow.Author.Rules.{rules}
use mathlib.Core.Path.{◌≡◌, ap, ◌∙◌}
use Prim.Native.Nat.{◌+◌}
use native.Mathlib.Omega.{arith}
use lib.ListN.{length}
use lib.Seq.{sets}
use mir.Syntax.{w32}
use mir.ValLaws.{to_z-of_z}
use Rattle.record.specs.Record.{head_bytes, identity_bytes, level_bytes}
use Rattle.record.proofs.PartLaws.{three, length-head, length-identity}
use Rattle.record.proofs.parts.put_front.Goals as goal

pub returns : goal.returns
unfolding level_bytes
returns c = let a = c.args in
    let p : length a.x.payload ≡ 12 = search rules in
    let q : length a.x.auth ≡ 5 = search rules in
    three a.out.now a.at (head_bytes a.h) (identity_bytes a.x.device a.x.counter a.h.payload_len a.x.payload a.h.auth_len a.x.auth a.x.marks) (level_bytes a.x.ppm a.x.rssi)
    c.put_head.new.out c.put_identity.new.out c.put_two.new.out (a.at + 8) (a.at + 36) c.put_head.ensures c.put_identity.ensures
    (c.put_two.ensures ∙ ap (λ z. sets c.put_identity.new.out (a.at + 36) (level_bytes z a.x.rssi)) (to_z-of_z w32 a.x.ppm (search rules)))
    (omega (arith, length-head a.h)) (omega (arith, length-identity a.x.device a.x.counter a.h.payload_len a.x.payload a.h.auth_len a.x.auth a.x.marks p q))
