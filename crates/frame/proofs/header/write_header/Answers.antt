use mathlib.Core.Path.{refl, ap₂, ◌∙◌}
use Prim.Native.Nat.{ℕ, ◌+◌, ◌*◌, ◌/◌, ◌%◌}
use Rattle.whole.proofs.Tests.{one_is}
use Rattle.frame.proofs.HeaderLaws.{written}
use Rattle.frame.proofs.header.write_header.Goals as goal

pub returns : goal.returns
returns c = let f = c.args.f in
    written c.args.out.now c.put_byte.new.out c.put_byte-2.new.out c.put.new.out c.copy_into.new.out f c.args.payload.now
    (c.args.layout.li * 64 + c.from.result * 32 + f.counter / 256 % 16) (f.counter % 256)
    c.put_byte.ensures c.put_byte-2.ensures c.put.ensures c.copy_into.ensures
    (ap₂ (λ (x y : ℕ). x * 64 + y * 32 + f.counter / 256 % 16) c.requires.0 (c.from.ensures ∙ one_is f.downlink)) refl
