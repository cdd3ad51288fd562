use mathlib.Core.Path.{◌≡◌, ap, ◌∙◌}
use Prim.Native.Nat.{ℕ}
use native.Mathlib.Omega.{arith}
use lib.Seq.{sets}
use Rattle.frame.specs.Sizes.{header_size, most_payload, payload_size}
use Rattle.frame.specs.Fields.{payload_of}
use Rattle.frame.proofs.CopyLaws.{fill-front, length_part, part_bytes, zeros}
use Rattle.frame.proofs.plain.Plaintext.payload.Goals as goal

pub returns : goal.returns
returns c = let b = c.args.self.bytes in
    let l = c.args.layout in
    let n = c.from-n.result in
    let e : n ≡ payload_size l.class l.li = c.from-n.ensures ∙ c.payload_size.ensures.0 in
    c.copy_into.ensures ∙ ap (sets (zeros most_payload) 0) (part_bytes header_size n b ∙ ap (λ (k : ℕ). payload_of k b) e)
    ∙ fill-front most_payload (payload_of (payload_size l.class l.li) b) (omega (arith, length_part b header_size (payload_size l.class l.li), e, c.from-n.ensures, c.payload_size.ensures.1))
