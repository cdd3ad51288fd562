use Rattle.std.proofs.Common.{ℕ, ◌+◌, List, map, length, ap, ap₂, ◌∙◌, arith}
use lib.ListN.{length-drop}
use Rattle.coding.specs.Bits.{odd, are_bits}
use Rattle.coding.proofs.BitLaws.{bits-drop}
use Rattle.frame.specs.Kinds.{sync_size}
use Rattle.frame.specs.Decode.{decode_body}
use Rattle.frame.specs.Types.{decoded_from}
use Rattle.frame.specs.declared.kinds.FrameKind.{FrameKind}
use Rattle.frame.proofs.SearchLaws.{part_is, part-bits}
use Rattle.frame.proofs.TypeLaws.{decoded_there}
use Rattle.frame.proofs.decode_bits.Goals as goal

pub returns-in_err-found : goal.returns-in_err-found
unfolding decoded_from
returns-in_err-found c =
    let m = map odd c.args.bits.now in
    let e = c.in_err-found.ensures in
    c.from_residual.ensures ∙ ap (decoded_from m) e.0 ∙ decoded_there m

pub new-requires : goal.new-requires
new-requires c =
    let z = c.args.bits.now in
    let n = c.in_ok-found.found.start + sync_size in (
      ap are_bits (part_is z n) ∙ bits-drop n z c.requires.0,
      omega (arith, c.requires.1, ap length (part_is z n), length-drop n z),
      c.in_ok-found.ensures.1.1,
    )

pub returns : goal.returns
unfolding decoded_from
returns c =
    let z = c.args.bits.now in
    let t = c.in_ok-found.found in
    c.decode.ensures
    ∙ ap₂ (λ (k : FrameKind) (l : List ℕ). decode_body k (map odd l)) c.new.ensures.1 c.new.ensures.0
    ∙ ap (decode_body t.kind) (part-bits z (t.start + sync_size))
    ∙ ap (decoded_from (map odd z)) c.in_ok-found.ensures.0
    ∙ decoded_there (map odd z)
