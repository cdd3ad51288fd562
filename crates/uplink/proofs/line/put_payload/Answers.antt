use mathlib.Core.Path.{sym, ◌∙◌}
use Rattle.uplink.proofs.Frames.{payload_read}
use Rattle.uplink.proofs.line.put_payload.Goals as goal

pub returns : goal.returns
returns c = let a = c.args in
    let p = c.put_bytes in
    payload_read a.w.now a.out.now _ p.result c.requires (sym c.is_bit.ensures ∙ c.if-is_bit.false) (sym c.is_none.ensures ∙ c.if-is_none.false) p.ensures.0 p.ensures.1
