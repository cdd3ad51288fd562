use mathlib.Core.Path.{sym}
use mathlib.Core.List.{append_assoc, append-nil}
use native.Mathlib.Omega.{arith}
use Rattle.listening_lines.specs.Text.{hex_bytes}
use Rattle.listening_lines.proofs.LineLaws.{no_payload, whole-payload, payload_more}
use Rattle.listening_lines.proofs.put_payload.Goals as goal

pub returns-then-n-eq0-clause-text : goal.returns-then-n-eq0-clause-text
returns-then-n-eq0-clause-text c = rw (← no_payload _ _ c.payload_len-n.ensures (omega arith)) c.put_byte.ensures

pub loop-b-init : goal.loop-b-init
unfolding hex_bytes
loop-b-init c = (sym (append-nil c.args.line.now), omega arith)

pub loop-b-preserved : goal.loop-b-preserved
loop-b-preserved c =
    let l = c.loop-b in
    let e = c.args.event.bytes.now in
    let more = payload_more e _ l.b-index (omega arith) (omega arith) (omega arith) in
    (rw (c.put_hex.ensures.text, l.invariant.0, c.from.ensures, ← more) (append_assoc c.args.line.now _ _), omega (arith, c.put_hex.ensures.count, l.invariant.1))

pub returns-clause-text : goal.returns-clause-text
returns-clause-text c =
    let l = c.loop-b in
    let n = c.payload_len-n in
    rw (← whole-payload c.args.event.bytes.now n.result l.b-index n.ensures (omega arith) (omega arith) (omega arith)) l.invariant.0
