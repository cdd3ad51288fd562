use Rattle.std.proofs.Common.{None, Some, sym, ap, ◌∙◌}
use Rattle.limits.specs.Answer.{accepted, said_by}
use Rattle.record.proofs.DecodingLaws.{decode-short, decode-whole}
use Rattle.record.proofs.sigfox_decode_bits.Goals as goal

pub returns-then-record-lt-RECORD : goal.returns-then-record-lt-RECORD
returns-then-record-lt-RECORD c =
    let d = decode-short c.args.bits.now c.args.«record».now c.if-record-lt-RECORD.true in
    (c.from.ensures ∙ d.0, d.1)

pub returns-in-Err : goal.returns-in-Err
unfolding said_by
returns-in-Err c =
    let d = decode-whole c.args.bits.now c.args.«record».now c.if-record-lt-RECORD.false _ c.in-Err.ensures in
    (c.from-in-Err.ensures ∙ d.0, d.1)

pub returns-in_default : goal.returns-in_default
unfolding said_by
returns-in_default c =
    decode-whole c.args.bits.now c.args.«record».now c.if-record-lt-RECORD.false (accepted None) (ap accepted (sym c.in_default.is) ∙ c.in-Ok.ensures)

pub returns : goal.returns
unfolding said_by
returns c =
    let f = c.in-Some.f in
    let d = decode-whole c.args.bits.now c.args.«record».now c.if-record-lt-RECORD.false (accepted (Some f)) (ap accepted (sym c.in-Some.is) ∙ c.in-Ok.ensures) in
    (d.0, c.put_frame.ensures ∙ d.1)
