use mathlib.Core.Path.{sym, ap₂, ◌∙◌}
use Prim.Native.Nat.{◌+◌, ◌*◌}
use native.Mathlib.Omega.{arith}
use lib.ListN.{length}
use lib.Seq.{length-take-le}
use Rattle.limits.specs.Answer.{said_by}
use Rattle.frame.specs.Sizes.{auth_size}
use Rattle.writer.proofs.Sent.{Sendable}
use Rattle.writer.proofs.WriteLaws.{size_most, count_is, body_read_back, body_are, body-odd, refuses, writes, cause-short, cause-long, cause-both, cause-counter, cause-auth, no_cause}
use Rattle.writer.proofs.write_uplink.Goals.{Else-auth-called}
use Rattle.writer.proofs.write_uplink.Goals as goal

sendable : (c : Else-auth-called) → let a = c.args in Sendable a.fields a.payload.now a.auth.now
sendable c =
    let r = c.new-layout in
    record {
      short-payload = c.if-payload-gt-MOST_PAYLOAD.false;
      one_of_both = sym c.bit_and_payload.ensures ∙ c.if-bit_and_payload.false;
      counter = c.if-fields-gt-HIGHEST_COUNTER.false;
      auth-size = c.if-auth-called.false ∙ (c.from-called.ensures ∙ c.auth_size.ensures.0) ∙ ap₂ auth_size r.ensures.0 r.ensures.1;
    }

pub returns-then-out-lt-ALL_PLACES : goal.returns-then-out-lt-ALL_PLACES
unfolding said_by
returns-then-out-lt-ALL_PLACES c =
    let a = c.args in
    refuses a.fields a.payload.now a.auth.now a.out.now 1 (cause-short a.fields a.payload.now a.auth.now a.out.now c.if-out-lt-ALL_PLACES.true)

pub returns-then-payload-gt-MOST_PAYLOAD : goal.returns-then-payload-gt-MOST_PAYLOAD
unfolding said_by
returns-then-payload-gt-MOST_PAYLOAD c =
    let a = c.args in
    refuses a.fields a.payload.now a.auth.now a.out.now 9 (cause-long a.fields a.payload.now a.auth.now a.out.now c.if-out-lt-ALL_PLACES.false c.if-payload-gt-MOST_PAYLOAD.true)

pub returns-then-bit_and_payload : goal.returns-then-bit_and_payload
unfolding said_by
returns-then-bit_and_payload c =
    let a = c.args in
    refuses a.fields a.payload.now a.auth.now a.out.now 9 (cause-both a.fields a.payload.now a.auth.now a.out.now c.if-out-lt-ALL_PLACES.false c.if-payload-gt-MOST_PAYLOAD.false (sym c.bit_and_payload.ensures ∙ c.if-bit_and_payload.true))

pub returns-then-fields-gt-HIGHEST_COUNTER : goal.returns-then-fields-gt-HIGHEST_COUNTER
unfolding said_by
returns-then-fields-gt-HIGHEST_COUNTER c =
    let a = c.args in
    refuses a.fields a.payload.now a.auth.now a.out.now 9 (cause-counter a.fields a.payload.now a.auth.now a.out.now c.if-out-lt-ALL_PLACES.false c.if-payload-gt-MOST_PAYLOAD.false (sym c.bit_and_payload.ensures ∙ c.if-bit_and_payload.false) c.if-fields-gt-HIGHEST_COUNTER.true)

pub returns-then-auth-called : goal.returns-then-auth-called
unfolding said_by
returns-then-auth-called c =
    let a = c.args in
    let r = c.new-layout in
    refuses a.fields a.payload.now a.auth.now a.out.now 9 (cause-auth a.fields a.payload.now a.auth.now a.out.now c.if-out-lt-ALL_PLACES.false c.if-payload-gt-MOST_PAYLOAD.false (sym c.bit_and_payload.ensures ∙ c.if-bit_and_payload.false) c.if-fields-gt-HIGHEST_COUNTER.false
    (λ e. c.if-auth-called.true (e ∙ sym ((c.from-called.ensures ∙ c.auth_size.ensures.0) ∙ ap₂ auth_size r.ensures.0 r.ensures.1))))

pub frame_bytes-bytes-requires : goal.frame_bytes-bytes-requires
frame_bytes-bytes-requires c =
    let a = c.args in
    let r = c.new-layout in
    (r.ensures.1, c.if-payload-gt-MOST_PAYLOAD.false, size_most a.fields a.payload.now a.auth.now (sendable c))

pub slice_bounds-bytes-end : goal.slice_bounds-bytes-end
slice_bounds-bytes-end c =
    let a = c.args in
    omega (arith, size_most a.fields a.payload.now a.auth.now (sendable (goal.at.slice_bounds-bytes-end c).Else-auth-called))

pub slice_bounds-put_bits-end : goal.slice_bounds-put_bits-end
slice_bounds-put_bits-end c =
    let a = c.args in
    sym (length-take-le (6 + length a.payload.now + length a.auth.now + 2) c.frame_bytes-bytes.result (omega (arith, size_most a.fields a.payload.now a.auth.now (sendable (goal.at.slice_bounds-put_bits-end c).Else-auth-called))))

pub put_bits-requires : goal.put_bits-requires
put_bits-requires c =
    let a = c.args in
    let m = size_most a.fields a.payload.now a.auth.now (sendable (goal.at.put_bits-requires c).Else-auth-called) in
    omega (arith, length-take-le (6 + length a.payload.now + length a.auth.now + 2) c.frame_bytes-bytes.result (omega arith))

pub slice_bounds-body-end : goal.slice_bounds-body-end
slice_bounds-body-end c =
    let a = c.args in
    omega (arith, size_most a.fields a.payload.now a.auth.now (sendable (goal.at.slice_bounds-body-end c).Else-auth-called))

pub slice_bounds-put_all-end : goal.slice_bounds-put_all-end
slice_bounds-put_all-end c =
    let a = c.args in
    sym (length-take-le (8 * (6 + length a.payload.now + length a.auth.now + 2)) c.put_bits.new.out (omega (arith, size_most a.fields a.payload.now a.auth.now (sendable (goal.at.slice_bounds-put_all-end c).Else-auth-called))))

pub put_all-requires : goal.put_all-requires
put_all-requires c =
    let a = c.args in
    let s = sendable (goal.at.put_all-requires c).Else-auth-called in
    let p = c.put_bits in
    let m = size_most a.fields a.payload.now a.auth.now s in
    let w = body_read_back a.fields a.payload.now a.auth.now s c.frame_bytes-bytes.result p.new.out c.frame_bytes-bytes.ensures p.ensures in (
      body_are a.fields a.payload.now a.auth.now s _ w,
      omega (arith, length-take-le (8 * (6 + length a.payload.now + length a.auth.now + 2)) p.new.out (omega arith)),
      c.if-out-lt-ALL_PLACES.false,
    )

pub returns : goal.returns
unfolding said_by
returns c =
    let a = c.args in
    let s = sendable (goal.at.returns c).Else-auth-called in
    let p = c.put_bits in
    let o = c.put_all in
    let h = c.if-out-lt-ALL_PLACES.false in
    let w = body_read_back a.fields a.payload.now a.auth.now s c.frame_bytes-bytes.result p.new.out c.frame_bytes-bytes.ensures p.ensures in
    writes a.fields a.payload.now a.auth.now a.out.now (no_cause a.fields a.payload.now a.auth.now a.out.now h s) _ o.new.out (count_is a.fields a.payload.now a.auth.now s)
    (body-odd a.fields a.payload.now a.auth.now s _ c.new-layout.result.class a.out.now o.new.out w c.new-layout.ensures.0 o.ensures)
