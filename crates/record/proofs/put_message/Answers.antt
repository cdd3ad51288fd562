use Prim.Native.Nat.{◌+◌}
use native.Mathlib.Omega.{arith}
use mir.Syntax.{w32}
use mir.Val.{to_z, of_z}
use mir.ValLaws.{to_z-of_z}
use mathlib.Core.List.{◌++◌}
use Rattle.record.specs.Record.{message_marks, span_of, head_bytes, identity_bytes, level_bytes, rank_bytes, time_bytes, span_bytes}
use Rattle.record.proofs.PartLaws.{kept}
use Rattle.record.proofs.RecordLaws.{message-written}
use borrow.Author.Rules.{rules}
use Rattle.record.proofs.put_message.Goals as goal

pub put_front-requires : goal.put_front-requires
put_front-requires c =
    omega (arith, c.requires)

pub overflow_add-at : goal.overflow_add-at
overflow_add-at c =
    record { fits = omega (arith, c.requires, c.well_formed.1.1.0.0) }

pub overflow_add-at-2 : goal.overflow_add-at-2
overflow_add-at-2 c =
    record { fits = omega (arith, c.requires, c.well_formed.1.1.0.0) }

pub overflow_add-at-3 : goal.overflow_add-at-3
overflow_add-at-3 c =
    record { fits = omega (arith, c.requires, c.well_formed.1.1.0.0) }

pub put-requires : goal.put-requires
put-requires c =
    let a = c.args in
    let o1 = c.put_front.new.out in
    let o2 = c.put_middle.new.out in
    let m = a.m in
    let ppm = to_z w32 (of_z w32 m.clock_error_ppm) in
    let h = c.message_head.result in
    let front = head_bytes h ++ (identity_bytes m.device_id m.counter h.payload_len m.payload h.auth_len m.auth (message_marks a.mark m) ++ level_bytes ppm m.rssi) in
    let middle = rank_bytes (span_of m 0).rank (span_of m 1).rank (span_of m 2).rank ++ time_bytes m.time c.end_of.result in
    let spans = span_bytes (span_of m 0) ++ (span_bytes (span_of m 1) ++ span_bytes (span_of m 2)) in
    omega (
      arith,
      c.requires,
      kept o1 a.out.now a.at front c.put_front.ensures,
      kept o2 o1 (a.at + 44) middle c.put_middle.ensures,
      kept c.put_spans.new.out o2 (a.at + 64) spans c.put_spans.ensures,
    )

pub returns : goal.returns
returns c = let a = c.args in
    message-written a.mark a.m (search rules) (search rules) c.message_head.result _ c.end_of.result a.out.now a.at
    c.put_front.new.out c.put_middle.new.out c.put_spans.new.out c.put.new.out
    c.message_head.ensures (to_z-of_z w32 a.m.clock_error_ppm (search rules)) c.end_of.ensures
    c.put_front.ensures c.put_middle.ensures c.put_spans.ensures c.put.ensures
