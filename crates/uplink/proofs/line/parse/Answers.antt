use mathlib.Core.Path.{sym}
use native.Mathlib.Omega.{arith}
use Rattle.uplink.proofs.Frames.{front_read, not_five, five_words, words_fit, no_words, a_frame}
use Rattle.uplink.proofs.line.parse.Goals as goal

pub returns-then-count_spaces-ne4 : goal.returns-then-count_spaces-ne4
returns-then-count_spaces-ne4 c = sym (not_five c.args.line.now c.count_spaces.result c.count_spaces.ensures c.if-count_spaces-ne4.true)

pub returns-then-not-ok : goal.returns-then-not-ok
returns-then-not-ok c =
    sym (no_words c.args.line.now c.cut.result.0.now c.cut-2.result.0.now c.cut-3.result.0.now c.cut-4.result.0.now c.cut-5.result.0.now c.count_spaces.result c.count_spaces.ensures c.if-count_spaces-ne4.false
    (five_words c.args.line.now _ c.cut.result.1.now _ c.cut-2.result.1.now _ c.cut-3.result.1.now _ c.cut-4.result.1.now _ c.cut.ensures c.cut-2.ensures c.cut-3.ensures c.cut-4.ensures c.cut-5.ensures.0)
    c.has_digits.result c.is_counter.result c.is_payload.result c.has_digits-2.result c.are_bytes.result
    c.has_digits.ensures c.is_counter.ensures c.is_payload.ensures c.has_digits-2.ensures c.are_bytes.ensures c.if-not-ok.true)

pub put_payload-requires : goal.put_payload-requires
put_payload-requires c =
    omega (
      arith,
      c.requires.0,
      (words_fit c.args.line.now c.cut.result.0.now c.cut-2.result.0.now c.cut-3.result.0.now c.cut-4.result.0.now c.cut-5.result.0.now
          (five_words c.args.line.now _ c.cut.result.1.now _ c.cut-2.result.1.now _ c.cut-3.result.1.now _ c.cut-4.result.1.now _ c.cut.ensures c.cut-2.ensures c.cut-3.ensures c.cut-4.ensures c.cut-5.ensures.0)).0,
    )

pub put_bytes-requires : goal.put_bytes-requires
put_bytes-requires c =
    omega (
      arith,
      c.requires.1,
      (words_fit c.args.line.now c.cut.result.0.now c.cut-2.result.0.now c.cut-3.result.0.now c.cut-4.result.0.now c.cut-5.result.0.now
          (five_words c.args.line.now _ c.cut.result.1.now _ c.cut-2.result.1.now _ c.cut-3.result.1.now _ c.cut-4.result.1.now _ c.cut.ensures c.cut-2.ensures c.cut-3.ensures c.cut-4.ensures c.cut-5.ensures.0)).1,
    )

pub returns : goal.returns
returns c =
    let p = c.put_bytes in
    a_frame c.args.line.now c.cut.result.0.now c.cut-2.result.0.now c.cut-3.result.0.now c.cut-4.result.0.now c.cut-5.result.0.now c.count_spaces.result c.count_spaces.ensures c.if-count_spaces-ne4.false
    (five_words c.args.line.now _ c.cut.result.1.now _ c.cut-2.result.1.now _ c.cut-3.result.1.now _ c.cut-4.result.1.now _ c.cut.ensures c.cut-2.ensures c.cut-3.ensures c.cut-4.ensures c.cut-5.ensures.0)
    c.has_digits.result c.is_counter.result c.is_payload.result c.has_digits-2.result c.are_bytes.result
    c.has_digits.ensures c.is_counter.ensures c.is_payload.ensures c.has_digits-2.ensures c.are_bytes.ensures c.if-not-ok.false
    c.fields_of.result _ _ c.fields_of.ensures c.put_payload.ensures
    (front_read c.cut-5.result.0.now c.args.auth.now _ p.result (omega (
      arith,
      c.requires.1,
      (words_fit c.args.line.now c.cut.result.0.now c.cut-2.result.0.now c.cut-3.result.0.now c.cut-4.result.0.now c.cut-5.result.0.now
          (five_words c.args.line.now _ c.cut.result.1.now _ c.cut-2.result.1.now _ c.cut-3.result.1.now _ c.cut-4.result.1.now _ c.cut.ensures c.cut-2.ensures c.cut-3.ensures c.cut-4.ensures c.cut-5.ensures.0)).1,
    )) p.ensures.0 p.ensures.1)
