-- The tests stand in the order of the causes.
use mathlib.Core.Path.{sym, ◌∙◌}
use native.Mathlib.Omega.{arith}
use Rattle.limits.specs.Answer.{cause_of}
use Rattle.bytewise.proofs.Causes.{short_out, short-rest, long-bits, high-rank, not-bits, none-applies}
use Rattle.bytewise.proofs.check.Goals.{then-room-bytes-via-then-room-bytes, then-room-bytes-via-else-room-bytes+then-rest_room-rest, then-bytes-via-then-bytes, then-bytes-via-else-bytes+then-bytes-rest, then-rank-gt-HIGHEST_RANK-via-then-rank-gt-HIGHEST_RANK, then-rank-gt-HIGHEST_RANK-via-else-rank-gt-HIGHEST_RANK+then-not-are_bits}
use Rattle.bytewise.proofs.check.Goals as goal

pub returns-then-room-bytes : goal.returns-then-room-bytes
unfolding cause_of
returns-then-room-bytes c =
    let a = c.args in
    elim c.then-room-bytes.branch [
      | then-room-bytes-via-then-room-bytes w ↦ short_out a.bytes.now a.rest.now a.rank a.room a.rest_room w.if-room-bytes.true
      | then-room-bytes-via-else-room-bytes+then-rest_room-rest w ↦
          short-rest a.bytes.now a.rest.now a.rank a.room a.rest_room w.if-room-bytes.false w.if-rest_room-rest.true
    ]

pub returns-then-bytes : goal.returns-then-bytes
unfolding cause_of
returns-then-bytes c =
    let a = c.args in
    elim c.then-bytes.branch [
      | then-bytes-via-then-bytes w ↦
          long-bits a.bytes.now a.rest.now a.rank a.room a.rest_room c.if-room-bytes.false c.if-rest_room-rest.false (omega (arith, w.if-bytes.true))
      | then-bytes-via-else-bytes+then-bytes-rest w ↦
          long-bits a.bytes.now a.rest.now a.rank a.room a.rest_room c.if-room-bytes.false c.if-rest_room-rest.false
          (omega (arith, w.if-bytes.false, w.if-bytes-rest.true))
    ]

pub returns-then-rank-gt-HIGHEST_RANK : goal.returns-then-rank-gt-HIGHEST_RANK
unfolding cause_of
returns-then-rank-gt-HIGHEST_RANK c =
    let a = c.args in
    elim c.then-rank-gt-HIGHEST_RANK.branch [
      | then-rank-gt-HIGHEST_RANK-via-then-rank-gt-HIGHEST_RANK w ↦
          high-rank a.bytes.now a.rest.now a.rank a.room a.rest_room c.if-room-bytes.false c.if-rest_room-rest.false
          (omega (arith, c.if-bytes.false, c.if-bytes-rest.false)) w.if-rank-gt-HIGHEST_RANK.true
      | then-rank-gt-HIGHEST_RANK-via-else-rank-gt-HIGHEST_RANK+then-not-are_bits w ↦
          not-bits a.bytes.now a.rest.now a.rank a.room a.rest_room c.if-room-bytes.false c.if-rest_room-rest.false
          (omega (arith, c.if-bytes.false, c.if-bytes-rest.false)) w.if-rank-gt-HIGHEST_RANK.false (sym w.are_bits.ensures ∙ w.if-not-are_bits.true)
    ]

pub returns : goal.returns
unfolding cause_of
returns c =
    let a = c.args in
    none-applies a.bytes.now a.rest.now a.rank a.room a.rest_room c.if-room-bytes.false c.if-rest_room-rest.false
    (omega (arith, c.if-bytes.false, c.if-bytes-rest.false)) c.if-rank-gt-HIGHEST_RANK.false (sym c.are_bits.ensures ∙ c.if-not-are_bits.false)
