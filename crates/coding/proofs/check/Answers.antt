-- The tests stand in the order of the causes.
use mathlib.Core.Path.{sym, ◌∙◌}
use Rattle.limits.specs.Answer.{cause_of}
use Rattle.coding.proofs.Causes.{short_out, long-bits, high-rank, not-bits, accepted}
use Rattle.coding.proofs.check.Goals as goal
use Rattle.coding.proofs.check.Goals.{then-rank-gt-HIGHEST_RANK-via-then-rank-gt-HIGHEST_RANK, then-rank-gt-HIGHEST_RANK-via-else-rank-gt-HIGHEST_RANK+then-not-are_bits}

pub returns-then-room-bits : goal.returns-then-room-bits
unfolding cause_of
returns-then-room-bits c = let a = c.args in short_out a.bits.now a.rank a.room c.if-room-bits.true

pub returns-then-bits-gt-MOST_BITS : goal.returns-then-bits-gt-MOST_BITS
unfolding cause_of
returns-then-bits-gt-MOST_BITS c = let a = c.args in long-bits a.bits.now a.rank a.room c.if-room-bits.false c.if-bits-gt-MOST_BITS.true

pub returns-then-rank-gt-HIGHEST_RANK : goal.returns-then-rank-gt-HIGHEST_RANK
unfolding cause_of
returns-then-rank-gt-HIGHEST_RANK c = let a = c.args in
    elim c.then-rank-gt-HIGHEST_RANK.branch [
      | then-rank-gt-HIGHEST_RANK-via-then-rank-gt-HIGHEST_RANK w ↦
          high-rank a.bits.now a.rank a.room c.if-room-bits.false c.if-bits-gt-MOST_BITS.false w.if-rank-gt-HIGHEST_RANK.true
      | then-rank-gt-HIGHEST_RANK-via-else-rank-gt-HIGHEST_RANK+then-not-are_bits w ↦
          not-bits a.bits.now a.rank a.room c.if-room-bits.false c.if-bits-gt-MOST_BITS.false w.if-rank-gt-HIGHEST_RANK.false
          (sym w.are_bits.ensures ∙ w.if-not-are_bits.true)
    ]

pub returns : goal.returns
unfolding cause_of
returns c = let a = c.args in
    accepted a.bits.now a.rank a.room c.if-room-bits.false c.if-bits-gt-MOST_BITS.false c.if-rank-gt-HIGHEST_RANK.false
    (sym c.are_bits.ensures ∙ c.if-not-are_bits.false)
