use Rattle.std.proofs.Common.{sym, map, arith}
use Rattle.frequency_lists.specs.Lists.{ats}
use Rattle.frequency_signal.specs.Seconds.{late}
use Rattle.frequency_measure.proofs.Frames.{front-numbers, front-length}
use Rattle.frequency.proofs.Settled.{too_few, settled, index_up}
use Rattle.frequency.proofs.settled_step.Goals as goal

pub gather_late-m-requires : goal.gather_late-m-requires
gather_late-m-requires c = (index_up c.args.t.now.signal.n c.args.t.now.signal.frame_from c.requires.steady.stream c.requires.steady.from, c.requires.small, c.requires.room)

pub returns-then-m-lt-FEWEST : goal.returns-then-m-lt-FEWEST
returns-then-m-lt-FEWEST c =
    let a = c.args in
    let g = c.gather_late-m in
    sym (too_few a.t.now a.held.now a.out.now _ g.result g.ensures c.if-m-lt-FEWEST.true)

pub median_of-requires : goal.median_of-requires
median_of-requires c =
    let a = c.args in
    let g = c.gather_late-m in
    let n = front-length _ a.out.now _ g.result g.ensures in
    let m = c.if-m-lt-FEWEST.false in
    (omega arith, front-numbers (map (late a.t.now.rate a.t.now.signal.frame_from) (ats a.held.now)) a.held.now a.out.now _ g.result c.requires.numbers g.ensures)

pub returns : goal.returns
returns c =
    let a = c.args in
    let g = c.gather_late-m in
    settled a.t.now a.held.now a.out.now _ g.result g.ensures (omega (arith, c.if-m-lt-FEWEST.false)) c.median_of.result c.round_hz.result c.median_of.ensures c.round_hz.ensures
