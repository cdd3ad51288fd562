use Rattle.ledger.specs.Ledger.{flush, scans}
use Rattle.ledger.specs.Demodulation.{demod_of}
use Rattle.receiver_waiting.specs.declared.Leaving.TheVariants.{All}
use Rattle.receiver.specs.State.{ledger_of}
use Rattle.shifts.specs.Shifts.{schedule, mark_by}
use Rattle.receiver.proofs.RunLaws.{held-is, flush-asks, flush-end, closable, ends_flush}
use Rattle.receiver.proofs.run.hear_all.Goals as goal

pub slice_bounds-looked_at-end : goal.slice_bounds-looked_at-end
slice_bounds-looked_at-end c = let a = c.args in held-is a.s.now a.samples.now a.events.now a.scratch.now flush c.requires

pub scan-requires : goal.scan-requires
scan-requires c =
    let a = c.args in
    let n = flush-asks a.s.now a.samples.now a.events.now a.scratch.now c.requires in
    (record { events = n.0.events; scratch = n.0.scratch }, rw c.begin-t.ensures n.1)

pub finish-requires : goal.finish-requires
finish-requires c =
    let a = c.args in
    let t = c.scan in
    closable (mark_by (schedule a.given.now)) a.s.now flush a.samples.now _ a.events.now _ a.scratch.now _ _ _ _ All c.requires
    (flush-end a.s.now a.samples.now a.events.now a.scratch.now c.requires t.new.s _ (rw c.begin-t.ensures at t.ensures)) (ends_flush _) t.auto.events

pub returns : goal.returns
returns c =
    let a = c.args in
    let t = c.scan in
    let d = flush-end a.s.now a.samples.now a.events.now a.scratch.now c.requires t.new.s _ (rw c.begin-t.ensures at t.ensures) in
    record {
      ended = c.finish.ensures flush (scans a.s.now.rate (demod_of a.s.now.rate) (ledger_of a.s.now a.samples.now) flush) a.events.now (ends_flush _) d.under;
      samples = d.samples;
    }

pub invariant_of-looked_at : goal.invariant_of-looked_at
invariant_of-looked_at c =
    let a = c.args in
    let n = (flush-asks a.s.now a.samples.now a.events.now a.scratch.now c.requires).0 in
    record { low = n.lowest; high = n.highest; short = n.fits; valid = n.valid }

pub invariant_of-all : goal.invariant_of-all
invariant_of-all c =
    let a = c.args in
    let n = (flush-asks a.s.now a.samples.now a.events.now a.scratch.now c.requires).0 in
    record { stream = n.stream; waits = n.waits }
