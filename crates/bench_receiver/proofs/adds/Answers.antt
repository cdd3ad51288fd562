use Rattle.receiver.specs.Calls.{memory}
use Rattle.bench_receiver.proofs.adds.Goals as goal

pub returns-then-proved : goal.returns-then-proved
returns-then-proved c e = c.adds_raw.ensures e (memory c.args.lent.now) c.view.ensures

pub returns : goal.returns
returns c e = c.adds_raw-2.ensures e (memory c.args.lent.now) c.view-2.ensures
