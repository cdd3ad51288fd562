use Rattle.receiver.proofs.run.scan_tail.Goals as goal

pub scan-requires : goal.scan-requires
scan-requires c = let n = c.requires.0 in (record { events = n.events; scratch = n.scratch }, c.requires.1)

pub returns : goal.returns
returns c = rw c.tail-wait.ensures at c.scan.ensures
