use Rattle.std.proofs.Common.{◌≡◌, ℕ, Result, Ok, Err, refl}
use Rattle.limits.specs.declared.Refusal.{Refusal}
use Rattle.receiver.specs.Calls.{received}
use Rattle.receiver.specs.declared.SigfoxReceiver.{SigfoxReceiver}
use Rattle.receiver_grown.proofs.GrownLaws.{grown-raw, in_order}
use Rattle.bench_receiver.proofs.push.Goals as goal

-- the receiver after a call, whatever it answers
left : (r : Result ℕ Refusal) (s : SigfoxReceiver) → (received r s).receiver ≡ s
left (Ok n) s = refl
left (Err e) s = refl

pub adds-requires : goal.adds-requires
adds-requires c = in_order c.requires

pub add_raw-requires : goal.add_raw-requires
add_raw-requires c = c.adds.ensures c.if-adds.true

pub returns-then-adds : goal.returns-then-adds
returns-then-adds c = grown-raw c.args.raw.now _ c.add_raw.ensures.answered c.requires

pub returns : goal.returns
returns c =
    let p = c.push_raw-answer in
    let g = grown-raw c.args.raw.now _ p.ensures.answered c.requires in
    rw c.note.ensures (rw (left p.result p.new.self) at g)
