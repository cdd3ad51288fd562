use Rattle.std.proofs.Common.{◌≡◌, ◌*◌, ◌-◌, length}
use Rattle.std.proofs.lemmas.List.Edits.{sets}
use Rattle.replay.specs.Numbers.{numbers_from}
use Rattle.replay.proofs.store.Given as goal

abbrev pub invariant-loop-i : goal.invariant-loop-i
invariant-loop-i g l =
    let n = length l.initial.out in
    let size = g.T.LittleEndian.SIZE in
    let of = g.T.LittleEndian.of_pattern in
    (length l.out ≡ n) × (sets l.out l.i (numbers_from size of (n - l.i) (size * l.i) l.bytes) ≡ sets l.initial.out 0 (numbers_from size of n 0 l.bytes))
