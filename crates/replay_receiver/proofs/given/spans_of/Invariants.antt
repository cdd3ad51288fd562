use Rattle.std.proofs.Common.{◌≡◌, ◌≤◌, length}
use Rattle.replay_receiver.proofs.given.spans_of.Given as goal

abbrev pub invariant-loop-span : goal.invariant-loop-span
invariant-loop-span l = (l.n ≤ l.span-index) × (length l.span-items ≡ 3)
