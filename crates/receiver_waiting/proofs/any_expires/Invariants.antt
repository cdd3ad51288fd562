-- The invariant: one of all is complete just where one of those left is.
use mathlib.Core.Path.{◌≡◌}
use lib.ListN.{drop}
use Rattle.receiver_waiting.specs.Waiting.{any_expires}
use Rattle.receiver_waiting.proofs.any_expires.Given as goal

abbrev pub invariant-loop-p : goal.invariant-loop-p
invariant-loop-p l = any_expires l.now l.messages ≡ any_expires l.now (drop l.p-index l.messages)
