use Rattle.std.proofs.Common.{◌≡◌, ◌+◌, drop}
use Rattle.frequency_signal.specs.Order.{Index}
use Rattle.frequency_signal.specs.Heard.{heard}
use Rattle.frequency_signal.proofs.hear_all.Given as goal

abbrev pub invariant-loop-x : goal.invariant-loop-x
invariant-loop-x l = (l.t.n ≡ l.initial.t.n + l.x-index) × Index l.t.n l.t.last_signal × (heard l.rate l.t (drop l.x-index l.dbm) ≡ heard l.rate l.initial.t l.dbm)
