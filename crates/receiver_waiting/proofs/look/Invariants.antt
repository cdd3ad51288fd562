-- The invariant: what is found so far and what is left give what there is to find in all.
use mathlib.Core.Bool.{◌&&◌, ◌||◌}
use mathlib.Core.List.{map}
use mathlib.Core.Path.{◌≡◌}
use lib.ListN.{drop, length, take}
use Rattle.ledger.specs.Causes.{most_waiting, all_fit, any_nan}
use Rattle.ledger.specs.Ledger.{by_entry}
use Rattle.receiver_waiting.specs.Waiting.{Counters, any_expires, key_number}
use Rattle.receiver_waiting.proofs.look.Given as goal

abbrev pub invariant-loop-i : goal.invariant-loop-i
invariant-loop-i l = record {
  places : length l.keys ≡ most_waiting;
  keys : take l.i l.keys ≡ map key_number (take l.i l.messages);
  counters : Counters (take l.i l.messages);
  fit : l.fit && all_fit by_entry (drop l.i l.messages) ≡ all_fit by_entry l.messages;
  nan : l.nans || any_nan by_entry (drop l.i l.messages) ≡ any_nan by_entry l.messages;
  expires : l.any || any_expires l.now (drop l.i l.messages) ≡ any_expires l.now l.messages;
}
