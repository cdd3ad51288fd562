-- Reading in parts, as the program `charges` does: parts add up. Assumes nothing.
use Rattle.std.specs.Prelude.{◌≡◌, ◌&&◌, List, ◌++◌, ℕ, ◌%◌, length}
use Rattle.limits.specs.Limits.{record_size}
use Rattle.event_list.specs.Events.{events_of, messages_of, list_ok}
use Rattle.subscription.specs.Charges.{all_in_month}
use Rattle.subscription.specs.Counting.{tallied}

-- a list that is read in two parts, the first of whole records
pub record InParts (start : ℕ) (c l k : List ℕ) : Type 0 where
  pub ok : list_ok (l ++ k) ≡ (list_ok l && list_ok k)
  pub within : all_in_month start (messages_of (events_of (l ++ k))) ≡ (all_in_month start (messages_of (events_of l)) && all_in_month start (messages_of (events_of k)))
  pub counts : tallied start c (events_of (l ++ k)) ≡ tallied start (tallied start c (events_of l)) (events_of k)

abbrev pub PartsAdd : Type 0
PartsAdd = (start : ℕ) (c l k : List ℕ) → length l % record_size ≡ 0 → InParts start c l k
