-- Scaffolding. Readings that rise, and the trackers whose readings do: those that are handed one register value a call at most. Assumes nothing.
use Rattle.std.specs.Prelude.{ℕ, ◌≤◌, ◌<◌, ◌^◌, ◌≡◌, Bool, true, ◌&&◌, List, [], ◌∷◌, leb, length, Float, Option}
use Rattle.std.specs.List.{list_all}
use Rattle.frequency_lists.specs.declared.Tuning.{Tuning}
use Rattle.frequency.specs.declared.FrequencyTracker.{FrequencyTracker}
use Rattle.frequency.specs.Calls.{SamplesEnd, CfoEnd, TunedEnd, NextEnd, fresh}
use Rattle.frequency.specs.Lent.{Lists, lists}
use Rattle.frequency.specs.Order.{cause_new}

-- indices none of which is over one behind it
unfoldable pub rises : List ℕ → Bool
rises [] = true
rises (a ∷ l) = list_all (leb a) l && rises l

-- frequency's `Grown`, of calls of `cfo` with one value or none
pub data Single : FrequencyTracker → Lists → Type 0 where
  new : (rate base : ℕ) (step : Float) (l : Lists) → base < 2 ^ 32 → cause_new rate step ≡ 0 → Single (fresh rate base step) l
  tuned : {s t : FrequencyTracker} {l : Lists} (f : ℕ) (ts : List Tuning) → f < 2 ^ 32 → Single s l → TunedEnd s f l.tunings 0 t ts → Single t (lists l.readings ts)
  samples : {s t : FrequencyTracker} {l m : Lists} (dbm : List Float) → Single s l → SamplesEnd s dbm l 0 t m → Single t m
  cfo : {s t : FrequencyTracker} {l m : Lists} (raw : List ℕ) → length raw ≤ 1 → Single s l → CfoEnd s raw l 0 t m → Single t m
  next : {s t : FrequencyTracker} {l : Lists} (out out' : List Float) (tune : (Option ℕ)) → Single s l → NextEnd s l out 0 t tune out' → Single t l
