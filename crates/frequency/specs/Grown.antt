-- Trackers grown from `new` by accepted calls, with the lists that each call left; base frequencies and tunings are u32. Assumes nothing.
use Rattle.std.specs.Prelude.{ℕ, ◌<◌, ◌^◌, ◌≡◌, List, Float, Option}
use Rattle.frequency_lists.specs.declared.Tuning.{Tuning}
use Rattle.frequency.specs.declared.FrequencyTracker.{FrequencyTracker}
use Rattle.frequency.specs.Calls.{SamplesEnd, CfoEnd, TunedEnd, NextEnd, fresh}
use Rattle.frequency.specs.Lent.{Lists, lists}
use Rattle.frequency.specs.Order.{cause_new}

pub data Grown : FrequencyTracker → Lists → Type 0 where
  new : (rate base : ℕ) (step : Float) (l : Lists) → base < 2 ^ 32 → cause_new rate step ≡ 0 → Grown (fresh rate base step) l
  tuned : {s t : FrequencyTracker} {l : Lists} (f : ℕ) (ts : List Tuning) → f < 2 ^ 32 → Grown s l → TunedEnd s f l.tunings 0 t ts → Grown t (lists l.readings ts)
  samples : {s t : FrequencyTracker} {l m : Lists} (dbm : List Float) → Grown s l → SamplesEnd s dbm l 0 t m → Grown t m
  cfo : {s t : FrequencyTracker} {l m : Lists} (raw : List ℕ) → Grown s l → CfoEnd s raw l 0 t m → Grown t m
  next : {s t : FrequencyTracker} {l : Lists} (out out' : List Float) (tune : (Option ℕ)) → Grown s l → NextEnd s l out 0 t tune out' → Grown t l
