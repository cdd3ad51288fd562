-- Trackers with one register value a call, at the start and handed on. Assumes nothing.
use Prim.Native.Nat.{ℕ, ◌<◌, ◌^◌}
use mathlib.Core.Path.{◌≡◌, sym, ◌∙◌, subst}
use lib.Ieee.{Float}
use Rattle.frequency.specs.declared.FrequencyTracker.{FrequencyTracker}
use Rattle.frequency.specs.Calls.{fresh}
use Rattle.frequency.specs.Lent.{Lists}
use Rattle.frequency.specs.Order.{cause_new}
use Rattle.frequency_grown.specs.Rising.{Single, new}

pub moved : {s t : FrequencyTracker} {l : Lists} → t ≡ s → Single s l → Single t l
moved {l = l} e g = subst (λ (x : FrequencyTracker). Single x l) (sym e) g

-- what an accepted `new` answers
pub begins : (rate base : ℕ) (step : Float) (r : ℕ) (t : FrequencyTracker) (l : Lists) → base < 2 ^ 32 → r ≡ cause_new rate step → r ≡ 0 → t ≡ fresh rate base step → Single t l
begins rate base step r t l h e z f = moved f (new rate base step l h (sym e ∙ z))
