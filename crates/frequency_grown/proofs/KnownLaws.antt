-- A grown tracker is known to be in order, and what is left of the causes of one that is. Assumes nothing.
use mathlib.Core.List.{List}
use mathlib.Core.Path.{◌≡◌, refl}
use Prim.Native.Nat.{ℕ}
use lib.Ieee.{Float}
use Rattle.frequency.specs.declared.FrequencyTracker.{FrequencyTracker}
use Rattle.frequency.specs.Lent.{Lists}
use Rattle.frequency.specs.Grown.{Grown}
use Rattle.frequency.specs.Order.{cause_samples, cause_cfo, cause_next}
use Rattle.frequency.proofs.Grown.{never-refused}
use Rattle.frequency_grown.specs.Known.{Known, line_cause, values_cause, room_cause}

-- 01: 'a port can't refuse for a state that it spoiled itself'
pub grown-known : {s : FrequencyTracker} {l : Lists} → Grown s l → Known s l
grown-known g = let n = never-refused g in record { rate = n.0; order = n.1; numbers = n.2 }

module _ (s : FrequencyTracker) (l : Lists) (k : Known s l) where
  pub samples-cause : (dbm : List Float) → cause_samples s l dbm ≡ line_cause s.rate s.signal.n dbm
  unfolding cause_samples
  samples-cause dbm = rw (k.rate, k.order, k.numbers) refl

  pub cfo-cause : (raw : List ℕ) → cause_cfo s l raw ≡ values_cause s.readings raw l.readings
  unfolding cause_cfo
  cfo-cause raw = rw (k.rate, k.order, k.numbers) refl

  pub next-cause : (room : ℕ) → cause_next s l room ≡ room_cause s.readings room
  unfolding cause_next
  next-cause room = rw (k.rate, k.order, k.numbers) refl
