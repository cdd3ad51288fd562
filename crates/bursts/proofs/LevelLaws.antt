-- The noise floor, and what is known of samples to which no cause applies. Assumes nothing.
use Rattle.std.proofs.Common.{rules, ◌≡◌, ℕ, ◌<◌, ◌≤◌, true, List, [], ◌∷◌, length, refl, arith}
use lib.Ieee.{Float, binary32}
use Rattle.order.specs.Order.{kth}
use Rattle.rates.specs.Rates.{fifth_of}
use Rattle.bursts.specs.Numbers.{silence}
use Rattle.limits.specs.Limits.{most_samples}
use Rattle.limits.specs.Samples.{all_dbm}
use Rattle.bursts.specs.Levels.{quantile, noise_floor, floor_cause}

pub floor_none : (l : List Float) → length l ≡ 0 → noise_floor l ≡ silence
unfolding noise_floor
floor_none [] e = refl
floor_none (x ∷ l) e = absurd (omega arith)

pub floor_some : (l : List Float) → 0 < length l → noise_floor l ≡ kth binary32 l (fifth_of (length l))
unfolding noise_floor quantile fifth_of
floor_some [] h = absurd (omega arith)
floor_some (x ∷ l) h = refl

-- of samples to which no cause applies
pub floor_accepted : (l : List Float) (n : ℕ) → 0 ≡ floor_cause l n → (length l ≤ most_samples) × (all_dbm l ≡ true)
unfolding floor_cause
floor_accepted l n e = search rules
