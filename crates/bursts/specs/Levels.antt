-- `quantile` and `noise_floor` of demod.rs. Assumes nothing.
use Rattle.std.specs.Prelude.{ℕ, cond, not, List, [], ◌∷◌, length, nat_lt, Float}
use Rattle.std.specs.Float.{binary32}
use Rattle.order.specs.Order.{kth}
use Rattle.limits.specs.Limits.{short, long, bad_sample, most_samples}
use Rattle.limits.specs.Samples.{all_dbm}
use Rattle.limits.specs.Answer.{Answer, answer}
use Rattle.rates.specs.Numbers.{floor_quantile}
use Rattle.rates.specs.Rates.{index_at}
use Rattle.bursts.specs.Numbers.{silence}

-- the value at q of the sorted samples
unfoldable pub quantile : Float → List Float → Float
quantile q l = kth binary32 l (index_at q (length l))

-- quantile(dbm, 0.2).unwrap_or(-120.0)
unfoldable pub noise_floor : List Float → Float
unfolding quantile
noise_floor [] = silence
noise_floor (x ∷ l) = quantile floor_quantile (x ∷ l)

-- the first cause that applies, 0 where none does: a call without a rate, whose scratch need only be as long as its samples
unfoldable pub floor_cause : List Float → ℕ → ℕ
floor_cause dbm scratch =
    cond (nat_lt scratch (length dbm)) short
    (cond (nat_lt most_samples (length dbm)) long
    (cond (not (all_dbm dbm)) bad_sample
    0))

-- the answer of `noise_floor`
unfoldable pub floor_answer : List Float → ℕ → Answer Float
unfolding noise_floor floor_cause
floor_answer dbm scratch = answer (floor_cause dbm scratch) (noise_floor dbm)
