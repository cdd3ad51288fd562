-- The level of a burst, and the end of its signal. Assumes nothing.
use Rattle.std.proofs.Common.{◌≡◌, ℕ, zero, suc, ◌-◌, ◌<◌, true, false, List, get_or, ◌∙◌, arith}
use lib.Ieee.{Float, nan, lt}
use Rattle.clock.specs.Bits.{last_high}

module _ (limit : Float) (seg : List Float) (w : ℕ) where
  pub high_here : (i : ℕ) → 0 < i → lt (get_or seg i nan) limit ≡ false → last_high limit seg i ≡ w → i ≡ w
  unfolding last_high
  high_here zero h e p = absurd (omega arith)
  high_here (suc i) h e p = rw e at p

  pub high-below : (i : ℕ) → 0 < i → lt (get_or seg i nan) limit ≡ true → last_high limit seg i ≡ w → last_high limit seg (i - 1) ≡ w
  unfolding last_high
  high-below zero h e p = absurd (omega arith)
  high-below (suc i) h e p = let z : suc i - 1 ≡ i = omega arith in rw z (rw e at p)

  pub high_none : (i : ℕ) → i ≡ 0 → last_high limit seg i ≡ w → i ≡ w
  unfolding last_high
  high_none i e p = e ∙ (rw e at p)
