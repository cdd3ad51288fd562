-- A range of offsets, and the shift that leaves few of them.
-- Assumes nothing.
use Rattle.std.proofs.Common.{◌≡◌, ℕ, ◌+◌, ◌-◌, ◌*◌, ◌%◌, ◌^◌, ◌<◌, ◌≤◌, ◌∙◌, ⊎_elim, mod-eq_of_lt, arith, pow_pos, pow_mono, pow-add, ap}
use lib.Pow.{pow-lt}
use Rattle.order.specs.Search.{bins}
use Rattle.order.proofs.Rank.{less_or_not}

module _ (span s : ℕ) where
  pub shift-lt : (m : ℕ) → 2 ^ s ≤ span → span < 2 ^ m → s < m
  shift-lt m a b = ⊎_elim (λ h. h) (λ h. absurd (omega (arith, pow_mono {i = m} {j = s} h))) (less_or_not s m)

-- of the s + 1 digits of a number the first 11 are kept
pub shift-fits : (span s : ℕ) → 2 ^ s ≤ span → span < 2 * 2 ^ s → (span < bins * 2 ^ (s + 1 - 11)) × (2 ^ (s + 1 - 11) ≤ span)
shift-fits span s a b = ⊎_elim few many (less_or_not s 10)
  where
    few : s < 10 → (span < bins * 2 ^ (s + 1 - 11)) × (2 ^ (s + 1 - 11) ≤ span)
    few h =
        let none : s + 1 - 11 ≡ 0 = omega arith in
        rw none (omega (arith, pow_mono {i = s} {j = 10} (omega arith)), omega (arith, pow_pos s))

    many : 10 ≤ s → (span < bins * 2 ^ (s + 1 - 11)) × (2 ^ (s + 1 - 11) ≤ span)
    many h =
        let split : 2 ^ s ≡ 2 ^ (s + 1 - 11) * 2 ^ 10 = ap (λ (n : ℕ). 2 ^ n) (omega arith) ∙ pow-add 2 (s + 1 - 11) 10 in
        (omega (arith, split), omega (arith, split))

-- a shift to the left that loses nothing
pub shl_kept : (x s m : ℕ) → x * 2 ^ s < m → (x * 2 ^ s) % m ≡ x * 2 ^ s
shl_kept x s m h = mod-eq_of_lt h

pub one_kept : (s m : ℕ) → s < m → (1 * 2 ^ s) % 2 ^ m ≡ 2 ^ s
one_kept s m h = mod-eq_of_lt {n = 1 * 2 ^ s} {m = 2 ^ m} (omega (arith, pow-lt {i = s} {j = m} h)) ∙ omega arith

-- a number of at most 64 bits
pub within_64 : (w n : ℕ) → w ≤ 64 → n < 2 ^ w → n < 2 ^ 64
within_64 w n h k = omega (arith, k, pow_mono {i = w} {j = 64} h)
