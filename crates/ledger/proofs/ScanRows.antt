-- The bursts of a scan lie in a row; and the ledger's whole numbers are the Rust's binary64 expressions, for every accepted rate.
use mathlib.Core.Path.{◌≡◌, sym, ◌∙◌}
use mathlib.Core.List.{List, [], ◌∷◌}
use Prim.Native.Nat.{ℕ, ◌+◌, ◌-◌, ◌*◌, ◌^◌, ◌≤◌}
use native.Mathlib.Omega.{arith}
use lib.ListN.{length}
use lib.Dec.{leb}
use lib.Ieee.{Float}
use borrow.Author.Tests.{leb-true}
use Rattle.limits.specs.Limits.{lowest_rate, highest_rate}
use Rattle.rates.specs.Rates.{gap_of, tail_of, too_near, scan_due, buffer_of}
use Rattle.rates.proofs.Rates as rates
use Rattle.rates.proofs.Lengths.{long_at_is}
use Rattle.bursts.specs.declared.Burst.{Burst}
use Rattle.bursts.specs.Levels.{noise_floor}
use Rattle.bursts.specs.Bursts.{gap_samples}
use Rattle.bursts.proofs.Rows.{InRow, next, bursts_in_row}
use Rattle.ledger.specs.Scanning.{scan_min_ms, scan_options, held_bursts}
use Rattle.ledger.specs.Ledger.{capacity, tail, dist, close}
use Rattle.ledger.specs.Room.{gap, Row}

module _ (rate : ℕ) (lo : lowest_rate ≤ rate) (hi : rate ≤ highest_rate) where
  gap_is : gap_samples scan_options rate ≡ gap rate
  unfolding gap_of
  gap_is = rates.gap_is rate lo hi

  module _ (held : List Float) (small : length held ≤ capacity rate) where
    in_row : (i : ℕ) (bs : List Burst) → InRow held rate scan_options (noise_floor held) i bs → Row rate (length held) i bs
    in_row i [] w = tt
    in_row i (b ∷ bs) (next p q r l e w) =
        let d = b.end - 1 - b.start in
        let h = leb-true (scan_min_ms * rate) (1000 * d) (sym (long_at_is scan_min_ms (omega arith) rate lo hi d (omega arith)) ∙ l) in
        (p, omega arith, r, rw gap_is at (in_row (b.end + gap_samples scan_options rate + 1) bs w))

    pub scan-row : Row rate (length held) 0 (held_bursts rate held)
    scan-row = in_row 0 (held_bursts rate held) (bursts_in_row held rate scan_options (noise_floor held))

  -- ---- the Rust's expressions

  pub capacity_is : buffer_of rate ≡ capacity rate
  capacity_is = rates.buffer_is rate lo hi

  pub tail_is : tail_of rate ≡ tail rate
  tail_is = rates.tail_is rate lo hi

  pub close_is : (a b : ℕ) → dist a b ≤ 2 ^ 41 → too_near rate (dist a b) ≡ close rate a b
  close_is a b h = rates.too_near_is rate lo hi (dist a b) h

  pub due_is : (u : ℕ) → u ≤ 2 ^ 41 → scan_due rate u ≡ leb rate (2 * u)
  due_is u h = rates.scan-due_is rate lo hi u h
