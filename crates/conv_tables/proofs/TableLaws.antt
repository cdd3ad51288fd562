-- The entry at the place of a rank, state and byte has that rule's value. Assumes nothing.
use mathlib.Core.Path.{◌≡◌, ap, ap₂, ◌∙◌}
use Prim.Native.Nat.{ℕ, zero, suc, ◌+◌, ◌/◌, ◌%◌, ◌≤◌, ◌<◌}
use native.Mathlib.Omega.{arith}
use lib.ListN.{get_or}
use Rattle.conv_tables.specs.Tables.{decoded_byte, next_state, entries, place, at_place, tabulated, decoded_table, next_table}

from : (f : ℕ → ℕ) (i n k : ℕ) → k < n → get_or (tabulated f i n) k 0 ≡ f (i + k)
unfolding tabulated
from f i zero k h = absurd (omega arith)
from f i (suc n) zero h = ap f (let e : i ≡ i + zero = omega arith in e)
from f i (suc n) (suc k) h = from f (suc i) n k (omega arith) ∙ ap f (let e : suc i + k ≡ i + suc k = omega arith in e)

module _ (f : ℕ → ℕ → ℕ → ℕ) (rank n b : ℕ) (h : 1 ≤ rank) (r : rank ≤ 2) (k : n < 4) (l : b < 256) where
  entry : get_or (tabulated (at_place f) 0 entries) (place rank n b) 0 ≡ f rank n b
  entry =
      let p = place rank n b in
      from (at_place f) 0 entries p (omega arith) ∙ ap (at_place f) (let e : 0 + p ≡ p = omega arith in e)
      ∙ ap₂ (λ (r s : ℕ). f r s (p % 256)) (let e : p / 1024 + 1 ≡ rank = omega arith in e) (let e : p / 256 % 4 ≡ n = omega arith in e)
      ∙ ap (f rank n) (let e : p % 256 ≡ b = omega arith in e)

module _ (rank n b : ℕ) (h : 1 ≤ rank) (r : rank ≤ 2) (k : n < 4) (l : b < 256) where
  pub decoded-entry : get_or decoded_table (place rank n b) 0 ≡ decoded_byte rank n b
  unfolding decoded_table
  decoded-entry = entry decoded_byte rank n b h r k l

  pub next-entry : get_or next_table (place rank n b) 0 ≡ next_state rank n b
  unfolding next_table
  next-entry = entry next_state rank n b h r k l
