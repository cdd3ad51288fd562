-- At most 35 bursts lie in 12 s of samples, at a least length of 300 ms or more and the gap of 40 ms: each takes 0.3 s and the gap. Assumes nothing.
use Rattle.std.proofs.Common.{◌≡◌, ℕ, ◌+◌, ◌-◌, ◌*◌, ◌/◌, ◌^◌, ◌≤◌, Bool, true, false, leb, List, length, sym, refl, ◌∙◌, le_trans, mul-le-mul_right, suc-mul, mul-le-mul_left, arith, lit≤, leb-false, leb-true}
use lib.Ieee.{Float}
use Rattle.limits.specs.Limits.{lowest_rate, highest_rate, buffer_s}
use Rattle.floats.specs.Number.{num}
use Rattle.rates.specs.Numbers.{gap_ms}
use Rattle.rates.specs.Rates.{gap_of, long_at}
use Rattle.rates.proofs.Rates.{gap_is}
use Rattle.rates.proofs.Lengths.{long_at_is}
use Rattle.bursts.specs.Numbers.{most_bursts}
use Rattle.bursts.specs.Bursts.{gap_samples, bursts_of}
use Rattle.bursts.specs.declared.BurstOptions.{BurstOptions}
use Rattle.bursts.specs.declared.Burst.{Burst}
use Rattle.bursts.proofs.Rows.{InRow, bursts_in_row}

module _ (dbm : List Float) (rate : ℕ) (o : BurstOptions) (floor : Float) (fits : length dbm ≤ buffer_s * rate)
    (long : (d : ℕ) → d ≤ buffer_s * rate → long_at o.min_ms rate d ≡ true → 3 * rate ≤ 10 * d)
    (low : 4 * rate ≤ 100 * gap_samples o rate + 50) (high : 100 * gap_samples o rate ≤ 4 * rate + 50) where
  taken : {i : ℕ} {bs : List Burst} → InRow dbm rate o floor i bs → i ≤ length dbm + gap_samples o rate + 1
      → length bs * (34 * rate + 150) + 100 * i ≤ 100 * (length dbm + gap_samples o rate + 1)
  taken InRow.done h = omega arith
  taken (InRow.next {i = i} {b = b} {bs = bs} u v r l e w) h =
      let n = taken w (omega arith) in
      let d = long (b.end - 1 - b.start) (omega arith) l in
      let m = suc-mul (length bs) (34 * rate + 150) in
      omega (arith, m, n, d)

  -- no 36 fit
  few : length (bursts_of dbm rate o floor) ≤ most_bursts
  few = go (length (bursts_of dbm rate o floor)) (taken (bursts_in_row dbm rate o floor) (omega arith)) (leb (length (bursts_of dbm rate o floor)) most_bursts) refl
    where
      go : (k : ℕ) → k * (34 * rate + 150) + 100 * 0 ≤ 100 * (length dbm + gap_samples o rate + 1) → (b : Bool) → leb k most_bursts ≡ b → k ≤ most_bursts
      go k n true e = leb-true k most_bursts e
      go k n false e =
          let m = mul-le-mul_right (34 * rate + 150) (leb-false k most_bursts e) in
          omega (arith, m)

-- where the least length is 300 ms or more, a burst spans 0.3 s
long_is : (ms : ℕ) → (300 ≤ ms) × (ms ≤ 10000) → (rate : ℕ) → lowest_rate ≤ rate → rate ≤ highest_rate
    → (d : ℕ) → d ≤ buffer_s * rate → long_at (num ms) rate d ≡ true → 3 * rate ≤ 10 * d
long_is ms h rate lo hi d b l =
    let c : d ≤ 2 ^ 41 = le_trans b (le_trans (mul-le-mul_left buffer_s hi) (lit≤ tt)) in
    let e : ms * rate ≤ 1000 * d = leb-true (ms * rate) (1000 * d) (sym (long_at_is ms (omega arith) rate lo hi d c) ∙ l) in
    let m : 300 * rate ≤ ms * rate = mul-le-mul_right rate h.0 in
    omega arith

pub bursts-few : (dbm : List Float) (rate : ℕ) (o : BurstOptions) (floor : Float) → lowest_rate ≤ rate → rate ≤ highest_rate → length dbm ≤ buffer_s * rate
    → (ms : ℕ) → (300 ≤ ms) × (ms ≤ 10000) → o.min_ms ≡ num ms → o.gap_ms ≡ gap_ms → length (bursts_of dbm rate o floor) ≤ most_bursts
unfolding gap_of
bursts-few dbm rate o floor lo hi fits ms h m g =
    let e : gap_samples o rate ≡ (2 * rate + 25) / 50 = rw g (gap_is rate lo hi) in
    few dbm rate o floor fits (λ d b l. long_is ms h rate lo hi d b (rw m at l)) (rw e (omega arith)) (rw e (omega arith))
