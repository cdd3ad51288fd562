-- The length of a burst beside a shortest one of whole milliseconds, as find_bursts compares them in binary64: the test is that of the whole numbers. Assumes nothing.
use mathlib.Core.Path.{◌≡◌, refl, sym, ap, ◌∙◌}
use mathlib.Core.Bool.{Bool, true, false}
use Prim.Native.Nat.{ℕ, ◌+◌, ◌-◌, ◌*◌, ◌/◌, ◌^◌, ◌≤◌, ◌<◌}
use native.Mathlib.Nat.{lt_of_lt_of_le, mul_assoc, mul-le-mul_right}
use native.Mathlib.Omega.{arith}
use lib.Dec.{T, leb, lit≤}
use lib.Pow.{shl_lt}
use lib.Ieee.{Float, binary64, round, div, le}
use lib.Ieee.Exact.{HasValue, round_exact}
use lib.Ieee.Order.{round_mono}
use lib.Ieee.Positive as P
use borrow.Author.Tests.{leb-true, leb-false}
use Rattle.floats.specs.Number.{num}
use Rattle.limits.specs.Limits.{lowest_rate, highest_rate}
use Rattle.rates.specs.Numbers.{ms_per_s}
use Rattle.rates.specs.Rates.{long_at}
use Rattle.rates.proofs.Near.{div_at, int_value}
use Rattle.rates.proofs.Values.{holds}

refused : (b : Bool) → (T b → ⊥) → b ≡ false
refused true h = absurd (h tt)
refused false h = refl

-- every fraction of 2^23 is a float: two of them lie between ms / 1000 and each d / rate below it
exact : (a : ℕ) → a < 2 ^ 53 → HasValue (round binary64 false a (2 ^ 23)) false a (2 ^ 23)
exact a A = round_exact binary64 false a (2 ^ 23) a 1051 (omega arith) A (lt_of_lt_of_le (shl_lt 53 1051 A) (lit≤ tt)) (sym (mul_assoc a (2 ^ 1051) (2 ^ 23)))

ten : T (P.positive (round binary64 false 10 1))
unfolding round
ten = tt

module _ (ms : ℕ) (whole : (0 < ms) × (ms ≤ 10000)) (r : ℕ) (lo : lowest_rate ≤ r) (hi : r ≤ highest_rate) (d : ℕ) where
  -- the two fractions
  abbrev upper : ℕ
  upper = ms * 2 ^ 23 / 1000

  abbrev lower : ℕ
  lower = ms * 2 ^ 23 / 1000 - 1

  under : 1000 * d < ms * r → d * 2 ^ 23 ≤ lower * r
  under h =
      let m : ms * 2 ^ 23 * r ≤ (1000 * lower + 2000) * r = mul-le-mul_right r (omega arith) in
      go (ms * r) (lower * r) h (omega arith)
    where
      go : (x y : ℕ) → 1000 * d < x → 2 ^ 23 * x ≤ 1000 * y + 2000 * r → d * 2 ^ 23 ≤ y
      go x y h k = omega arith

  crossed : 1000 * d < ms * r → T (le (round binary64 false ms 1000) (round binary64 false d r)) → ⊥
  crossed h t =
      let x = round binary64 false ms 1000 in
      let y = round binary64 false d r in
      let u = round binary64 false upper (2 ^ 23) in
      let l = round binary64 false lower (2 ^ 23) in
      let ux : T (le u x) = round_mono binary64 upper (2 ^ 23) ms 1000 (omega arith) (omega arith) (omega arith) in
      let yl : T (le y l) = round_mono binary64 d r lower (2 ^ 23) (omega arith) (omega arith) (under h) in
      let pu : T (P.positive u) = P.positive_of_value u upper (2 ^ 23) (exact upper (omega arith)) (omega arith) in
      let pl : T (P.positive l) = P.positive_of_value l lower (2 ^ 23) (exact lower (omega arith)) (omega arith) in
      let px : T (P.positive x) = P.between u x (round binary64 false 10 1) pu ten ux (round_mono binary64 ms 1000 10 1 (omega arith) (omega arith) (omega arith)) in
      let py : T (P.positive y) = P.between x y l px pl t yl in
      let ul : T (le u l) = P.le_trans_positive u x l pu px pl ux (P.le_trans_positive x y l px py pl t yl) in
      let n : upper * 2 ^ 23 ≤ lower * 2 ^ 23 = P.values_of_le u l upper (2 ^ 23) lower (2 ^ 23) pu pl (exact upper (omega arith)) (exact lower (omega arith)) ul in
      omega arith

  -- both quotients are rounded once, and rounding keeps their order
  pub long_at_is : d ≤ 2 ^ 41 → long_at (num ms) r d ≡ leb (ms * r) (1000 * d)
  long_at_is D =
      ap (λ (x : Float). le x (div binary64 (num d) (num r))) (div_at binary64 (num ms) ms_per_s ms 1000 (omega arith) (int_value ms (omega arith)) (int_value 1000 (omega arith)))
      ∙ ap (λ (x : Float). le (round binary64 false ms 1000) x) (div_at binary64 (num d) (num r) d r (omega arith) (int_value d (omega arith)) (int_value r (omega arith)))
      ∙ go (leb (ms * r) (1000 * d)) (leb-true (ms * r) (1000 * d)) (leb-false (ms * r) (1000 * d))
    where
      go : (t : Bool) → (t ≡ true → ms * r ≤ 1000 * d) → (t ≡ false → 1000 * d < ms * r) → le (round binary64 false ms 1000) (round binary64 false d r) ≡ t
      go true p q =
          let h = p refl in
          holds (le (round binary64 false ms 1000) (round binary64 false d r)) (round_mono binary64 ms 1000 d r (omega arith) (omega arith) (omega arith))
      go false p q = refused (le (round binary64 false ms 1000) (round binary64 false d r)) (crossed (q refl))
