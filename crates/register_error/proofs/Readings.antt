-- A reading's frequency at the step of 122.0703125 Hz, in 1,024ths of a hertz: within 2 of a whole number that moves with the register. Assumes nothing.
use mathlib.Core.Path.{◌≡◌, refl, sym, ap, ◌∙◌, subst}
use mathlib.Core.Bool.{Bool, true, false, cond}
use mathlib.Core.Logic.{⊎_elim}
use Prim.Native.Nat.{ℕ, zero, suc, ◌+◌, ◌-◌, ◌*◌, ◌/◌, ◌%◌, ◌^◌, ◌≤◌, ◌<◌}
use native.Mathlib.Nat.{le_trans, lt_of_lt_of_le, mul_assoc, mul-one, mul_right_comm, add-mul, mul-le-mul_right, le_of_mul-le-mul_right}
use native.Mathlib.Omega.{arith}
use borrow.Author.Tests.{ltb-true, ltb-false}
use lib.Dec.{T, ltb, lit≤}
use lib.IntN.{ℤ, pos, negsuc, ◌-ℤ◌, sub_ℕ, nat_abs}
use lib.Pow.{shl_lt}
use lib.Ieee.{Float, nan, inf, fin, binary64, up, down, round, add, sub, mul, div, neg, of_int, fits}
use lib.Ieee.Exact.{HasValue, round_exact}
use lib.Ieee.Fits.{add-fits}
use lib.Ieee.Positive as P
use Rattle.floats.specs.Number.{num}
use Rattle.floats.proofs.Floors.{neg_round}
use Rattle.rates.proofs.Near.{int_value, sub_at}
use Rattle.rates.proofs.Opposed.{sub_under}
use Rattle.rates.proofs.Between.{Lies, rounded, whole_lies, plus_lies, minus_lies}
use Rattle.order.specs.Order.{key}
use Rattle.order.proofs.Rank.{less_or_not}
use Rattle.cfo.specs.Cfo.{register, sign, cfo_scale, signed, reading_hz}
use Rattle.register_error.specs.Bound.{step}
use Rattle.register_error.proofs.Negative.{Negative, round_negative}
use Rattle.register_error.proofs.Keys.{signs_first, values-rise}
use Rattle.register_error.proofs.Products.{mul-values, div-values, neg-mul, neg-div}

-- ---- c steps, divided by the scale, in 1,024ths of a hertz: 1024 * 1562500 / 11904 each

abbrev pub spread : ℕ → ℕ
spread c = c * 1600000000 / 11904

step_value : HasValue step false 15625 128
unfolding round
step_value = (refl, refl)

-- 0.93 in binary64
abbrev scale : ℕ
scale = 0x1d_c28f_5c28_f5c3

scale-value : HasValue cfo_scale false scale (2 ^ 53)
unfolding round
scale-value = (refl, refl)

abbrev offset : ℕ → Float
offset c = div binary64 (mul binary64 (num c) step) cfo_scale

module _ (c : ℕ) (small : c ≤ 2048) where
  whole : HasValue (num c) false c 1
  whole = int_value c (omega arith)

  product : mul binary64 (num c) step ≡ round binary64 false (c * 15625) (1 * 128)
  product = mul-values (num c) step c 1 15625 128 (omega arith) (omega arith) whole step_value

  product_value : HasValue (mul binary64 (num c) step) false (c * 15625) 128
  product_value =
      subst (λ (x : Float). HasValue x false (c * 15625) 128) (sym product)
      (round_exact binary64 false (c * 15625) (1 * 128) (c * 15625) 1067 (omega arith) (omega arith) (lt_of_lt_of_le (shl_lt 53 1067 (omega arith)) (lit≤ tt)) (sym (mul_assoc (c * 15625) (2 ^ 1067) 128)))

  offset_lies : Lies (offset c) (spread c - 1) (spread c + 2)
  offset_lies =
      subst (λ (x : Float). Lies x (spread c - 1) (spread c + 2)) (sym (div-values (mul binary64 (num c) step) cfo_scale (c * 15625) 128 scale (2 ^ 53) (omega arith) (omega arith) (omega arith) product_value scale-value))
      (rounded (c * 15625 * 2 ^ 53) (128 * scale) (spread c - 1) (spread c + 2) (omega arith) (omega arith) (omega arith) (omega arith))

-- ---- a float within 2 of n 1,024ths; or below zero, for an n up to 2

pub data At (v : Float) (n : ℕ) : Type 0 where
  above : Lies v (n - 2) (n + 2) → At v n
  under : Negative v → n ≤ 2 → At v n

wider : {v : Float} {l u : ℕ} (k w : ℕ) → Lies v l u → k ≤ l → u ≤ w → Lies v k w
wider {v} k w h L U = record { own = h.own; low = le_trans (mul-le-mul_right (P.den v) L) h.low; high = le_trans h.high (mul-le-mul_right (P.den v) U) }

-- the order by keys is that of the numbers, up to 4
pub at_order : (v w : Float) (n m : ℕ) → T (fits binary64 v) → T (fits binary64 w) → At v n → At w m → key binary64 v ≤ key binary64 w → n ≤ m + 4
at_order v w n m F G (above h) (above k) o =
    let r = values-rise v w (P.num v) (P.den v) (P.num w) (P.den w) F G h.own k.own o in
    let s : (n - 2) * P.den w ≤ P.num w * 1024 = P.through (n - 2) (P.num v) (P.num w) 1024 (P.den v) (P.den w) (P.den_pos v) h.low r in
    let t : n - 2 ≤ m + 2 = le_of_mul-le-mul_right (le_trans s k.high) (P.den_pos w) in
    omega arith
at_order v w n m F G (above h) (under k b) o = absurd (signs_first v w (P.num v) (P.den v) F h.own k o)
at_order v w n m F G (under h a) (above k) o = omega arith
at_order v w n m F G (under h a) (under k b) o = omega arith

-- ---- where a reading lies

-- z steps from lo, in 1,024ths, and nothing below zero
abbrev pub place : ℕ → ℤ → ℕ
place lo (pos c) = 1024 * lo + spread c
place lo (negsuc k) = 1024 * lo - spread (suc k)

pub by_denominator : (x : Float) (n d : ℕ) → HasValue x false n 1 → HasValue x false (n * d) d
by_denominator nan n d h = absurd h
by_denominator (inf s) n d h = absurd h
by_denominator (fin s m e) n d h = (h.0, go (m * up e) n d (down e) h.1)
  where
    go : (x n d g : ℕ) → x * 1 ≡ n * g → x * d ≡ n * d * g
    go x n d g p = ap (λ (z : ℕ). z * d) (sym (mul-one x) ∙ p) ∙ mul_right_comm n g d

module _ (lo c : ℕ) (L : lo < 2 ^ 32) (C : c ≤ 2048) where
  up_at : At (add binary64 (num lo) (offset c)) (1024 * lo + spread c)
  up_at = above (wider (1024 * lo + spread c - 2) (1024 * lo + spread c + 2) (plus_lies (whole_lies lo (omega arith)) (offset_lies c C) (omega arith)) (omega arith) (omega arith))

  -- about zero, or below it
  low_at : 1024 * lo < spread c + 2 → At (sub binary64 (num lo) (offset c)) (1024 * lo - spread c)
  low_at g = ⊎_elim beyond within (less_or_not (lo * d) n)
    where
      d : ℕ
      d = P.den (offset c)

      n : ℕ
      n = P.num (offset c)

      h : Lies (offset c) (spread c - 1) (spread c + 2)
      h = offset_lies c C

      first : HasValue (num lo) false (lo * d) d
      first = by_denominator (num lo) lo d (int_value lo (omega arith))

      beyond : lo * d < n → At (sub binary64 (num lo) (offset c)) (1024 * lo - spread c)
      beyond o = under (subst Negative (sym (sub_under binary64 (num lo) (offset c) (lo * d) n d (P.den_pos (offset c)) o first h.own)) (round_negative binary64 (n - lo * d) d)) (omega arith)

      few : (s lo d n : ℕ) → 1024 * lo < s + 2 → (s - 1) * d ≤ n * 1024 → n ≤ lo * d → (lo * d - n) * 1024 ≤ 2 * d
      few s lo d n g a b =
          let p : 1024 * lo * d ≤ (s - 1 + 2) * d = mul-le-mul_right d (omega arith) in
          let q : 1024 * lo * d ≡ 1024 * (lo * d) = mul_assoc 1024 lo d in
          let r : (s - 1 + 2) * d ≡ (s - 1) * d + 2 * d = add-mul (s - 1) 2 d in
          omega arith

      within : n ≤ lo * d → At (sub binary64 (num lo) (offset c)) (1024 * lo - spread c)
      within o =
          above (wider (1024 * lo - spread c - 2) (1024 * lo - spread c + 2)
          (subst (λ (x : Float). Lies x 0 2) (sym (sub_at binary64 (num lo) (offset c) (lo * d) n d (P.den_pos (offset c)) o first h.own))
          (rounded (lo * d - n) d 0 2 (P.den_pos (offset c)) (omega arith) (omega arith) (few (spread c) lo d n g h.low o)))
          (omega arith) (omega arith))

  down_at : At (sub binary64 (num lo) (offset c)) (1024 * lo - spread c)
  down_at = ⊎_elim low_at far (less_or_not (1024 * lo) (spread c + 2))
    where
      far : spread c + 2 ≤ 1024 * lo → At (sub binary64 (num lo) (offset c)) (1024 * lo - spread c)
      far g = above (wider (1024 * lo - spread c - 2) (1024 * lo - spread c + 2) (minus_lies (whole_lies lo (omega arith)) (offset_lies c C) g (omega arith)) (omega arith) (omega arith))

-- a signed register value
abbrev pub Small : ℤ → Type 0
Small (pos c) = c ≤ 2048
Small (negsuc k) = suc k ≤ 2048

pub signed-small : (v : ℕ) → Small (signed v)
unfolding signed
signed-small v = go (ltb (v % register) sign) (ltb-true (v % register) sign) (ltb-false (v % register) sign)
  where
    go : (t : Bool) → (t ≡ true → v % register < sign) → (t ≡ false → sign ≤ v % register) → Small (cond t (pos (v % register)) (negsuc (register - 1 - v % register)))
    go true f g = let h = f refl in omega arith
    go false f g = let h = g refl in omega arith

turned : (c : ℕ) → c ≤ 2048 → div binary64 (mul binary64 (neg (num c)) step) cfo_scale ≡ neg (offset c)
turned c C =
    ap (λ (x : Float). div binary64 x cfo_scale) (neg-mul (num c) step c 1 15625 128 (omega arith) (omega arith) (whole c C) step_value)
    ∙ neg-div (mul binary64 (num c) step) cfo_scale (c * 15625) 128 scale (2 ^ 53) (omega arith) (omega arith) (omega arith) (product_value c C) scale-value

number_at : (lo : ℕ) (z : ℤ) → lo < 2 ^ 32 → Small z → At (add binary64 (num lo) (div binary64 (mul binary64 (of_int binary64 z) step) cfo_scale)) (place lo z)
unfolding sub of_int
number_at lo (pos c) L C = up_at lo c L C
number_at lo (negsuc k) L C =
    subst (λ (x : Float). At (add binary64 (num lo) x) (1024 * lo - spread (suc k)))
    (sym (ap (λ (x : Float). div binary64 (mul binary64 x step) cfo_scale) (sym (neg_round (suc k) 1)) ∙ turned (suc k) C)) (down_at lo (suc k) L C)

pub reading_at : (lo v : ℕ) → lo < 2 ^ 32 → At (reading_hz lo v step) (place lo (signed v))
unfolding reading_hz
reading_at lo v L = number_at lo (signed v) L (signed-small v)

pub reading-fits : (lo v : ℕ) → T (fits binary64 (reading_hz lo v step))
unfolding reading_hz
reading-fits lo v = add-fits binary64 (num lo) (div binary64 (mul binary64 (of_int binary64 (signed v)) step) cfo_scale)

-- ---- d steps move it by d * 1024 * 1562500 / 11904 and 2

abbrev pub Moved : ℕ → ℕ → ℕ → Type 0
Moved d n m = 11904 * n ≤ 11904 * m + (1600000000 * d + 2 * 11904)

pub apart : (a b d : ℕ) → nat_abs (sub_ℕ a b) ≤ d → (a ≤ b + d) × (b ≤ a + d)
apart a b d = go (ltb a b) (ltb-true a b) (ltb-false a b)
  where
    go : (t : Bool) → (t ≡ true → a < b) → (t ≡ false → b ≤ a) → nat_abs (cond t (negsuc (b - suc a)) (pos (a - b))) ≤ d → (a ≤ b + d) × (b ≤ a + d)
    go true f g h = let x = f refl in omega arith
    go false f g h = let x = g refl in omega arith

pub moved : (lo d : ℕ) (x y : ℤ) → nat_abs (x -ℤ y) ≤ d → Moved d (place lo x) (place lo y) × Moved d (place lo y) (place lo x)
moved lo d (pos a) (pos zero) h = (omega arith, omega arith)
moved lo d (pos a) (pos (suc b)) h = let k = apart a (suc b) d h in (omega arith, omega arith)
moved lo d (pos a) (negsuc b) h = (omega arith, omega arith)
moved lo d (negsuc a) (pos zero) h = let k = apart 0 (suc a) d h in (omega arith, omega arith)
moved lo d (negsuc a) (pos (suc b)) h = (omega arith, omega arith)
moved lo d (negsuc a) (negsuc b) h = let k = apart (suc b) (suc a) d h in (omega arith, omega arith)
