-- Sums and tests over the numbers below n; what a plan takes, step by step. Assumes nothing.
use mathlib.Core.Path.{◌≡◌, refl, sym, ap, ◌∙◌}
use mathlib.Core.Bool.{Bool, true, false, cond, ◌&&◌}
use mathlib.Core.Logic.{⊎_elim}
use Prim.Native.Nat.{ℕ, zero, suc, ◌+◌, ◌-◌, ◌*◌, ◌≤◌, ◌<◌, min}
use native.Mathlib.Numerals.{add-one}
use native.Mathlib.Nat.{eq-or-lt_of_le, mul-le-mul, suc-mul}
use native.Mathlib.Omega.{arith}
use borrow.Author.Tests.{le-leb, leb-true, ltb-true, lt-ltb, le-ltb, eq-eqb, ne_eqb, eqb-true, eqb-false}
use lib.Dec.{leb, ltb, eqb}
use Rattle.limits.proofs.Samples.{and_left, and_right}
use Rattle.subscription.specs.declared.Plan.{Plan}
use Rattle.subscription.specs.Charges.{sum_to, all_to, most_steps, dearest, upper_of, price_of, uppers_read, step_of, day_cost, plan_ok}
use Rattle.subscription.specs.Counting.{reached}

-- ---- over the numbers below n

pub sum_more : (f : ℕ → ℕ) (n s v : ℕ) → s ≡ sum_to f n → v ≡ f n → s + v ≡ sum_to f (n + 1)
unfolding sum_to
sum_more f n s v e g = cc (e, g) ∙ ap (sum_to f) (sym (add-one n))

pub all_more : (p : ℕ → Bool) (n : ℕ) (a b : Bool) → a ≡ all_to p n → b ≡ p n → (a && b) ≡ all_to p (n + 1)
unfolding all_to
all_more p n a b e g = cc (e, g) ∙ ap (all_to p) (sym (add-one n))

all_at : (p : ℕ → Bool) (n : ℕ) → all_to p n ≡ true → (j : ℕ) → j < n → p j ≡ true
unfolding all_to
all_at p zero e j h = absurd (omega arith)
all_at p (suc n) e j h =
    ⊎_elim (λ q. ap p q ∙ and_right (all_to p n) (p n) e) (λ l. all_at p n (and_left (all_to p n) (p n) e) j l) (eq-or-lt_of_le {n = j} {m = n} (omega arith))

pub sum-le : (f : ℕ → ℕ) (b n : ℕ) → ((i : ℕ) → i < n → f i ≤ b) → sum_to f n ≤ n * b
unfolding sum_to
sum-le f b zero h = omega arith
sum-le f b (suc n) h = omega (arith, sum-le f b n (λ i l. h i (omega arith)), h n (omega arith), suc-mul n b)

-- numbers that are alike
sum_level : (f : ℕ → ℕ) (v a p : ℕ) → ((i : ℕ) → a ≤ i → i < a + p → f i ≡ v) → sum_to f a + p * v ≡ sum_to f (a + p)
unfolding sum_to
sum_level f v a zero h = none (sum_to f a) v ∙ ap (sum_to f) (more a)
  where
    none : (s v : ℕ) → s + 0 * v ≡ s
    none s v = omega arith

    more : (a : ℕ) → a ≡ a + 0
    more a = omega arith
sum_level f v a (suc p) h =
    let e = sum_level f v a p (λ i l m. h i l (omega arith)) in
    let g = h (a + p) (omega arith) (omega arith) in
    omega (arith, e, g, suc-mul p v) ∙ ap (sum_to f) (last a p)
  where
    last : (a p : ℕ) → suc (a + p) ≡ a + suc p
    last a p = omega arith

-- ones in front, then none
sum_ones : (f : ℕ → ℕ) (j m : ℕ) → j ≤ m → ((i : ℕ) → i < j → f i ≡ 1) → ((i : ℕ) → j ≤ i → i < m → f i ≡ 0) → sum_to f m ≡ j
unfolding sum_to
sum_ones f j zero h a b = omega arith
sum_ones f j (suc m) h a b =
    ⊎_elim
    (λ q. omega (arith, q, a m (omega (arith, q)), sum_ones f m m (omega arith) (λ i l. a i (omega (arith, q))) (λ i l k. absurd (omega arith))))
    (λ l. omega (arith, b m (omega arith) (omega arith), sum_ones f j m (omega arith) a (λ i u k. b i u (omega arith))))
    (eq-or-lt_of_le {n = j} {m = suc m} h)

-- ---- a plan that is accepted

pub record Sound (plan : Plan) : Type 0 where
  pub some : 1 ≤ plan.count
  pub few : plan.count ≤ most_steps
  pub fee_cheap : plan.fee ≤ dearest
  pub cheap : (j : ℕ) → j < plan.count → price_of plan j ≤ dearest
  pub rises : (j : ℕ) → suc (suc j) < plan.count → upper_of plan j < upper_of plan (suc j)

pub sound : (plan : Plan) → plan_ok plan ≡ true → Sound plan
unfolding plan_ok
sound plan e =
    let n = plan.count in
    let low : ℕ → Bool = λ j. leb (price_of plan j) dearest in
    let up : ℕ → Bool = λ j. ltb (upper_of plan j) (upper_of plan (suc j)) in
    let front = leb 1 n && leb n most_steps in
    let lists = all_to low n && all_to up (uppers_read plan - 1) in
    let back = leb plan.fee dearest && lists in
    let f : front ≡ true = and_left front back e in
    let b : back ≡ true = and_right front back e in
    let l : lists ≡ true = and_right (leb plan.fee dearest) lists b in
    record {
      some = leb-true 1 n (and_left (leb 1 n) (leb n most_steps) f);
      few = leb-true n most_steps (and_right (leb 1 n) (leb n most_steps) f);
      fee_cheap = leb-true plan.fee dearest (and_left (leb plan.fee dearest) lists b);
      cheap = λ j h. leb-true (price_of plan j) dearest (all_at low n (and_left (all_to low n) (all_to up (uppers_read plan - 1)) l) j h);
      rises = λ j h.
          ltb-true (upper_of plan j) (upper_of plan (suc j)) (all_at up (uppers_read plan - 1) (and_right (all_to low n) (all_to up (uppers_read plan - 1)) l) j (omega arith));
    }

-- what the tests say of a plan with steps of which there are not too many
pub plan_is : (plan : Plan) (low rises : Bool) (n : ℕ) → 1 ≤ plan.count → plan.count ≤ most_steps → low ≡ all_to (λ j. leb (price_of plan j) dearest) plan.count
    → n ≡ uppers_read plan - 1 → rises ≡ all_to (λ j. ltb (upper_of plan j) (upper_of plan (suc j))) n → leb plan.fee dearest && (low && rises) ≡ plan_ok plan
unfolding plan_ok
plan_is plan low rises n a b e f g = rw (le-leb 1 plan.count a, le-leb plan.count most_steps b, e, g, f) refl

-- the price of a day's extra message, from 0 on
abbrev pub extra_price : Plan → ℕ → ℕ
extra_price plan i = price_of plan (step_of plan (suc i))

module _ (plan : Plan) (ok : Sound plan) where
  -- upper counts rise, also of steps that are not neighbours
  climbs : (i j : ℕ) → i ≤ j → suc j < plan.count → upper_of plan i ≤ upper_of plan j
  climbs i zero h b = ⊎_elim (λ q. omega (arith, ap (upper_of plan) q)) (λ l. absurd (omega arith)) (eq-or-lt_of_le {n = i} {m = zero} h)
  climbs i (suc j) h b =
      ⊎_elim (λ q. omega (arith, ap (upper_of plan) q)) (λ l. omega (arith, climbs i j (omega arith) (omega arith), ok.rises j b)) (eq-or-lt_of_le {n = i} {m = suc j} h)

  -- ---- the price of an extra message

  at_most_lem : (u : ℕ → Bool) (n : ℕ) → sum_to (λ j. cond (u j) 1 0) n ≤ n * 1
  at_most_lem u n = sum-le (λ j. cond (u j) 1 0) 1 n (λ i h. one (u i))
    where
      one : (t : Bool) → cond t 1 0 ≤ 1
      one true = omega arith
      one false = omega arith

  step_under : (n : ℕ) → step_of plan n < plan.count
  unfolding step_of
  step_under n = omega (arith, at_most_lem (λ j. ltb (upper_of plan j) n) (uppers_read plan), ok.some)

  pub extras_le : (x : ℕ) → sum_to (extra_price plan) x ≤ x * dearest
  extras_le x = sum-le (extra_price plan) dearest x (λ i h. ok.cheap (step_of plan (suc i)) (step_under (suc i)))

  step_is : (n j : ℕ) → j < plan.count → ((i : ℕ) → i < j → upper_of plan i < n) → ((i : ℕ) → j ≤ i → suc i < plan.count → n ≤ upper_of plan i) → step_of plan n ≡ j
  unfolding step_of
  step_is n j h a b =
      sum_ones (λ i. cond (ltb (upper_of plan i) n) 1 0) j (uppers_read plan) (omega arith)
      (λ i l. ap (λ (t : Bool). cond t 1 0) (lt-ltb (upper_of plan i) n (a i l)))
      (λ i u l. ap (λ (t : Bool). cond t 1 0) (le-ltb (upper_of plan i) n (b i u (omega arith))))

  -- ---- how many of x extra messages the first j steps take

  module _ (x : ℕ) where
    reached-le : (j : ℕ) → reached plan x j ≤ x
    reached-le zero = omega arith
    reached-le (suc j) = go (eqb (suc j) plan.count)
      where
        go : (t : Bool) → cond t x (min x (upper_of plan j)) ≤ x
        go true = omega arith
        go false = omega arith

    -- where the last step is not among them
    reached-to : (j : ℕ) → suc j < plan.count → reached plan x (suc j) ≡ min x (upper_of plan j)
    reached-to j h = ap (λ (t : Bool). cond t x (min x (upper_of plan j))) (ne_eqb (suc j) plan.count (λ q. omega arith))

    pub reached-all : reached plan x plan.count ≡ x
    reached-all = go plan.count refl ok.some
      where
        go : (n : ℕ) → n ≡ plan.count → 1 ≤ n → reached plan x n ≡ x
        go zero e h = absurd (omega arith)
        go (suc j) e h = ap (λ (t : Bool). cond t x (min x (upper_of plan j))) (eq-eqb (suc j) plan.count e)

    pub reached_more : (j : ℕ) → j < plan.count → reached plan x j ≤ reached plan x (suc j)
    reached_more zero h = omega arith
    reached_more (suc j) h = go (eqb (suc (suc j)) plan.count) refl
      where
        go : (t : Bool) → eqb (suc (suc j)) plan.count ≡ t → reached plan x (suc j) ≤ cond t x (min x (upper_of plan (suc j)))
        go true e = reached-le (suc j)
        go false e =
            let less : suc (suc j) < plan.count = ⊎_elim (λ q. absurd (eqb-false (suc (suc j)) plan.count e q)) (λ l. l) (eq-or-lt_of_le {n = suc (suc j)} {m = plan.count} (omega arith)) in
            omega (arith, reached-to j h, ok.rises j less)

    -- those that step j takes cost its price
    takes : (j i : ℕ) → j < plan.count → reached plan x j ≤ i → i < reached plan x (suc j) → extra_price plan i ≡ price_of plan j
    takes j i h a b = ap (price_of plan) (step_is (suc i) j h (low j h a) (high (eqb (suc j) plan.count) refl))
      where
        under : i < x
        under = omega (arith, reached-le (suc j), b)

        low : (j : ℕ) → j < plan.count → reached plan x j ≤ i → (k : ℕ) → k < j → upper_of plan k < suc i
        low zero h a k l = absurd (omega arith)
        low (suc j) h a k l = omega (arith, climbs k j (omega arith) h, reached-to j h, a, under)

        high : (t : Bool) → eqb (suc j) plan.count ≡ t → (k : ℕ) → j ≤ k → suc k < plan.count → suc i ≤ upper_of plan k
        high true e k u l = absurd (omega (arith, eqb-true (suc j) plan.count e))
        high false e k u l =
            omega (arith, climbs j k u l, reached-to j (omega arith), b)

    -- a step more
    pub step-more : (j passed end cost s : ℕ) → j < plan.count → passed ≡ reached plan x j → end ≡ reached plan x (suc j) → cost ≡ (end - passed) * price_of plan j
        → s ≡ sum_to (extra_price plan) passed → s + cost ≡ sum_to (extra_price plan) end
    step-more j passed end cost s h p q c e =
        let up : passed + (end - passed) ≡ end = omega (arith, reached_more j h, p, q) in
        cc (e, c)
        ∙ sum_level (extra_price plan) (price_of plan j) passed (end - passed) (λ i l m. takes j i h (omega (arith, l, p)) (omega (arith, m, up, q)))
        ∙ ap (sum_to (extra_price plan)) up

    pub reached-few : (j : ℕ) → sum_to (extra_price plan) (reached plan x j) ≤ x * dearest
    reached-few j = omega (arith, extras_le (reached plan x j), reached-le j)

  pub day_all : (n x s j passed : ℕ) → x ≡ n - plan.allowance → j ≡ plan.count → passed ≡ reached plan x j → s ≡ sum_to (extra_price plan) passed → s ≡ day_cost plan n
  unfolding day_cost
  day_all n x s j passed e f p q = q ∙ ap (sum_to (extra_price plan)) (p ∙ ap (reached plan x) f ∙ reached-all x ∙ e)

-- a whole product of two 32-bit numbers
pub product : (a b : ℕ) → a < 4294967296 → b < 4294967296 → a * b < 18446744073709551616
product a b h k =
    let q : a * b ≤ 4294967295 * 4294967295 = mul-le-mul {n₁ = a} {m₁ = b} {n₂ = 4294967295} {m₂ = 4294967295} (omega arith) (omega arith) in
    omega arith
