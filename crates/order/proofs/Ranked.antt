-- Ranks, counted one element after the other, and the element that they single out, over any element type and any key.
-- Assumes nothing.
use Rattle.std.proofs.Common.{◌≡◌, ℕ, ◌+◌, ◌-◌, ◌<◌, ◌≤◌, Bool, true, false, cond, ltb, leb, List, length, get_or, take, refl, ap, arith, length-take, take_all, ltb-false, ltb-true, leb-false, leb-true}
use Rattle.order.specs.Sorted.{below}
use Rattle.order.specs.Search.{index, Searched}
use Rattle.order.proofs.Rank.{below-le, counted, passed}

module _ {A : Type 0} (key : A → ℕ) (l : List A) where
  pub none_under : (v : ℕ) → 0 ≡ below key v (take 0 l)
  unfolding below
  none_under v = refl

  -- no count is above the elements passed
  pub few_under : (v i : ℕ) → below key v (take i l) ≤ i
  few_under v i = omega (arith, below-le key v (take i l), length-take i l)

  pub all_under : (v i n : ℕ) → length l ≤ i → n ≡ below key v (take i l) → n ≡ below key v l
  all_under v i n h e = rw (take_all i l h) at e

  module _ (i : ℕ) (d : A) (h : i < length l) where
    tallied : (v n : ℕ) (t : Bool) → (t ≡ true → key (get_or l i d) < v) → (t ≡ false → v ≤ key (get_or l i d)) → n ≡ below key v (take i l) → n + cond t 1 0 ≡ below key v (take (i + 1) l)
    tallied v n true p q e = omega (arith, e, counted key v l i d h (p refl))
    tallied v n false p q e = omega (arith, e, passed key v l i d h (q refl))

    -- one more of the elements below v, and of those not above it
    pub under_next : (v n : ℕ) → n ≡ below key v (take i l) → n + cond (ltb (key (get_or l i d)) v) 1 0 ≡ below key v (take (i + 1) l)
    under_next v n e = tallied v n (ltb (key (get_or l i d)) v) (ltb-true (key (get_or l i d)) v) (ltb-false (key (get_or l i d)) v) e

    pub upto_next : (v n : ℕ) → n ≡ below key (v + 1) (take i l) → n + cond (leb (key (get_or l i d)) v) 1 0 ≡ below key (v + 1) (take (i + 1) l)
    upto_next v n e =
        tallied (v + 1) n (leb (key (get_or l i d)) v) (λ t. omega (arith, leb-true (key (get_or l i d)) v t)) (λ t. omega (arith, leb-false (key (get_or l i d)) v t)) e

  -- a place with at most k elements below it and more than k not above it
  pub alone : (size v k under upto : ℕ) → v < size → under ≡ below key v l → upto ≡ below key (v + 1) l → under ≤ k → k < upto
      → Searched key l size (record { lo = v; span = 0; rank = k - under }) × (index key l (record { lo = v; span = 0; rank = k - under }) ≡ k)
  alone size v k under upto f a b p q = (record { fits = omega arith; held = omega (arith, a, b, ap (λ (n : ℕ). below key n l) end) }, omega (arith, a))
    where
      end : v + 0 + 1 ≡ v + 1
      end = omega arith
