-- The least and the greatest offset of the elements in a range, over any element type and any key.
-- Assumes nothing.
use Rattle.std.proofs.Common.{◌≡◌, ℕ, ◌+◌, ◌-◌, ◌%◌, ◌<◌, ◌≤◌, ◌⊎◌, Bool, true, false, ltb, ltb-true, ltb-false, List, length, get_or, take, refl, sym, ap, inl, inr, ⊎_elim, mod-eq_of_lt, arith, take_all}
use native.Mathlib.Nat.{mod-eq-sub-mod}
use Rattle.order.specs.declared.Range.{Range}
use Rattle.order.specs.Sorted.{below}
use Rattle.order.specs.Search.{Searched, Kept}
use Rattle.order.proofs.Rank.{less_or_not, below_mono, below_less, counted, passed}

-- an offset that was taken modulo m: the number lies that far above lo, or below lo and the offset is past every range
pub wrapped : (m lo t v : ℕ) → t < m → lo < m → (t + lo) % m ≡ v → (v ≡ lo + t) ⊎ ((v < lo) × (m ≤ lo + t))
wrapped m lo t v a b e =
    ⊎_elim
    (λ h. inl (omega (arith, mod-eq_of_lt {n = t + lo} {m = m} h)))
    (λ h. inr (omega (arith, mod-eq-sub-mod {n = t + lo} {m = m} h, mod-eq_of_lt {n = t + lo - m} {m = m} (omega arith)), omega arith))
    (less_or_not (t + lo) m)

-- the elements passed, the first i, have no number in the range below its least offset so far or above its greatest
abbrev pub Passed : {A : Type 0} → (A → ℕ) → List A → ℕ → ℕ → ℕ → ℕ → ℕ → Type 0
Passed key l lo span least most i =
    (i ≤ length l)
    × (least ≤ span)
    × (most ≤ span)
    × (below key lo (take i l) ≡ below key (lo + least) (take i l))
    × (below key (lo + most + 1) (take i l) ≡ below key (lo + span + 1) (take i l))

-- what the code keeps of the least and of the greatest offset, at an offset t
pub kept_least : (t least more : ℕ) (b : Bool) → b ≡ ltb t least → (b ≡ true → more ≡ t) → (b ≡ false → more ≡ least) → (more ≤ least) × (more ≤ t)
kept_least t least more true e p q = let h = ltb-true t least (sym e) in (omega (arith, p refl, h), omega (arith, p refl))
kept_least t least more false e p q = let h = ltb-false t least (sym e) in (omega (arith, q refl), omega (arith, q refl, h))

pub kept_most : (t span most wide inside : ℕ) (b d : Bool) → b ≡ ltb span t → (b ≡ true → inside ≡ 0) → (b ≡ false → inside ≡ t)
    → d ≡ ltb most inside → (d ≡ true → wide ≡ inside) → (d ≡ false → wide ≡ most) → most ≤ span
    → (most ≤ wide) × (wide ≤ span) × (t ≤ span → t ≤ wide)
kept_most t span most wide inside true d e p q f r s h = go d f r s
  where
    go : (d : Bool) → d ≡ ltb most inside → (d ≡ true → wide ≡ inside) → (d ≡ false → wide ≡ most) → (most ≤ wide) × (wide ≤ span) × (t ≤ span → t ≤ wide)
    go true f r s = absurd (omega (arith, ltb-true most inside (sym f), p refl))
    go false f r s = (omega (arith, s refl), omega (arith, s refl), λ k. absurd (omega (arith, ltb-true span t (sym e))))
kept_most t span most wide inside false d e p q f r s h = go d f r s
  where
    near : inside ≤ span
    near = omega (arith, q refl, ltb-false span t (sym e))

    go : (d : Bool) → d ≡ ltb most inside → (d ≡ true → wide ≡ inside) → (d ≡ false → wide ≡ most) → (most ≤ wide) × (wide ≤ span) × (t ≤ span → t ≤ wide)
    go true f r s = let m = ltb-true most inside (sym f) in (omega (arith, r refl, m), omega (arith, r refl, near), λ k. omega (arith, r refl, q refl))
    go false f r s = let m = ltb-false most inside (sym f) in (omega (arith, s refl), omega (arith, s refl), λ k. omega (arith, s refl, q refl, m))

pub none_passed : {A : Type 0} (key : A → ℕ) (l : List A) (lo span : ℕ) → Passed key l lo span span 0 0
unfolding below
none_passed key l lo span = (omega arith, omega arith, omega arith, refl, refl)

module _ {A : Type 0} (key : A → ℕ) (l : List A) (i : ℕ) (z : A) (h : i < length l) where
  -- none of the elements passed lies from a up to b
  pub gap : (a c d b : ℕ) → a ≤ c → c ≤ d → d ≤ b → (key (get_or l i z) < c) ⊎ (d ≤ key (get_or l i z)) → below key a (take i l) ≡ below key b (take i l)
      → below key c (take (i + 1) l) ≡ below key d (take (i + 1) l)
  gap a c d b p q r out e =
      ⊎_elim
      (λ w. omega (arith, counted key c l i z h w, counted key d l i z h (omega arith), same))
      (λ w. omega (arith, passed key c l i z h (omega arith), passed key d l i z h w, same))
      out
    where
      same : below key c (take i l) ≡ below key d (take i l)
      same = omega (arith, below_mono key a c (take i l) p, below_mono key c d (take i l) q, below_mono key d b (take i l) r)

  -- an element at an offset t, which was taken modulo m
  module _ (m lo span t : ℕ) (small : t < m) (fits : lo + span < m) (e : (t + lo) % m ≡ key (get_or l i z)) where
    pub pass : (least more most wide : ℕ) → Passed key l lo span least most i → (more ≤ least) × (more ≤ t)
        → (most ≤ wide) × (wide ≤ span) × (t ≤ span → t ≤ wide) → Passed key l lo span more wide (i + 1)
    pass least more most wide q a b = (
      omega arith,
      omega arith,
      b.1,
      gap lo lo (lo + more) (lo + least) (omega arith) (omega arith) (omega arith) under q.3,
      gap (lo + most + 1) (lo + wide + 1) (lo + span + 1) (lo + span + 1) (omega arith) (omega arith) (omega arith) over q.4,
    )
      where
        under : (key (get_or l i z) < lo) ⊎ (lo + more ≤ key (get_or l i z))
        under = ⊎_elim (λ x. inr (omega arith)) (λ y. inl y.0) (wrapped m lo t (key (get_or l i z)) small (omega arith) e)

        over : (key (get_or l i z) < lo + wide + 1) ⊎ (lo + span + 1 ≤ key (get_or l i z))
        over =
            ⊎_elim
            (λ x. ⊎_elim (λ n. inr (omega arith)) (λ n. inl (omega (arith, b.2 n))) (less_or_not span t))
            (λ y. inl (omega arith))
            (wrapped m lo t (key (get_or l i z)) small (omega arith) e)

-- where all elements are passed, the element sought lies between the two offsets
module _ {A : Type 0} (key : A → ℕ) (l : List A) (r : Range) {size : ℕ} (old : Searched key l size r) (least most i : ℕ)
    (q : Passed key l r.lo r.span least most i) (all : length l ≤ i) where
  low : below key r.lo l ≡ below key (r.lo + least) l
  low = rw (take_all i l all) at q.3

  high : below key (r.lo + most + 1) l ≡ below key (r.lo + r.span + 1) l
  high = rw (take_all i l all) at q.4

  pub ordered : least ≤ most
  ordered = omega (arith, low, high, below_less key (r.lo + least) (r.lo + most + 1) l (omega (arith, low, high, old.held)))

  pub tight : Kept key l size r (record { lo = r.lo + least; span = most - least; rank = r.rank })
  tight =
      record {
        searched = record { fits = omega (arith, old.fits, ordered); held = omega (arith, old.held, low, high, ends) };
        same = omega (arith, low);
      }
    where
      ends : below key (r.lo + least + (most - least) + 1) l ≡ below key (r.lo + most + 1) l
      ends = ap (λ (v : ℕ). below key v l) (omega (arith, ordered))
