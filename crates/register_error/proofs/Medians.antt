-- The medians of a frame that was read twice: no further apart than corresponding readings. Assumes nothing.
use mathlib.Core.Path.{◌≡◌, refl, sym, ap, ◌∙◌, subst}
use mathlib.Core.Bool.{Bool, true, false, cond}
use mathlib.Core.List.{List, [], ◌∷◌, map}
use mathlib.Core.Logic.{⊎_elim}
use Prim.Native.Nat.{ℕ, zero, suc, ◌+◌, ◌-◌, ◌*◌, ◌/◌, ◌^◌, ◌≤◌, ◌<◌}
use native.Mathlib.Omega.{arith}
use native.Mathlib.Numerals.{add-one}
use borrow.Author.Tests.{ltb-true, ltb-false}
use lib.Dec.{T, ltb}
use lib.IntN.{ℤ, pos, negsuc, ◌-ℤ◌, sub_ℕ, nat_abs}
use lib.ListN.{length, get_or, length-map}
use lib.Ieee.{Float, nan, binary64, top, fits}
use Rattle.order.specs.Order.{key, kth}
use Rattle.order.specs.Sorted.{sorted, below}
use Rattle.order.proofs.Rank.{All, all_at, sorted_all, length-sorted, selected, below_all, below-zero, less_or_not}
use Rattle.order.proofs.Places.{key-lt}
use Rattle.cfo.specs.Cfo.{signed, reading_hz}
use Rattle.frequency_measure.specs.Measured.{median}
use Rattle.register_error.specs.Bound.{RawReading, step, Pairwise, end, next}
use Rattle.register_error.proofs.Readings.{At, at_order, place, Small, signed-small, reading_at, reading-fits, moved, apart}

abbrev K : Float → ℕ
K = key binary64

-- ---- the number of the element at k: at most k elements lie below it, and more than k not above it

ranked : (l : List Float) (k b : ℕ) → k < below K b l → (v : ℕ) × (below K v l ≤ k) × (k < below K (v + 1) l)
ranked l k zero h = absurd (omega (arith, below-zero K l))
ranked l k (suc b) h = ⊎_elim (λ g. ranked l k b g) (λ g. (b, g, subst (λ (n : ℕ). k < below K n l) (sym (add-one b)) h)) (less_or_not k (below K b l))

module _ (l : List Float) (k : ℕ) (h : k < length l) (F : All K (λ x. T (fits binary64 x)) l) where
  all_keys : (l : List Float) → All K (λ x. T (fits binary64 x)) l → All K (λ x. K x < 2 * top binary64) l
  all_keys [] f = tt
  all_keys (x ∷ l) f = (key-lt binary64 x f.0, all_keys l f.1)

  pub rank_of_lem : (below K (K (kth binary64 l k)) l ≤ k) × (k < below K (K (kth binary64 l k) + 1) l)
  unfolding kth
  rank_of_lem =
      let r = ranked l k (2 * top binary64) (subst (λ (n : ℕ). k < n) (sym (below_all K (2 * top binary64) l (all_keys l F))) h) in
      let e : K (get_or (sorted K l) k nan) ≡ r.0 = selected K l k r.0 nan h r.1 r.2 in
      (subst (λ (v : ℕ). below K v l ≤ k) (sym e) r.1, subst (λ (v : ℕ). k < below K (v + 1) l) (sym e) r.2)

-- ---- readings and where they lie

abbrev pub hz : RawReading → Float
hz r = reading_hz r.lo r.value step

-- corresponding readings against lo
pub record Twin (lo d : ℕ) (x y : RawReading) : Type 0 where
  pub here : x.lo ≡ lo
  pub there : y.lo ≡ lo
  pub close : nat_abs (signed x.value -ℤ signed y.value) ≤ d

-- a float that is some number of steps from lo
pub record Placed (lo : ℕ) (v : Float) : Type 0 where
  pub held : T (fits binary64 v)
  pub steps : ℤ
  pub small : Small steps
  pub at : At v (place lo steps)

held_all : (lo : ℕ) (l : List Float) → All K (Placed lo) l → All K (λ x. T (fits binary64 x)) l
held_all lo [] p = tt
held_all lo (x ∷ l) p = (p.0.held, held_all lo l p.1)

module _ {lo d : ℕ} where
  pub same_length : {l m : List RawReading} → Pairwise (Twin lo d) l m → length l ≡ length m
  same_length end = refl
  same_length (next a t) = ap suc (same_length t)

  -- as many lie below, where each of the one that lies below has its fellow below
  fewer : {l m : List RawReading} (p q : ℕ) → ((x y : RawReading) → Twin lo d x y → K (hz y) < q → K (hz x) < p) → Pairwise (Twin lo d) l m → below K q (map hz m) ≤ below K p (map hz l)
  unfolding below
  fewer p q f end = omega arith
  fewer p q f (next {x = x} {y = y} {l = l} {m = m} a t) = go (ltb (K (hz y)) q) (ltb (K (hz x)) p) (ltb-true (K (hz y)) q) (ltb-false (K (hz x)) p) (fewer p q f t)
    where
      go : (s w : Bool) → (s ≡ true → K (hz y) < q) → (w ≡ false → p ≤ K (hz x)) → below K q (map hz m) ≤ below K p (map hz l)
          → cond s 1 0 + below K q (map hz m) ≤ cond w 1 0 + below K p (map hz l)
      go true true g h r = omega arith
      go true false g h r = let u = f x y a (g refl) in let v = h refl in absurd (omega arith)
      go false true g h r = omega arith
      go false false g h r = omega arith

-- ---- the medians

-- the median, and where it lies
module _ (lo : ℕ) (l : List Float) (some : 0 < length l) (p : All K (Placed lo) l) where
  inside : length l / 2 < length l
  inside = go (length l) some
    where
      go : (n : ℕ) → 0 < n → n / 2 < n
      go n h = omega arith

  median-placed : Placed lo (median l)
  unfolding median kth
  median-placed = all_at K (Placed lo) (sorted K l) (length l / 2) nan (sorted_all K (Placed lo) l p) (subst (λ (n : ℕ). length l / 2 < n) (sym (length-sorted K l)) inside)

  median-rank : (below K (K (median l)) l ≤ length l / 2) × (length l / 2 < below K (K (median l) + 1) l)
  unfolding median
  median-rank = rank_of_lem l (length l / 2) inside (held_all lo l p)

module _ {lo : ℕ} (L : lo < 2 ^ 32) where
  abbrev spot : RawReading → ℕ
  spot r = place lo (signed r.value)

  spot_at : (r : RawReading) → r.lo ≡ lo → At (hz r) (spot r)
  spot_at r e = subst (λ (n : ℕ). At (hz r) (place n (signed r.value))) e (reading_at r.lo r.value (subst (λ (n : ℕ). n < 2 ^ 32) (sym e) L))

  placed : (r : RawReading) → r.lo ≡ lo → Placed lo (hz r)
  placed r e = record { held = reading-fits r.lo r.value; steps = signed r.value; small = signed-small r.value; at = spot_at r e }

  module _ {d : ℕ} where
    all_placed : {l m : List RawReading} → Pairwise (Twin lo d) l m → All K (Placed lo) (map hz l)
    all_placed end = tt
    all_placed (next {x = x} a t) = (placed x a.here, all_placed t)

    all-placed-too : {l m : List RawReading} → Pairwise (Twin lo d) l m → All K (Placed lo) (map hz m)
    all-placed-too end = tt
    all-placed-too (next {y = y} a t) = (placed y a.there, all-placed-too t)

  -- by d steps and 10 more 1,024ths at most
  module _ {d : ℕ} {l m : List RawReading} (t : Pairwise (Twin lo d) l m) (some : 0 < length l) where
    many : 0 < length (map hz l)
    many = subst (λ (n : ℕ). 0 < n) (sym (length-map l hz)) some

    many-too : 0 < length (map hz m)
    many-too = subst (λ (n : ℕ). 0 < n) (same_length t ∙ sym (length-map m hz)) some

    pub first : Placed lo (median (map hz l))
    first = median-placed lo (map hz l) many (all_placed t)

    pub second : Placed lo (median (map hz m))
    second = median-placed lo (map hz m) many-too (all-placed-too t)

    abbrev n₁ : ℕ
    n₁ = place lo first.steps

    abbrev n₂ : ℕ
    n₂ = place lo second.steps

    pub medians-near : 11904 * n₁ ≤ 11904 * n₂ + (1600000000 * d + 10 * 11904)
    medians-near = ⊎_elim (λ far. absurd (never far)) (λ near. near) (less_or_not (11904 * n₂ + (1600000000 * d + 10 * 11904)) (11904 * n₁))
      where
        pair : 11904 * n₂ + (1600000000 * d + 10 * 11904) < 11904 * n₁ → (x y : RawReading) → Twin lo d x y → K (hz y) < K (median (map hz m)) + 1 → K (hz x) < K (median (map hz l))
        pair far x y a low = ⊎_elim (λ h. h) (λ h. absurd (bad h)) (less_or_not (K (hz x)) (K (median (map hz l))))
          where
            under : spot y ≤ n₂ + 4
            under = at_order (hz y) (median (map hz m)) (spot y) n₂ (reading-fits y.lo y.value) second.held (spot_at y a.there) second.at (omega arith)

            bad : K (median (map hz l)) ≤ K (hz x) → ⊥
            bad h =
                let over : n₁ ≤ spot x + 4 = at_order (median (map hz l)) (hz x) n₁ (spot x) first.held (reading-fits x.lo x.value) first.at (spot_at x a.here) h in
                let g = under in
                let s = (moved lo d (signed x.value) (signed y.value) a.close).0 in
                omega arith

        never : 11904 * n₂ + (1600000000 * d + 10 * 11904) < 11904 * n₁ → ⊥
        never far =
            let c = fewer (K (median (map hz l))) (K (median (map hz m)) + 1) (pair far) t in
            let a = (median-rank lo (map hz l) many (all_placed t)).0 in
            let b = (median-rank lo (map hz m) many-too (all-placed-too t)).1 in
            let e : length (map hz l) / 2 ≡ length (map hz m) / 2 = ap (λ (n : ℕ). n / 2) (length-map l hz ∙ same_length t ∙ sym (length-map m hz)) in
            omega arith

-- ---- the other way round

apart_back : (a b d : ℕ) → a ≤ b + d → b ≤ a + d → nat_abs (sub_ℕ a b) ≤ d
apart_back a b d g h = go (ltb a b) (ltb-true a b) (ltb-false a b)
  where
    go : (t : Bool) → (t ≡ true → a < b) → (t ≡ false → b ≤ a) → nat_abs (cond t (negsuc (b - suc a)) (pos (a - b))) ≤ d
    go true f k = let x = f refl in omega arith
    go false f k = let x = k refl in omega arith

turned : (d : ℕ) (x y : ℤ) → nat_abs (x -ℤ y) ≤ d → nat_abs (y -ℤ x) ≤ d
turned d (pos zero) (pos zero) h = h
turned d (pos zero) (pos (suc b)) h = let k = apart 0 (suc b) d h in omega arith
turned d (pos (suc a)) (pos zero) h = apart_back 0 (suc a) d (omega arith) (omega arith)
turned d (pos (suc a)) (pos (suc b)) h = let k = apart (suc a) (suc b) d h in apart_back (suc b) (suc a) d (omega arith) (omega arith)
turned d (pos zero) (negsuc b) h = apart_back 0 (suc b) d (omega arith) (omega arith)
turned d (pos (suc a)) (negsuc b) h = omega arith
turned d (negsuc a) (pos zero) h = let k = apart 0 (suc a) d h in omega arith
turned d (negsuc a) (pos (suc b)) h = omega arith
turned d (negsuc a) (negsuc b) h = let k = apart (suc b) (suc a) d h in apart_back (suc a) (suc b) d (omega arith) (omega arith)

twin_too : {lo d : ℕ} {x y : RawReading} → Twin lo d x y → Twin lo d y x
twin_too {lo} {d} {x} {y} a = record { here = a.there; there = a.here; close = turned d (signed x.value) (signed y.value) a.close }

pub twins_too : {lo d : ℕ} {l m : List RawReading} → Pairwise (Twin lo d) l m → Pairwise (Twin lo d) m l
twins_too end = end
twins_too (next a t) = next (twin_too a) (twins_too t)
