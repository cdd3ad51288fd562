-- The bits between points that rise: walked point by point, they are those of the set. Assumes nothing.
use Rattle.std.proofs.Common.{◌≡◌, ℕ, zero, suc, ◌+◌, ◌-◌, ◌<◌, ◌≤◌, min, Bool, true, false, cond, ◌||◌, eqb, List, [], ◌∷◌, ◌++◌, length, get_or, take, drop, set, sym, refl, ap, ◌∙◌, ⊎_elim, append_assoc, append-nil, eq-or-lt_of_le, add-one, arith, length-set, take-append-drop, drop-drop, take-suc-set, drop-set-lt, ne_eqb, eqb-true}
use lib.Ieee.{Float, nan, to_unsigned}
use borrow.Author.Tests.{eqb-false}
use Rattle.clock.specs.Walk.{has_place, bits_from, heads, walked, places, Rising, flat, rise}

-- ---- the places in a slice

places-cons : (l : List Float) (p : ℕ) → p < length l → drop p (places l) ≡ to_unsigned 64 (get_or l p nan) ∷ drop (suc p) (places l)
places-cons [] p h = absurd (omega arith)
places-cons (x ∷ l) zero h = refl
places-cons (x ∷ l) (suc p) h = places-cons l p (omega arith)

places_none : (l : List Float) (p : ℕ) → length l ≤ p → drop p (places l) ≡ []
places_none [] zero h = refl
places_none [] (suc p) h = refl
places_none (x ∷ l) zero h = absurd (omega arith)
places_none (x ∷ l) (suc p) h = places_none l p (omega arith)

pub heads_here : (k : ℕ) (l : List Float) (p r : ℕ) → p < length l → r ≡ to_unsigned 64 (get_or l p nan) → eqb k r ≡ heads k (drop p (places l))
unfolding heads
heads_here k l p r h e = rw (places-cons l p h, e)

pub heads_past : (k : ℕ) (l : List Float) (p : ℕ) → length l ≤ p → false ≡ heads k (drop p (places l))
unfolding heads
heads_past k l p h = rw (places_none l p h)

-- ---- the loop that writes them: j bits stand, p points are passed

pub record WriteAt (points : List ℕ) (first len : ℕ) (old : List ℕ) (p j : ℕ) (now : List ℕ) : Type 0 where
  pub begun : 1 ≤ j
  pub within : j ≤ len
  pub few : p < j
  pub size : length now ≡ length old
  pub past : drop j now ≡ drop j old
  pub here : take j now ++ walked (drop p points) (first + (j - 1)) (len - j) ≡ 1 ∷ walked points first (len - 1)

pub write_start : (points : List ℕ) (first len : ℕ) (old : List ℕ) → 1 ≤ len → 0 < length old → WriteAt points first len (set old 0 1) 0 1 (set old 0 1)
write_start points first len old h k =
    let z : first + (1 - 1) ≡ first = omega arith in
    record {
      begun = omega arith;
      within = h;
      few = omega arith;
      size = refl;
      past = refl;
      here = rw (take-suc-set old 0 1 k, z);
    }

module _ (points : List ℕ) (first len : ℕ) (old : List ℕ) (p j : ℕ) (now : List ℕ) (w : WriteAt points first len old p j now) where
  module _ (h : j < len) (k : len ≤ length now) where
    turn : (b : ℕ) (rest : List ℕ) → walked (drop p points) (first + (j - 1)) (len - j) ≡ b ∷ rest
        → take (j + 1) (set now j b) ++ rest ≡ 1 ∷ walked points first (len - 1)
    turn b rest e = rw (add-one j, take-suc-set now j b (omega arith), append_assoc) (ap (λ (l : List ℕ). take j now ++ l) (sym e) ∙ w.here)

    past-turn : (b : ℕ) → drop (j + 1) (set now j b) ≡ drop (j + 1) old
    past-turn b = drop-set-lt (j + 1) now j b (omega arith) ∙ sym (drop-drop 1 j now) ∙ ap (drop 1) w.past ∙ drop-drop 1 j old

    left : len - j ≡ suc (len - (j + 1))
    left = omega arith

    along : first + (j + 1 - 1) ≡ suc (first + (j - 1))
    along = let b = w.begun in omega arith

    pub write-zero : heads (first + (j - 1)) (drop p points) ≡ true → WriteAt points first len old (p + 1) (j + 1) (set now j 0)
    unfolding walked
    write-zero e =
        record {
          begun = omega arith;
          within = omega arith;
          few = omega (arith, w.few);
          size = length-set now j 0 ∙ w.size;
          past = past-turn 0;
          here = rw along (turn 0 (walked (drop (p + 1) points) (suc (first + (j - 1))) (len - (j + 1))) (rw (left, e, drop-drop 1 p points)));
        }

    pub write-one : heads (first + (j - 1)) (drop p points) ≡ false → WriteAt points first len old p (j + 1) (set now j 1)
    unfolding walked
    write-one e =
        record {
          begun = omega arith;
          within = omega arith;
          few = omega (arith, w.few);
          size = length-set now j 1 ∙ w.size;
          past = past-turn 1;
          here = rw along (turn 1 (walked (drop p points) (suc (first + (j - 1))) (len - (j + 1))) (rw (left, e)));
        }

  pub write_end : len ≤ j → now ≡ (1 ∷ walked points first (len - 1)) ++ drop len old
  unfolding walked
  write_end h =
      let e : len ≡ j = omega (arith, w.within) in
      let z : len - j ≡ 0 = omega arith in
      let t : take j now ≡ 1 ∷ walked points first (len - 1) = sym (append-nil (take j now)) ∙ (rw z at w.here) in
      sym (take-append-drop j now) ∙ ap (λ (l : List ℕ). l ++ drop j now) t
      ∙ ap (λ (l : List ℕ). (1 ∷ walked points first (len - 1)) ++ l) (w.past ∙ ap (λ (n : ℕ). drop n old) (sym e))

-- ---- points that rise from k on

weaker : {j k : ℕ} {l : List ℕ} → j ≤ k → Rising k l → Rising j l
weaker h flat = flat
weaker {j = j} h (rise {p = p} a r) = rise {k = j} {p = p} (omega arith) r

off_grid_lem : (k : ℕ) (l : List ℕ) → Rising (suc k) l → has_place k l ≡ false
unfolding has_place
off_grid_lem k [] r = refl
off_grid_lem k (p ∷ ps) (rise h r) = rw (ne_eqb k p (λ e. omega arith)) (off_grid_lem k ps (weaker (omega arith) r))

bits_past : (p : ℕ) (ps : List ℕ) (k n : ℕ) → p < k → bits_from (p ∷ ps) k n ≡ bits_from ps k n
unfolding bits_from has_place
bits_past p ps k zero h = refl
bits_past p ps k (suc n) h = rw (ne_eqb k p (λ e. omega arith)) (ap (λ (l : List ℕ). cond (has_place k ps) 0 1 ∷ l) (bits_past p ps (suc k) n (omega arith)))

pub walk_is : (n k : ℕ) (l : List ℕ) → Rising k l → walked l k n ≡ bits_from l k n
unfolding walked bits_from heads has_place
walk_is zero k l r = refl
walk_is (suc n) k [] r = ap (λ (m : List ℕ). 1 ∷ m) (walk_is n (suc k) [] flat)
walk_is (suc n) k (p ∷ ps) (rise h r) =
    go (eqb k p) (eqb-true k p) (eqb-false k p) (walk_is n (suc k) ps) (walk_is n (suc k) (p ∷ ps)) (off_grid_lem k ps)
  where
    go : (t : Bool) → (t ≡ true → k ≡ p) → (t ≡ false → k ≡ p → ⊥) → (Rising (suc k) ps → walked ps (suc k) n ≡ bits_from ps (suc k) n)
        → (Rising (suc k) (p ∷ ps) → walked (p ∷ ps) (suc k) n ≡ bits_from (p ∷ ps) (suc k) n) → (Rising (suc k) ps → has_place k ps ≡ false)
        → cond t (0 ∷ walked ps (suc k) n) (1 ∷ walked (p ∷ ps) (suc k) n) ≡ cond (t || has_place k ps) 0 1 ∷ bits_from (p ∷ ps) (suc k) n
    go true f g i j o =
        let e = f refl in
        ap (λ (m : List ℕ). 0 ∷ m) (i (rw e r) ∙ sym (bits_past p ps (suc k) n (omega arith)))
    go false f g i j o =
        let m : k < p = below k p h (g refl) in
        rw (o (weaker (omega arith) r)) (ap (λ (m : List ℕ). 1 ∷ m) (j (rise m r)))
      where
        below : (k p : ℕ) → k ≤ p → (k ≡ p → ⊥) → k < p
        below k p h f = ⊎_elim (λ a. absurd (f a)) (λ a. a) (eq-or-lt_of_le h)

pub rising_first : (l : List ℕ) (f : ℕ) → Rising 0 l → (0 < length l → get_or l 0 0 ≡ f) → Rising f l
rising_first [] f r e = flat
rising_first (p ∷ ps) f (rise a r) e = let q = e (omega arith) in rise {k = f} {p = p} (omega arith) r

-- ---- how many, and the first of them

pub length-bits : (l : List ℕ) (k n : ℕ) → length (bits_from l k n) ≡ n
unfolding bits_from
length-bits l k zero = refl
length-bits l k (suc n) = ap suc (length-bits l (suc k) n)

pub take-bits : (l : List ℕ) (k m n : ℕ) → take m (bits_from l k n) ≡ bits_from l k (min m n)
unfolding bits_from
take-bits l k zero n = let z : min 0 n ≡ 0 = omega arith in rw z
take-bits l k (suc m) zero = let z : min (suc m) 0 ≡ 0 = omega arith in rw z
take-bits l k (suc m) (suc n) =
    let z : min (suc m) (suc n) ≡ suc (min m n) = omega arith in
    rw z (ap (λ (r : List ℕ). cond (has_place k l) 0 1 ∷ r) (take-bits l (suc k) m n))
