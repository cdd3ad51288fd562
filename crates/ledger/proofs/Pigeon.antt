-- How many starts, pairwise at least 0.3 s apart, fit into a window: one to each k samples, k being under 0.3 s and a sample.
use mathlib.Core.Path.{◌≡◌, refl, ap, ◌∙◌}
use mathlib.Core.Logic.{⊎_elim}
use mathlib.Core.List.{List, [], ◌∷◌, ◌++◌, append-nil}
use mathlib.Core.Bool.{Bool, true, false, cond, or-true}
use Prim.Native.Nat.{ℕ, zero, suc, ◌+◌, ◌*◌, ◌/◌, ◌≤◌, ◌<◌}
use native.Mathlib.Omega.{arith}
use native.Mathlib.Nat.{le_refl, mul-suc}
use lib.ListN.{length}
use lib.Dec.{ltb}
use borrow.Author.Tests.{ltb-true, ltb-false, lt-ltb}
use Rattle.ledger.specs.Ledger.{dist, close, near, spaced}
use Rattle.ledger.proofs.Basics.{either, clash, or_false}
use Rattle.ledger.proofs.Spacing.{near-join, spaced-cons, spaced-head}

-- ---- the starts that pass a test keep their distance

abbrev pub select : (ℕ → Bool) → List ℕ → List ℕ
select p [] = []
select p (s ∷ l) = cond (p s) (s ∷ select p l) (select p l)

module _ (rate : ℕ) (p : ℕ → Bool) where
  pub select_yes : (s : ℕ) (l : List ℕ) → p s ≡ true → select p (s ∷ l) ≡ s ∷ select p l
  select_yes s l e = rw e refl

  pub select_no : (s : ℕ) (l : List ℕ) → p s ≡ false → select p (s ∷ l) ≡ select p l
  select_no s l e = rw e refl

  select-join : (a c : List ℕ) → select p (a ++ c) ≡ select p a ++ select p c
  select-join [] c = refl
  select-join (s ∷ a) c =
      ⊎_elim
      (λ e. rw (select_yes s (a ++ c) e, select_yes s a e, select-join a c) refl)
      (λ e. rw (select_no s (a ++ c) e, select_no s a e, select-join a c) refl)
      (either (p s))

  near-select : (l : List ℕ) (x : ℕ) → near rate l x ≡ false → near rate (select p l) x ≡ false
  unfolding near
  near-select [] x e = refl
  near-select (s ∷ l) x e =
      let o = or_false (close rate s x) (near rate l x) e in
      ⊎_elim
      (λ f. rw (select_yes s l f, o.0) (near-select l x o.1))
      (λ f. rw (select_no s l f) (near-select l x o.1))
      (either (p s))

  pub spaced-select : (acc l : List ℕ) → spaced rate acc l ≡ true → spaced rate (select p acc) (select p l) ≡ true
  unfolding spaced
  spaced-select acc [] e = refl
  spaced-select acc (y ∷ l) e =
      let h = spaced-head rate acc l y e in
      let i = rw (select-join acc (y ∷ [])) at (spaced-select (acc ++ (y ∷ [])) l h.1) in
      ⊎_elim
      (λ g. rw (select_yes y l g) (spaced-cons rate (select p acc) (select p l) y (near-select acc y h.0) (rw (select_yes y [] g) at i)))
      (λ g. rw (select_no y l g) (rw (select_no y [] g, append-nil) at i))
      (either (p y))

-- ---- a window

-- each start is from lo up to, not including, hi
abbrev pub Window : ℕ → ℕ → List ℕ → Type 0
Window lo hi [] = Unit
Window lo hi (s ∷ l) = (lo ≤ s) × (s < hi) × Window lo hi l

-- the starts below b
abbrev low : ℕ → ℕ → Bool
low b s = ltb s b

window-low : (rate lo hi b : ℕ) (l : List ℕ) → Window lo hi l → Window lo b (select (low b) l)
window-low rate lo hi b [] w = tt
window-low rate lo hi b (s ∷ l) w =
    ⊎_elim
    (λ e. rw (select_yes rate (low b) s l e) (w.0, ltb-true s b e, window-low rate lo hi b l w.2))
    (λ e. rw (select_no rate (low b) s l e) (window-low rate lo hi b l w.2))
    (either (ltb s b))

module _ (rate k : ℕ) (narrow : 10 * k < 3 * rate + 10) where
  -- where acc is near all of the top k places, the others are below them
  all_low : (lo b : ℕ) (acc l : List ℕ) → ((y : ℕ) → b ≤ y → y < b + k → near rate acc y ≡ true) → spaced rate acc l ≡ true → Window lo (b + k) l → select (low b) l ≡ l
  all_low lo b acc [] n e w = refl
  all_low lo b acc (y ∷ l) n e w =
      let h = spaced-head rate acc l y e in
      ⊎_elim
      (λ f. select_yes rate (low b) y l f ∙ ap (λ (t : List ℕ). y ∷ t)
      (all_low lo b (acc ++ (y ∷ [])) l (λ z p q. rw (near-join rate acc (y ∷ []) z, n z p q) refl) h.1 w.2))
      (λ f. clash (near rate acc y) (n y (ltb-false y b f) w.1) h.0)
      (either (ltb y b))

  covers : (b : ℕ) (acc : List ℕ) (s : ℕ) → b ≤ s → s < b + k → (y : ℕ) → b ≤ y → y < b + k → near rate (acc ++ (s ∷ [])) y ≡ true
  unfolding near
  covers b acc s p q y u v = rw (near-join rate acc (s ∷ []) y, lt-ltb (10 * dist s y) (3 * rate) (omega arith)) (or-true (near rate acc y))

  -- so at most one is among the top k places
  top_one : (lo b : ℕ) (acc l : List ℕ) → spaced rate acc l ≡ true → Window lo (b + k) l → length l ≤ suc (length (select (low b) l))
  top_one lo b acc [] e w = omega arith
  top_one lo b acc (s ∷ l) e w =
      let h = spaced-head rate acc l s e in
      ⊎_elim
      (λ f. rw (select_yes rate (low b) s l f) (omega (arith, top_one lo b (acc ++ (s ∷ [])) l h.1 w.2)))
      (λ f. rw (select_no rate (low b) s l f, all_low lo b (acc ++ (s ∷ [])) l (covers b acc s (ltb-false s b f) w.1) h.1 w.2) (le_refl _))
      (either (ltb s b))

  pub at_most_lem : (m lo : ℕ) (l : List ℕ) → spaced rate [] l ≡ true → Window lo (lo + k * m) l → length l ≤ m
  at_most_lem zero lo [] e w = omega arith
  at_most_lem zero lo (s ∷ l) e w = absurd (omega (arith, w.0, w.1))
  at_most_lem (suc m) lo l e w =
      let q : lo + k * suc m ≡ lo + k * m + k = omega (arith, mul-suc k m) in
      let v : Window lo (lo + k * m + k) l = rw q at w in
      let t = top_one lo (lo + k * m) [] l e v in
      let i = at_most_lem m lo (select (low (lo + k * m)) l) (spaced-select rate (low (lo + k * m)) [] l e) (window-low rate lo (lo + k * m + k) (lo + k * m) l v) in
      omega arith

-- 0.3 s in samples, rounded up
abbrev pub third : ℕ → ℕ
third rate = (3 * rate + 9) / 10

-- THE CLAIM: at most m where the window is not longer than m times 0.3 s
pub fits : (rate m lo hi : ℕ) (l : List ℕ) → hi ≤ lo + third rate * m → spaced rate [] l ≡ true → Window lo hi l → length l ≤ m
fits rate m lo hi l h e w = at_most_lem rate (third rate) (omega arith) m lo l e (wider l w)
  where
    wider : (l : List ℕ) → Window lo hi l → Window lo (lo + third rate * m) l
    wider [] w = tt
    wider (s ∷ l) w = (w.0, omega arith, wider l w.2)
