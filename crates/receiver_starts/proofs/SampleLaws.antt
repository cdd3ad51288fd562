-- Distances from the first held sample say of starts what 01 says of absolute samples. Assumes nothing.
use mathlib.Core.Bool.{Bool, ◌&&◌, true, not}
use mathlib.Core.List.{List, [], ◌∷◌, ◌++◌, map}
use mathlib.Core.Logic.{⊎_elim}
use mathlib.Core.Path.{◌≡◌, ◌∙◌, ap, refl, sym}
use Prim.Native.Nat.{ℕ, suc, ◌+◌, ◌-◌, ◌*◌, ◌≤◌, ◌<◌}
use native.Mathlib.Omega.{arith}
use lib.Dec.{leb, ltb}
use lib.IntN.{ℤ, pos, negsuc, neg_ℤ, nat_abs, ◌-ℤ◌}
use lib.ListN.{length}
use lib.Signed.{le_z, lt_z}
use borrow.Author.Tests.{le-leb, leb-false, leb-true, ltb-false, ltb-true}
use Rattle.ledger.specs.Ledger.{close, dist, near, spaced, starts_from}
use Rattle.ledger.specs.Causes.{most_starts, oldest_s, below, since, starts_ordered}
use Rattle.ledger.specs.Room.{Since}
use Rattle.ledger.proofs.Basics.{and_true, either}
use Rattle.receiver_starts.specs.Starts.{distance_of, distances_of, sample_at, near_one, lately, moved, all_below, all_from, all_apart}
use Rattle.receiver_starts.proofs.Signed.{apart_is, below_is, from_is, minus_is, parts, sub-ahead, sub-behind, sub_same}

-- two tests that hold together are one
leb_as : (a b c d : ℕ) → (a ≤ b → c ≤ d) → (c ≤ d → a ≤ b) → leb a b ≡ leb c d
leb_as a b c d f g =
    ⊎_elim
    (λ e. e ∙ sym (le-leb c d (f (leb-true a b e))))
    (λ e. let h = leb-false a b e in e ∙ sym (⊎_elim (λ q. absurd (clash (g (leb-true c d q)) h)) (λ q. q) (either (leb c d))))
    (either (leb a b))
  where
    clash : {a b : ℕ} → a ≤ b → b < a → ⊥
    clash h k = omega arith

dist_same : (a b c d : ℕ) → a + d ≡ c + b → dist a b ≡ dist c d
dist_same a b c d h = omega arith

-- ---- one start

module _ (base s : ℕ) where
  abbrev at : ℤ
  at = distance_of base s

  pub back_is : sample_at base at ≡ s
  unfolding sample_at
  back_is =
      ⊎_elim (λ e. let h = ltb-true s base e in rw e (omega arith)) (λ e. let h = ltb-false s base e in rw e (omega arith)) (either (ltb s base))

  -- no sample is before 0
  real : le_z (neg_ℤ (pos base)) at ≡ true
  real = from_is at base ∙ rw (sub-behind s base) (le-leb (base - s) base (omega arith))

  from_one : (back : ℕ) → le_z (neg_ℤ (pos back)) at ≡ leb base (s + back)
  from_one back = from_is at back ∙ rw (sub-behind s base) (leb_as (base - s) back base (s + back) (λ h. omega arith) (λ h. omega arith))

  below_one : (held : ℕ) → lt_z at (pos held) ≡ ltb s (base + held)
  below_one held = below_is at held ∙ rw (sub-ahead s base, sub-behind s base) (leb_as (suc (s - base)) (held + (base - s)) (suc s) (base + held) (λ h. omega arith) (λ h. omega arith))

  -- "where the base is under the rate the Rust saturates at 0": the same set
  lately_one : (back : ℕ) → le_z (neg_ℤ (pos back)) at ≡ leb (base - back) s
  lately_one back = from_one back ∙ leb_as base (s + back) (base - back) s (λ h. omega arith) (λ h. omega arith)

  moved_one : (by : ℕ) → at -ℤ pos by ≡ distance_of (base + by) s
  moved_one by = minus_is at by ∙ rw (sub-ahead s base, sub-behind s base) (sub_same (s - base) ((base - s) + by) s (base + by) (omega arith))

  close_one : (rate t : ℕ) → ltb (10 * nat_abs (at -ℤ distance_of base t)) (3 * rate) ≡ close rate s t
  close_one rate t =
      ap (λ (n : ℕ). ltb (10 * n) (3 * rate))
      (apart_is at (distance_of base t)
      ∙ rw (sub-ahead s base, sub-behind s base, sub-ahead t base, sub-behind t base)
      (dist_same ((s - base) + (base - t)) ((t - base) + (base - s)) s t (omega arith)))

-- the distance of the sample at a buffer index
pub index_at_lem : (base i : ℕ) → pos i ≡ distance_of base (base + i)
index_at_lem base i = parts (pos i) ∙ sub_same i 0 (base + i) base (omega arith)

-- a distance that is not below minus the base is that of its sample
sample_one : (base : ℕ) (d : ℤ) → le_z (neg_ℤ (pos base)) d ≡ true → distance_of base (sample_at base d) ≡ d
unfolding sample_at
sample_one base (pos n) h = sym (index_at_lem base n)
sample_one base (negsuc k) h =
    let g = leb-true (suc k) base (sym (from_is (negsuc k) base) ∙ h) in
    sub_same (base - suc k) base 0 (suc k) (omega arith) ∙ sym (parts (negsuc k))

-- ---- lists of them

pub samples_back : (base : ℕ) (l : List ℕ) → map (sample_at base) (distances_of base l) ≡ l
samples_back base [] = refl
samples_back base (s ∷ l) = rw (back_is base s, samples_back base l) refl

pub distances_back : (base : ℕ) (l : List ℤ) → all_from base l ≡ true → distances_of base (map (sample_at base) l) ≡ l
unfolding all_from
distances_back base [] h = refl
distances_back base (d ∷ l) h =
    let a = and_true (le_z (neg_ℤ (pos base)) d) (all_from base l) h in
    rw (sample_one base d a.0, distances_back base l a.1) refl

pub near_is : (rate base : ℕ) (l : List ℕ) (s : ℕ) → near_one rate (distances_of base l) (distance_of base s) ≡ near rate l s
unfolding near_one near
near_is rate base [] s = refl
near_is rate base (t ∷ l) s = rw (close_one base t rate s, near_is rate base l s) refl

-- a burst at a buffer index
pub near-index : (rate base : ℕ) (l : List ℕ) (i : ℕ) → near_one rate (distances_of base l) (pos i) ≡ near rate l (base + i)
near-index rate base l i = ap (near_one rate (distances_of base l)) (index_at_lem base i) ∙ near_is rate base l (base + i)

-- what is forgotten
pub lately_is : (back base : ℕ) (l : List ℕ) → lately back (distances_of base l) ≡ distances_of base (starts_from (base - back) l)
unfolding lately starts_from
lately_is back base [] = refl
lately_is back base (s ∷ l) =
    ⊎_elim
    (λ e. rw (lately_one base s back) (rw e (ap (λ (r : List ℤ). distance_of base s ∷ r) (lately_is back base l))))
    (λ e. rw (lately_one base s back) (rw e (lately_is back base l)))
    (either (leb (base - back) s))

-- what a drop moves
pub moved_is : (by base : ℕ) (l : List ℕ) → moved by (distances_of base l) ≡ distances_of (base + by) l
moved_is by base [] = refl
moved_is by base (s ∷ l) = rw (moved_one base s by, moved_is by base l) refl

-- ---- the order

below_all : (base held : ℕ) (l : List ℕ) → all_below held (distances_of base l) ≡ below (base + held) l
unfolding all_below below
below_all base held [] = refl
below_all base held (s ∷ l) = rw (below_one base s held, below_all base held l) refl

from_all : (base back : ℕ) (l : List ℕ) → all_from back (distances_of base l) ≡ since base back l
unfolding all_from since
from_all base back [] = refl
from_all base back (s ∷ l) = rw (from_one base s back, from_all base back l) refl

real_all : (base : ℕ) (l : List ℕ) → all_from base (distances_of base l) ≡ true
unfolding all_from
real_all base [] = refl
real_all base (s ∷ l) = rw (real base s) (real_all base l)

apart_snoc : (base : ℕ) (l : List ℕ) (s : ℕ) → distances_of base l ++ (distance_of base s ∷ []) ≡ distances_of base (l ++ (s ∷ []))
apart_snoc base [] s = refl
apart_snoc base (t ∷ l) s = ap (λ (r : List ℤ). distance_of base t ∷ r) (apart_snoc base l s)

-- one start more, at a buffer index
pub one_more : (base : ℕ) (l : List ℕ) (i : ℕ) → distances_of base l ++ (pos i ∷ []) ≡ distances_of base (l ++ ((base + i) ∷ []))
one_more base l i = ap (λ (d : ℤ). distances_of base l ++ (d ∷ [])) (index_at_lem base i) ∙ apart_snoc base l (base + i)

apart_all : (rate base : ℕ) (acc l : List ℕ) → all_apart rate (distances_of base acc) (distances_of base l) ≡ spaced rate acc l
unfolding all_apart spaced
apart_all rate base acc [] = refl
apart_all rate base acc (s ∷ l) =
    rw (near_is rate base acc s)
    (ap (λ (b : Bool). not (near rate acc s) && b)
    (ap (λ (r : List ℤ). all_apart rate r (distances_of base l)) (apart_snoc base acc s) ∙ apart_all rate base (acc ++ (s ∷ [])) l))

-- the rules over distances are those over absolute samples
pub order_is : (rate base held : ℕ) (l : List ℕ)
    → leb (length l) most_starts
    && (all_below held (distances_of base l)
    && (all_from (oldest_s * rate) (distances_of base l) && (all_from base (distances_of base l) && all_apart rate [] (distances_of base l))))
    ≡ starts_ordered rate base held l
order_is rate base held l =
    rw (below_all base held l, from_all base (oldest_s * rate) l, real_all base l, apart_all rate base [] l) refl

-- none too old to be moved
pub from_holds : (base back : ℕ) (l : List ℕ) → Since base back l → all_from back (distances_of base l) ≡ true
unfolding since
from_holds base back l w = from_all base back l ∙ holds l w
  where
    holds : (l : List ℕ) → Since base back l → since base back l ≡ true
    holds [] w = refl
    holds (s ∷ l) w = rw (le-leb base (s + back) w.0) (holds l w.1)
