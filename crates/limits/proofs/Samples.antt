-- Laws of rates and samples that are accepted, on plain lists. Assumes nothing.
use mathlib.Core.Path.{◌≡◌, refl, subst}
use mathlib.Core.Bool.{Bool, true, false, not, ◌&&◌}
use mathlib.Core.List.{List, [], ◌∷◌}
use Prim.Native.Nat.{ℕ, zero, suc, ◌≤◌, ◌<◌}
use native.Mathlib.Omega.{arith}
use lib.Dec.{T, leb}
use borrow.Author.Tests.{leb-true}
use lib.ListN.{length, get_or, take, drop}
use lib.Ieee.{Float, nan, inf, fin, is_nan, le, lt, eq}
use Rattle.limits.specs.Limits.{lowest_rate, highest_rate, lowest_dbm, highest_dbm}
use Rattle.limits.specs.Samples.{rate_ok, is_dbm, all_dbm}

pub and_assoc : (a b c : Bool) → (a && b) && c ≡ a && (b && c)
and_assoc true b c = refl
and_assoc false b c = refl

pub and_true : (a : Bool) → a && true ≡ a
and_true true = refl
and_true false = refl

pub and_left : (a b : Bool) → a && b ≡ true → a ≡ true
and_left true b e = refl
and_left false b e = e

pub and_right : (a b : Bool) → a && b ≡ true → b ≡ true
and_right true b e = e
and_right false b e = absurd (no e)
  where
    no : false ≡ true → ⊥
    no e = subst (λ (t : Bool). T (not t)) e tt

pub all_at : (l : List Float) (i : ℕ) → i < length l → all_dbm l ≡ true → is_dbm (get_or l i nan) ≡ true
unfolding all_dbm
all_at [] i h v = absurd (omega arith)
all_at (x ∷ l) zero h v = and_left (is_dbm x) (all_dbm l) v
all_at (x ∷ l) (suc i) h v = all_at l i (omega arith) (and_right (is_dbm x) (all_dbm l) v)

-- a valid sample is no NaN
pub number : (x : Float) → is_dbm x ≡ true → T (not (is_nan x))
unfolding is_nan le lt eq
number nan e = subst (λ (t : Bool). T (not t)) (and_right (le lowest_dbm nan) (le nan highest_dbm) e) tt
number (inf s) e = tt
number (fin s m k) e = tt

pub numbers : (l : List Float) → all_dbm l ≡ true → (i : ℕ) → i < length l → T (not (is_nan (get_or l i nan)))
numbers l v i h = number (get_or l i nan) (all_at l i h v)

pub rate-low : (r : ℕ) → rate_ok r ≡ true → lowest_rate ≤ r
rate-low r e = leb-true lowest_rate r (and_left (leb lowest_rate r) (leb r highest_rate) e)

pub rate-high : (r : ℕ) → rate_ok r ≡ true → r ≤ highest_rate
rate-high r e = leb-true r highest_rate (and_right (leb lowest_rate r) (leb r highest_rate) e)

-- a part of valid samples is valid
pub all_drop : (n : ℕ) (l : List Float) → all_dbm l ≡ true → all_dbm (drop n l) ≡ true
unfolding all_dbm
all_drop zero l v = v
all_drop (suc n) [] v = refl
all_drop (suc n) (x ∷ l) v = all_drop n l (and_right (is_dbm x) (all_dbm l) v)

pub all_take : (n : ℕ) (l : List Float) → all_dbm l ≡ true → all_dbm (take n l) ≡ true
unfolding all_dbm
all_take zero l v = refl
all_take (suc n) [] v = refl
all_take (suc n) (x ∷ l) v = rw (and_left (is_dbm x) (all_dbm l) v) (all_take n l (and_right (is_dbm x) (all_dbm l) v))
