-- The messages on air of a list that goes on. Assumes nothing.
use mathlib.Core.Path.{◌≡◌, refl, ap, ◌∙◌}
use mathlib.Core.Bool.{Bool, true, false, cond}
use mathlib.Core.List.{List, [], ◌∷◌, ◌++◌}
use Prim.Native.Nat.{ℕ, suc, ◌+◌, ◌≤◌, ◌<◌}
use native.Mathlib.Omega.{arith}
use lib.ListN.{length, take, get_or}
use lib.Seq.{take-suc, take-length, length-take-le}
use lib.Ieee.{Float}
use Rattle.grip.specs.OnAir.{is_on_air, air_from}

air_append : (x : Float) (a b : List (List ℕ)) (k : ℕ) → air_from k x (a ++ b) ≡ air_from k x a ++ air_from (k + length a) x b
unfolding air_from
air_append x [] b k = ap (λ (j : ℕ). air_from j x b) (none k)
  where
    none : (n : ℕ) → n ≡ n + 0
    none n = omega arith
air_append x (r ∷ a) b k =
    ap (λ (l : List ℕ). cond (is_on_air x r) (k ∷ l) l) (air_append x a b (suc k) ∙ ap (λ (j : ℕ). air_from (suc k) x a ++ air_from j x b) (more k (length a)))
    ∙ go (is_on_air x r) (air_from (suc k) x a) (air_from (k + suc (length a)) x b)
  where
    more : (i n : ℕ) → suc i + n ≡ i + suc n
    more i n = omega arith

    go : (t : Bool) (m n : List ℕ) → cond t (k ∷ (m ++ n)) (m ++ n) ≡ cond t (k ∷ m) m ++ n
    go true m n = refl
    go false m n = refl

pub air_le : (x : Float) (l : List (List ℕ)) (k : ℕ) → length (air_from k x l) ≤ length l
unfolding air_from
air_le x [] k = omega arith
air_le x (r ∷ l) k = go (is_on_air x r) (air_from (suc k) x l) (air_le x l (suc k))
  where
    go : (t : Bool) (m : List ℕ) → length m ≤ length l → length (cond t (k ∷ m) m) ≤ length (r ∷ l)
    go true m h = omega arith
    go false m h = omega arith

module _ (es : List (List ℕ)) (x : Float) where
  -- the numbers of the first i records
  abbrev pub up_to : ℕ → List ℕ
  up_to i = air_from 0 x (take i es)

  pub next_is : (i : ℕ) → i < length es → up_to (suc i) ≡ up_to i ++ air_from i x (get_or es i [] ∷ [])
  next_is i h =
      ap (air_from 0 x) (take-suc es i [] h) ∙ air_append x (take i es) (get_or es i [] ∷ []) 0
      ∙ ap (λ (k : ℕ). up_to i ++ air_from k x (get_or es i [] ∷ [])) (zero-plus (length (take i es)) i (length-take-le i es (omega arith)))
    where
      zero-plus : (a b : ℕ) → a ≡ b → 0 + a ≡ b
      zero-plus a b q = omega arith

  pub whole : (i : ℕ) → i ≡ length es → up_to i ≡ air_from 0 x es
  whole i e = ap (air_from 0 x) (ap (λ (k : ℕ). take k es) e ∙ take-length es)
