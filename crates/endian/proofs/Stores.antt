-- What stands in a list after a run of stores: at its place the number stored, elsewhere what was there. Assumes nothing.
use mathlib.Core.Path.{◌≡◌, refl, sym, ap, ◌∙◌, subst}
use mathlib.Core.List.{List, [], ◌∷◌, ◌++◌, append_assoc}
use Prim.Native.Nat.{ℕ, suc, ◌+◌, ◌-◌, ◌^◌, ◌≤◌, ◌<◌}
use native.Mathlib.Omega.{arith}
use lib.ListN.{length, set, take, drop}
use lib.Seq.{sets, sets-eq, length-take-le, take_at, drop_at, drop-append-add, drop-set-lt, drop-set-add, take-set-le}
use Rattle.endian.specs.Bytes.{bytes_of, number_of, number_at}
use Rattle.endian.proofs.Numbers.{bytes-length, number-bytes}

-- a number's bytes between others
pub number-field : (k n : ℕ) (a rest : List ℕ) (at : ℕ) → length a ≡ at → n < 256 ^ k → number_at k (a ++ bytes_of k n ++ rest) at ≡ n
unfolding number_at
number-field k n a rest at e h =
    ap (λ (l : List ℕ). number_of (take k (drop at l))) (append_assoc a (bytes_of k n) rest)
    ∙ ap (λ (l : List ℕ). number_of (take k l)) (drop_at a (bytes_of k n ++ rest) at e)
    ∙ ap number_of (take_at (bytes_of k n) rest k (bytes-length k n))
    ∙ number-bytes k n h

-- a place counted from the end of a first part
pub number-later : (k : ℕ) (a l : List ℕ) (at : ℕ) → number_at k (a ++ l) (length a + at) ≡ number_at k l at
unfolding number_at
number-later k a l at = ap (λ (r : List ℕ). number_of (take k r)) (drop-append-add a l at)

-- get undoes put
pub number_put : (k n : ℕ) (l : List ℕ) (at : ℕ) → at + k ≤ length l → n < 256 ^ k → number_at k (sets l at (bytes_of k n)) at ≡ n
number_put k n l at h b =
    ap (λ (r : List ℕ). number_at k r at) (sets-eq (bytes_of k n) l at (subst (λ (j : ℕ). at + j ≤ length l) (sym (bytes-length k n)) h))
    ∙ number-field k n (take at l) (drop (at + length (bytes_of k n)) l) at (length-take-le at l (omega arith)) b

-- ---- stores elsewhere

pub sets_after : (vs l : List ℕ) (at p : ℕ) → at + length vs ≤ p → drop p (sets l at vs) ≡ drop p l
sets_after [] l at p h = refl
sets_after (v ∷ vs) l at p h = sets_after vs (set l at v) (suc at) p (omega arith) ∙ drop-set-lt p l at v (omega arith)

set_before : (l : List ℕ) (i v p k : ℕ) → p + k ≤ i → take k (drop p (set l i v)) ≡ take k (drop p l)
set_before l i v p k h =
    ap (λ (j : ℕ). take k (drop p (set l j v))) (place p i k h)
    ∙ ap (take k) (drop-set-add p l (i - p) v)
    ∙ take-set-le k (drop p l) (i - p) v (omega arith)
  where
    place : (p i k : ℕ) → p + k ≤ i → i ≡ p + (i - p)
    place p i k h = omega arith

pub sets_before : (vs l : List ℕ) (at p k : ℕ) → p + k ≤ at → take k (drop p (sets l at vs)) ≡ take k (drop p l)
sets_before [] l at p k h = refl
sets_before (v ∷ vs) l at p k h = sets_before vs (set l at v) (suc at) p k (omega arith) ∙ set_before l at v p k h

module _ (k : ℕ) (vs l : List ℕ) (at p : ℕ) where
  -- a number past the stores
  pub number_after : at + length vs ≤ p → number_at k (sets l at vs) p ≡ number_at k l p
  unfolding number_at
  number_after h = ap (λ (r : List ℕ). number_of (take k r)) (sets_after vs l at p h)

  -- and one that ends where they begin, or earlier
  pub number_before : p + k ≤ at → number_at k (sets l at vs) p ≡ number_at k l p
  unfolding number_at
  number_before h = ap number_of (sets_before vs l at p k h)
