-- Lists that follow each other, and a field read from one of them. Assumes nothing.
use mathlib.Core.Path.{◌≡◌, refl, sym, ap, ◌∙◌}
use mathlib.Core.List.{List, [], ◌∷◌, ◌++◌}
use Prim.Native.Nat.{ℕ, zero, suc, ◌+◌, ◌^◌, ◌≤◌, ◌<◌}
use native.Mathlib.Nat.{not-suc-le-zero}
use native.Mathlib.Omega.{arith}
use lib.ListN.{length, take, drop, get_or, length-drop}
use lib.Seq.{take_all, take-append-le, drop-append-le, drop-append-add}
use Rattle.endian.specs.Bytes.{bytes_of, number_of, number_at}
use Rattle.endian.proofs.Numbers.{bytes-length, number-bytes}

-- a first list and those after it, in one
abbrev pub joined : List ℕ → List (List ℕ) → List ℕ
joined p [] = p
joined p (q ∷ qs) = p ++ joined q qs

-- the list at an index
abbrev pub pick : List ℕ → List (List ℕ) → ℕ → List ℕ
pick p ps zero = p
pick p [] (suc j) = []
pick p (q ∷ qs) (suc j) = pick q qs j

-- how long those before it are
abbrev pub before : List ℕ → List (List ℕ) → ℕ → ℕ
before p ps zero = 0
before p [] (suc j) = length p
before p (q ∷ qs) (suc j) = length p + before q qs j

front : (p rest : List ℕ) (k i : ℕ) → i + k ≤ length p → take k (drop i (p ++ rest)) ≡ take k (drop i p)
front p rest k i h =
    ap (take k) (drop-append-le i p rest (omega arith))
    ∙ take-append-le k (drop i p) rest (omega (arith, length-drop i p))

-- k elements at a place of list j
pub part : (p : List ℕ) (ps : List (List ℕ)) (j k i at : ℕ) → at ≡ before p ps j + i → i + k ≤ length (pick p ps j)
    → take k (drop at (joined p ps)) ≡ take k (drop i (pick p ps j))
part p [] zero k i at e h = ap (λ (n : ℕ). take k (drop n p)) (let g : at ≡ i = omega arith in g)
part p (q ∷ qs) zero k i at e h =
    ap (λ (n : ℕ). take k (drop n (p ++ joined q qs))) (let g : at ≡ i = omega arith in g)
    ∙ front p (joined q qs) k i h
part p [] (suc j) zero i at e h = refl
part p [] (suc j) (suc k) i at e h = absurd (let g : 1 ≤ 0 = omega arith in not-suc-le-zero g)
part p (q ∷ qs) (suc j) k i at e h =
    ap (λ (n : ℕ). take k (drop n (p ++ joined q qs))) (let g : at ≡ length p + (before q qs j + i) = omega arith in g)
    ∙ ap (take k) (drop-append-add p (joined q qs) (before q qs j + i))
    ∙ part q qs j k i (before q qs j + i) refl h

module _ (p : List ℕ) (ps : List (List ℕ)) (j at : ℕ) where
  -- a number at a place of list j
  pub number-part : (k i : ℕ) → at ≡ before p ps j + i → i + k ≤ length (pick p ps j) → number_at k (joined p ps) at ≡ number_at k (pick p ps j) i
  unfolding number_at
  number-part k i e h = ap number_of (part p ps j k i at e h)

  -- list j itself
  pub whole_part : (k : ℕ) → at ≡ before p ps j → length (pick p ps j) ≡ k → take k (drop at (joined p ps)) ≡ pick p ps j
  whole_part k e h =
      part p ps j k 0 at (omega arith) (omega arith)
      ∙ take_all k (pick p ps j) (omega arith)

  -- where it is a number's bytes
  pub number_of_part : (k n : ℕ) → at ≡ before p ps j → pick p ps j ≡ bytes_of k n → n < 256 ^ k → number_at k (joined p ps) at ≡ n
  unfolding number_at
  number_of_part k n e f h = ap number_of (whole_part k e (ap length f ∙ bytes-length k n) ∙ f) ∙ number-bytes k n h

-- an element is the first of the list from it on
pub first_from_lem : (l : List ℕ) (i : ℕ) → get_or l i 0 ≡ get_or (take 1 (drop i l)) 0 0
first_from_lem [] zero = refl
first_from_lem [] (suc i) = refl
first_from_lem (x ∷ l) zero = refl
first_from_lem (x ∷ l) (suc i) = first_from_lem l i

pub byte-part : (p : List ℕ) (ps : List (List ℕ)) (j at i : ℕ) → at ≡ before p ps j + i → i < length (pick p ps j) → get_or (joined p ps) at 0 ≡ get_or (pick p ps j) i 0
byte-part p ps j at i e h =
    first_from_lem (joined p ps) at
    ∙ ap (λ (l : List ℕ). get_or l 0 0) (part p ps j 1 i at e (omega arith))
    ∙ sym (first_from_lem (pick p ps j) i)
