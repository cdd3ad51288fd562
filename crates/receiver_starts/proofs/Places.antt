-- Places of an array with a count: a store behind the first n, and the first n copied over another array. Assumes nothing.
use mathlib.Core.List.{List, [], ◌++◌, ◌∷◌}
use mathlib.Core.Path.{◌∙◌, ◌≡◌, ap, ap₂, sym}
use Prim.Native.Nat.{◌+◌, ◌<◌, ◌≤◌, suc, ℕ}
use native.Mathlib.Nat.{min-le_left}
use native.Mathlib.Numerals.{add-one}
use native.Mathlib.Omega.{arith}
use lib.ListN.{drop, get_or, length, length-append, length-take, set, take, take-append-drop}
use lib.Seq.{append_snoc, drop-append-add, drop-cons, drop-drop, length-take-le, set_at, take-suc, take-suc-set}

module _ {A : Type 0} where
  pub take_store : (l : List A) (n : ℕ) (a : A) → n < length l → take (n + 1) (set l n a) ≡ take n l ++ (a ∷ [])
  take_store l n a h = rw add-one (take-suc-set l n a h)

  -- a store behind what was replaced
  pub store_next : (p d : List A) (k : ℕ) (a : A) → length p ≡ k → k < length d → set (p ++ drop k d) k a ≡ p ++ (a ∷ []) ++ drop (k + 1) d
  store_next p d k a e h =
      rw add-one
      (ap (λ (r : List A). set (p ++ r) k a) (drop-cons d k a h)
      ∙ set_at p (get_or d k a) (drop (suc k) d) a k e
      ∙ sym (append_snoc p a (drop (suc k) d)))

  -- an array by what its first n places hold and by the others, which are those of another
  pub laid_over : (t d l : List A) (n : ℕ) → n ≤ length t → take n t ≡ l → drop n t ≡ drop n d → (n ≡ length l) × (t ≡ l ++ drop (length l) d)
  laid_over t d l n h e f =
      let m : n ≡ length l = sym (length-take-le n t h) ∙ ap length e in
      (m, sym (take-append-drop n t) ∙ ap₂ (λ (x y : List A). x ++ y) e f ∙ ap (λ (k : ℕ). l ++ drop k d) m)

  -- more over what was laid over
  pub over_again : (d a c : List A) → drop (length (a ++ c)) (a ++ drop (length a) d) ≡ drop (length (a ++ c)) d
  over_again d a c = rw (length-append a c) (drop-append-add a (drop (length a) d) (length c) ∙ drop-drop (length c) (length a) d)

  pub take-few : (n : ℕ) (l : List A) → length (take n l) ≤ n
  take-few n l = omega (arith, length-take n l, min-le_left n (length l))

  -- a turn of the loop that copies s over d
  pub copy-turn : (s d r : List A) (i : ℕ) (z : A) → i < length s → i < length d → r ≡ take i s ++ drop i d
      → set r i (get_or s i z) ≡ take (i + 1) s ++ drop (i + 1) d
  copy-turn s d r i z h k e =
      let l : length (take i s) ≡ i = length-take-le i s (omega arith) in
      let n : take (i + 1) s ≡ take i s ++ (get_or s i z ∷ []) = rw add-one (take-suc s i z h) in
      rw (e, n) (store_next (take i s) d i (get_or s i z) l k)
