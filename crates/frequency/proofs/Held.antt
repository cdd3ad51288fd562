-- The lists as a call leaves them: what is held, over what was there. Assumes nothing.
use mathlib.Core.Path.{◌≡◌, refl, sym, ap, ◌∙◌}
use mathlib.Core.Bool.{Bool, true, false, cond}
use mathlib.Core.List.{List, [], ◌∷◌, ◌++◌}
use Prim.Native.Nat.{ℕ, suc, ◌+◌, ◌≤◌, ◌<◌}
use native.Mathlib.Omega.{arith}
use native.Mathlib.Numerals.{add-one}
use Rattle.std.proofs.lemmas.List.{append_assoc}
use lib.ListN.{length, take, drop, length-append, take-append-drop}
use lib.Seq.{length-take-le, set_split, append_snoc, drop-append-le, sets, sets-eq}
use Rattle.frequency_lists.specs.Marks.{marked, retained, gathered, put}
use Rattle.frequency_lists.proofs.Gather.{marked-le, length_retained}
use Rattle.frequency_retain.specs.Retain.{Compacted}
use Rattle.frequency.specs.Lent.{over}

module _ {A : Type 0} (l : List A) (c : ℕ) (h : c ≤ length l) where
  -- as it was
  pub over_same : l ≡ over (take c l) l
  over_same = sym (ap (λ (n : ℕ). take c l ++ drop n l) (length-take-le c l h) ∙ take-append-drop c l)

  -- those retained, of what was held
  pub over-retained : (bs : List Bool) → length bs ≡ c → (r : ℕ) (held : List A) → Compacted bs (take c l) r held → held ++ drop c l ≡ over (retained bs (take c l)) l
  unfolding gathered
  over-retained bs B r held p =
      let t = length-take-le c l h in
      let k : length (retained bs (take c l)) ≡ marked bs = length_retained bs (take c l) (omega arith) in
      let m = marked-le bs in
      let d : drop (marked bs) (take c l) ++ drop c l ≡ drop (marked bs) l = sym (drop-append-le (marked bs) (take c l) (drop c l) (omega arith)) ∙ ap (drop (marked bs)) (take-append-drop c l) in
      ap (λ (z : List A). z ++ drop c l) p.list ∙ append_assoc (retained bs (take c l)) (drop (marked bs) (take c l)) (drop c l)
      ∙ ap (λ (z : List A). retained bs (take c l) ++ z) d ∙ ap (λ (n : ℕ). retained bs (take c l) ++ drop n l) (sym k)

  pub retained-count : (bs : List Bool) → length bs ≡ c → (r : ℕ) (held : List A) → Compacted bs (take c l) r held → r ≡ length (retained bs (take c l))
  retained-count bs B r held p = let t = length-take-le c l h in p.count ∙ sym (length_retained bs (take c l) (omega arith))

  -- one more behind
  pub over_put : (b : Bool) (x : A) → (b ≡ true → c < length l) → put b l c x ≡ over (cond b (take c l ++ (x ∷ [])) (take c l)) l
  over_put false x f = over_same
  over_put true x f =
      let n : length (take c l ++ (x ∷ [])) ≡ suc c = length-append (take c l) (x ∷ []) ∙ rw (length-take-le c l h, add-one c) refl in
      set_split l c x (f refl) ∙ sym (append_snoc (take c l) x (drop (suc c) l)) ∙ ap (λ (m : ℕ). (take c l ++ (x ∷ [])) ++ drop m l) (sym n)

  pub put-count : (b : Bool) (x : A) → cond b (c + 1) c ≡ length (cond b (take c l ++ (x ∷ [])) (take c l))
  put-count true x = sym (length-append (take c l) (x ∷ []) ∙ ap (λ (n : ℕ). n + 1) (length-take-le c l h))
  put-count false x = sym (length-take-le c l h)

  -- new ones behind
  pub over_append : (new : List A) → c + length new ≤ length l → sets l c new ≡ over (take c l ++ new) l
  over_append new k =
      let n : length (take c l ++ new) ≡ c + length new = length-append (take c l) new ∙ ap (λ (z : ℕ). z + length new) (length-take-le c l h) in
      sets-eq new l c k ∙ ap (λ (m : ℕ). (take c l ++ new) ++ drop m l) (sym n)
