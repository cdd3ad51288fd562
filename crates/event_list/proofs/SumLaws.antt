-- Choosing, counting, adding up and storing: over a list that goes on, and over the same elements in another order. Assumes nothing.
use mathlib.Core.Path.{◌≡◌, refl, sym, ap, ◌∙◌}
use mathlib.Core.Bool.{Bool, true, false, cond, true≢false}
use mathlib.Core.List.Permᴰ
use mathlib.Core.List.{List, [], ◌∷◌, ◌++◌, Permᴰ}
use Prim.Native.Nat.{ℕ, suc, ◌+◌, ◌≤◌}
use native.Mathlib.Omega.{arith}
use lib.ListN.{length, set}
use lib.Seq.{sets}
use lib.IntN.{ℤ, ◌+ℤ◌, +ℤ_idl, +ℤ_idr, +ℤ_assoc, +ℤ_comm}
use Rattle.event_list.specs.Sums.{those, count, sum_of}

swapped : (a b c : ℤ) → a +ℤ (b +ℤ c) ≡ b +ℤ (a +ℤ c)
swapped a b c = sym (+ℤ_assoc a b c) ∙ ap (λ (z : ℤ). z +ℤ c) (+ℤ_comm a b) ∙ +ℤ_assoc b a c

module _ {A : Type 0} where
  -- ---- a list that goes on

  pub those-append : (p : A → Bool) (a b : List A) → those p (a ++ b) ≡ those p a ++ those p b
  unfolding those
  those-append p [] b = refl
  those-append p (x ∷ a) b = go (p x) (those p (a ++ b)) (those p a) (those-append p a b)
    where
      go : (t : Bool) (m n : List A) → m ≡ n ++ those p b → cond t (x ∷ m) m ≡ cond t (x ∷ n) n ++ those p b
      go true m n e = ap (λ (l : List A). x ∷ l) e
      go false m n e = e

  pub those_one : (p : A → Bool) (x : A) → p x ≡ true → those p (x ∷ []) ≡ x ∷ []
  unfolding those
  those_one p x e = rw e

  pub those_none : (p : A → Bool) (x : A) → p x ≡ false → those p (x ∷ []) ≡ []
  unfolding those
  those_none p x e = rw e

  pub those-le : (p : A → Bool) (l : List A) → length (those p l) ≤ length l
  unfolding those
  those-le p [] = omega arith
  those-le p (x ∷ l) = go (p x) (those p l) (those-le p l)
    where
      go : (t : Bool) (m : List A) → length m ≤ length l → length (cond t (x ∷ m) m) ≤ length (x ∷ l)
      go true m h = omega arith
      go false m h = omega arith

  pub count-append : (p : A → Bool) (a b : List A) → count p (a ++ b) ≡ count p a + count p b
  unfolding count
  count-append p [] b = sym (none (count p b))
    where
      none : (n : ℕ) → 0 + n ≡ n
      none n = omega arith
  count-append p (x ∷ a) b = let e = count-append p a b in omega (arith, e)

  pub sum-append : (f : A → ℤ) (a b : List A) → sum_of f (a ++ b) ≡ sum_of f a +ℤ sum_of f b
  unfolding sum_of
  sum-append f [] b = sym (+ℤ_idl (sum_of f b))
  sum-append f (x ∷ a) b = ap (λ (z : ℤ). f x +ℤ z) (sum-append f a b) ∙ sym (+ℤ_assoc (f x) (sum_of f a) (sum_of f b))

  pub sum_one : (f : A → ℤ) (x : A) → sum_of f (x ∷ []) ≡ f x
  unfolding sum_of
  sum_one f x = +ℤ_idr (f x)

  pub sets_append : (a b l : List A) (i : ℕ) → sets l i (a ++ b) ≡ sets (sets l i a) (i + length a) b
  sets_append [] b l i = ap (λ (k : ℕ). sets l k b) (none i)
    where
      none : (n : ℕ) → n ≡ n + 0
      none n = omega arith
  sets_append (x ∷ a) b l i = sets_append a b (set l i x) (suc i) ∙ ap (λ (k : ℕ). sets (sets (set l i x) (suc i) a) k b) (more i (length a))
    where
      more : (i n : ℕ) → suc i + n ≡ i + suc n
      more i n = omega arith

  -- ---- the same elements in another order

  pub sum_perm : (f : A → ℤ) {a b : List A} → Permᴰ a b → sum_of f a ≡ sum_of f b
  unfolding sum_of
  sum_perm f Permᴰ.nil = refl
  sum_perm f (Permᴰ.cons e p) = cc (ap f e, sum_perm f p)
  sum_perm f (Permᴰ.swap {a} {b} {a'} {b'} {l} e g) =
      swapped (f a) (f b) (sum_of f l) ∙ cc (ap f e, ap f g)
  sum_perm f (Permᴰ.trans p q) = sum_perm f p ∙ sum_perm f q

  pub count_perm : (p : A → Bool) {a b : List A} → Permᴰ a b → count p a ≡ count p b
  unfolding count
  count_perm f Permᴰ.nil = refl
  count_perm f (Permᴰ.cons e p) = cc (ap f e, count_perm f p)
  count_perm f (Permᴰ.swap {a} {b} {a'} {b'} {l} e g) =
      go (cond (f a) 1 0) (cond (f b) 1 0) (count f l) ∙ cc (ap f e, ap f g)
    where
      go : (x y z : ℕ) → x + (y + z) ≡ y + (x + z)
      go x y z = omega arith
  count_perm f (Permᴰ.trans p q) = count_perm f p ∙ count_perm f q

  pub those_perm : (p : A → Bool) {a b : List A} → Permᴰ a b → Permᴰ (those p a) (those p b)
  unfolding those
  those_perm f Permᴰ.nil = Permᴰ.nil
  those_perm f (Permᴰ.cons {a} {b} {l₁} {l₂} e p) = go (f a) (f b) (ap f e) (those_perm f p)
    where
      go : (s t : Bool) → s ≡ t → Permᴰ (those f l₁) (those f l₂) → Permᴰ (cond s (a ∷ those f l₁) (those f l₁)) (cond t (b ∷ those f l₂) (those f l₂))
      go true true h q = Permᴰ.cons e q
      go false false h q = q
      go true false h q = absurd (true≢false h)
      go false true h q = absurd (true≢false (sym h))
  those_perm f (Permᴰ.swap {a} {b} {a'} {b'} {l} e g) = rw (← e, ← g) (go (f a) (f b))
    where
      go : (s t : Bool)
          → Permᴰ (cond s (a ∷ cond t (b ∷ those f l) (those f l)) (cond t (b ∷ those f l) (those f l)))
          (cond t (b ∷ cond s (a ∷ those f l) (those f l)) (cond s (a ∷ those f l) (those f l)))
      go true true = Permᴰ.swap refl refl
      go true false = Permᴰ.refl (a ∷ those f l)
      go false true = Permᴰ.refl (b ∷ those f l)
      go false false = Permᴰ.refl (those f l)
  those_perm f (Permᴰ.trans p q) = Permᴰ.trans (those_perm f p) (those_perm f q)
