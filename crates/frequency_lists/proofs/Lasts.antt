-- The last element of a list, as `last` finds it. Assumes nothing.
use Rattle.std.proofs.Common.{◌≡◌, ◌-◌, not, T, List, [], ◌∷◌, map, length, Option, None, Some, refl, sym, ap, ◌∙◌, subst, arith}
use Rattle.std.specs.List.{slice_get}
use Rattle.std.specs.Option.{option_map, is_some, unwrap_or}
use Rattle.std.proofs.lemmas.Option.{slice_get-get_or}
use Rattle.frequency_lists.specs.Lists.{last_or}

pub none_some : {A : Type 0} {x : A} → None ≡ Some x → ⊥
none_some {A} e = subst (λ (o : Option A). T (not (is_some o))) e tt

module _ {A B : Type 0} (f : A → B) where
  last_is : (d : B) (x : A) (l : List A) (y : A) → Some y ≡ slice_get (x ∷ l) (length l) → last_or d (map f (x ∷ l)) ≡ f y
  unfolding last_or
  last_is d x [] y e = sym (ap (λ (o : Option A). f (unwrap_or o x)) e)
  last_is d x (z ∷ l) y e = last_is (f x) z l y e

  pub last_none : {P : Type 0} (now : P → A) (d : B) (o : Option P) (l : List A) → option_map now o ≡ slice_get l (length l - 1) → o ≡ None → d ≡ last_or d (map f l)
  unfolding last_or
  last_none now d o [] e n = refl
  last_none now d o (x ∷ l) e n = absurd (none_some (sym (ap (option_map now) n) ∙ e ∙ slice_get-get_or (x ∷ l) (length (x ∷ l) - 1) x (omega arith)))

  pub last_some : {P : Type 0} (now : P → A) (d : B) (o : Option P) (l : List A) → option_map now o ≡ slice_get l (length l - 1) → (p : P) → o ≡ Some p → f (now p) ≡ last_or d (map f l)
  last_some now d o [] e p s = absurd (none_some (sym e ∙ ap (option_map now) s))
  last_some now d o (x ∷ l) e p s =
      let n : length (x ∷ l) - 1 ≡ length l = omega arith in
      sym (last_is d x l (now p) (sym (ap (option_map now) s) ∙ e ∙ ap (slice_get (x ∷ l)) n))
