-- A list without a NaN, on plain lists. Assumes nothing.
use mathlib.Core.Path.{◌≡◌, refl, sym, ap, ◌∙◌, subst}
use mathlib.Core.Bool.{Bool, true, false, not, ◌&&◌}
use mathlib.Core.List.{List, [], ◌∷◌}
use Prim.Native.Nat.{ℕ, zero, suc, ◌+◌, ◌≤◌, ◌<◌}
use native.Mathlib.Numerals.{add-one}
use native.Mathlib.Omega.{arith}
use lib.Dec.{T}
use lib.ListN.{length, get_or, drop}
use lib.Seq.{drop-cons, drop-length}
use borrow.Author.Tests.{le-leb, lt-leb}
use lib.Ieee.{Float, Format, nan, inf, fin, is_nan, eq, of_bits}
use Rattle.order.specs.Order.{Numbers, kth}
use Rattle.bench.specs.Select.{selfsame, numbers, selected}

and_assoc : (a b c : Bool) → (a && b) && c ≡ a && (b && c)
and_assoc true b c = refl
and_assoc false b c = refl

and_true : (a : Bool) → a && true ≡ a
and_true true = refl
and_true false = refl

rest : (a b : Bool) → a && b ≡ true → b ≡ true
rest true b e = e
rest false b e = absurd (subst (λ (t : Bool). T (not t)) e tt)

-- a turn of the loop that looks at each element, and its end
module _ {A : Type 0} (same : A → A → Bool) (ok : Bool) (l : List A) (i : ℕ) (w : Bool) (p : ok && selfsame same (drop i l) ≡ w) where
  pub turn : (x : A) → i < length l → x ≡ get_or l i x → (ok && same x x) && selfsame same (drop (i + 1) l) ≡ w
  unfolding selfsame
  turn x h e =
      let d : drop i l ≡ x ∷ drop (suc i) l = drop-cons l i x h ∙ ap (λ (y : A). y ∷ drop (suc i) l) (sym e) in
      rw (add-one i) (and_assoc ok (same x x) (selfsame same (drop (suc i) l)) ∙ rw d at p)

  pub end : i ≡ length l → ok ≡ w
  unfolding selfsame
  end e = sym (and_true ok) ∙ rw (e, drop-length l) at p

-- of floats
pub numbers_are : (l : List Float) → selfsame eq l ≡ numbers l
unfolding selfsame numbers
numbers_are [] = refl
numbers_are (x ∷ l) = ap (λ (b : Bool). eq x x && b) (numbers_are l)

pub none_nan : (l : List Float) → numbers l ≡ true → Numbers l
unfolding numbers eq is_nan
none_nan [] e i h = absurd (omega arith)
none_nan (nan ∷ l) e i h = absurd (subst (λ (t : Bool). T (not t)) e tt)
none_nan (inf s ∷ l) e zero h = tt
none_nan (fin s m k ∷ l) e zero h = tt
none_nan (inf s ∷ l) e (suc i) h = none_nan l (rest (eq (inf s) (inf s)) (numbers l) e) i (omega arith)
none_nan (fin s m k ∷ l) e (suc i) h = none_nan l (rest (eq (fin s m k) (fin s m k)) (numbers l) e) i (omega arith)

-- the answer, case by case
module _ (f : Format) (l : List Float) (k : ℕ) where
  pub past : length l ≤ k → of_bits f 0 ≡ selected f l k
  past h = simp (le-leb _ _ h)

  module _ (h : k < length l) where
    pub no_number : numbers l ≡ false → of_bits f 0 ≡ selected f l k
    no_number e = simp (lt-leb _ _ h, e)

    pub answered : numbers l ≡ true → kth f l k ≡ selected f l k
    answered e = simp (lt-leb _ _ h, e)
