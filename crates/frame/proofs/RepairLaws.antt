-- The first repair that passes: place by place, where it lies, and which places matter. Assumes nothing.
use Rattle.std.proofs.Common.{Option, None, Some}
use mathlib.Core.Path.{◌≡◌, refl, sym, ap, ap₂, ◌∙◌, subst}
use mathlib.Core.Bool.{Bool, true, false, cond}
use mathlib.Core.List.{List, [], ◌∷◌}
use Prim.Native.Nat.{ℕ, zero, suc, ◌+◌, ◌≤◌, ◌<◌}
use native.Mathlib.Nat.{suc-add, add-suc}
use native.Mathlib.Omega.{arith}
use native.Mathlib.Numerals.{add-one}
use lib.Dec.{ltb}
use lib.ListN.{length, drop, get_or, drop_of_length-le}
use lib.Seq.{drop-cons}
use borrow.Author.Tests.{lt-ltb}
use Rattle.frame.specs.Repairs.{repairs, first_of}
use Rattle.frame.specs.Splices.{placed, place}
use Rattle.frame.specs.declared.Repair.{Repair}
use Rattle.frame.specs.declared.Repair.TheVariants.{Inserted, Deleted, Flipped}

-- ---- the four at a place, in their order

-- one of the four, or what comes after
abbrev next : Bool → Bool → Bool → Bool → ℕ → Option Repair → Option Repair
next a b c d i r = cond a (Some (Inserted true i)) (cond b (Some (Inserted false i)) (cond c (Some (Deleted i)) (cond d (Some (Flipped i)) r)))

not_some : (how : Repair) → None ≡ Some how → ⊥
not_some how e = let z : ◌≡◌ {A = Bool} true false = ap some e in let w : ◌≡◌ {A = ℕ} 0 1 = cc in omega arith
  where
    some : Option Repair → Bool
    some None = true
    some (Some h) = false

abbrev pub tries : ℕ → List Repair
tries i = Inserted true i ∷ Inserted false i ∷ Deleted i ∷ Flipped i ∷ []

pub tries_there : (i j : ℕ) (d : Repair) → j < 4 → place (get_or (tries i) j d) ≡ i
tries_there i zero d h = refl
tries_there i (suc zero) d h = refl
tries_there i (suc (suc zero)) d h = refl
tries_there i (suc (suc (suc zero))) d h = refl
tries_there i (suc (suc (suc (suc j)))) d h = absurd (omega arith)

-- one of a list by the other
module _ (ok : Repair → Bool) (l : List Repair) (j : ℕ) (d : Repair) (h : j < length l) where
  pub first_here : ok (get_or l j d) ≡ true → Some (get_or l j d) ≡ first_of ok (drop j l)
  unfolding first_of
  first_here e = let r = first_of ok (drop (suc j) l) in
      ap (λ (b : Bool). cond b (Some (get_or l j d)) r) (sym e) ∙ sym (ap (first_of ok) (drop-cons l j d h))

  pub first_after : ok (get_or l j d) ≡ false → first_of ok (drop (j + 1) l) ≡ first_of ok (drop j l)
  unfolding first_of
  first_after e = let r = first_of ok (drop (suc j) l) in
      ap (λ (k : ℕ). first_of ok (drop k l)) (add-one j)
      ∙ ap (λ (b : Bool). cond b (Some (get_or l j d)) r) (sym e) ∙ sym (ap (first_of ok) (drop-cons l j d h))

pub first_past : (ok : Repair → Bool) (l : List Repair) (j : ℕ) → length l ≤ j → None ≡ first_of ok (drop j l)
unfolding first_of
first_past ok l j h = sym (ap (first_of ok) (drop_of_length-le l {i = j} h))

-- those at a place, then those at the places after it
module _ (ok : Repair → Bool) (n i : ℕ) where
  pub at_place : (how : Repair) → first_of ok (repairs 1 i) ≡ Some how → Some how ≡ first_of ok (repairs (suc n) i)
  unfolding first_of repairs
  at_place how = go (ok (Inserted true i)) (ok (Inserted false i)) (ok (Deleted i)) (ok (Flipped i))
    where
      go : (a b c d : Bool) → next a b c d i None ≡ Some how → Some how ≡ next a b c d i (first_of ok (repairs n (suc i)))
      go true b c d e = sym e
      go false true c d e = sym e
      go false false true d e = sym e
      go false false false true e = sym e
      go false false false false e = absurd (not_some how e)

  pub past_place : first_of ok (repairs 1 i) ≡ None → first_of ok (repairs n (i + 1)) ≡ first_of ok (repairs (suc n) i)
  unfolding first_of repairs
  past_place e = ap (λ (j : ℕ). first_of ok (repairs n j)) (add-one i) ∙ go (ok (Inserted true i)) (ok (Inserted false i)) (ok (Deleted i)) (ok (Flipped i)) e
    where
      go : (a b c d : Bool) → next a b c d i None ≡ None → first_of ok (repairs n (suc i)) ≡ next a b c d i (first_of ok (repairs n (suc i)))
      go true b c d e = absurd (not_some (Inserted true i) (sym e))
      go false true c d e = absurd (not_some (Inserted false i) (sym e))
      go false false true d e = absurd (not_some (Deleted i) (sym e))
      go false false false true e = absurd (not_some (Flipped i) (sym e))
      go false false false false e = refl

pub first_none : (ok : Repair → Bool) (n i : ℕ) → n ≡ 0 → None ≡ first_of ok (repairs n i)
unfolding first_of repairs
first_none ok n i e = sym (ap (λ (k : ℕ). first_of ok (repairs k i)) e)

-- ---- where it lies

pub first_placed : (ok : Repair → Bool) (n i : ℕ) → placed (first_of ok (repairs n i)) (i + n) ≡ true
unfolding first_of repairs placed
first_placed ok zero i = refl
first_placed ok (suc n) i =
    go (ok (Inserted true i)) (ok (Inserted false i)) (ok (Deleted i)) (ok (Flipped i))
    (subst (λ (m : ℕ). placed (first_of ok (repairs n (suc i))) m ≡ true) (suc-add i n ∙ sym (add-suc i n)) (first_placed ok n (suc i)))
  where
    here : ltb i (i + suc n) ≡ true
    here = lt-ltb i (i + suc n) (omega arith)

    go : (a b c d : Bool) → placed (first_of ok (repairs n (suc i))) (i + suc n) ≡ true
        → placed (next a b c d i (first_of ok (repairs n (suc i)))) (i + suc n) ≡ true
    go true b c d r = here
    go false true c d r = here
    go false false true d r = here
    go false false false true r = here
    go false false false false r = r

pub first_below : (ok : Repair → Bool) (n : ℕ) → placed (first_of ok (repairs n 0)) n ≡ true
first_below ok n = ap (placed (first_of ok (repairs n 0))) (let e : n ≡ 0 + n = omega arith in e) ∙ first_placed ok n 0

-- ---- which places matter

-- two tests agree on the four at a place
abbrev pub Same : (Repair → Bool) → (Repair → Bool) → ℕ → Type 0
Same f g i = (f (Inserted true i) ≡ g (Inserted true i)) × (f (Inserted false i) ≡ g (Inserted false i)) × (f (Deleted i) ≡ g (Deleted i)) × (f (Flipped i) ≡ g (Flipped i))

next_same : {a b c d e f g h : Bool} (i : ℕ) {r s : Option Repair} → a ≡ e → b ≡ f → c ≡ g → d ≡ h → r ≡ s → next a b c d i r ≡ next e f g h i s
next_same {a} {b} {c} {d} {e} {f} {g} {h} i {r} {s} p q u v w =
    ap (λ (x : Bool). next x b c d i r) p ∙ ap (λ (x : Bool). next e x c d i r) q ∙ ap (λ (x : Bool). next e f x d i r) u ∙ ap (λ (x : Bool). next e f g x i r) v
    ∙ ap (λ (x : Option Repair). next e f g h i x) w

pub agree : (f g : Repair → Bool) (n i : ℕ) → ((j : ℕ) → i ≤ j → j < i + n → Same f g j) → first_of f (repairs n i) ≡ first_of g (repairs n i)
unfolding first_of repairs
agree f g zero i s = refl
agree f g (suc n) i s =
    let t = s i (omega arith) (omega arith) in
    next_same i t.0 t.1 t.2 t.3 (agree f g n (suc i) (λ j a b. s j (omega arith) (omega arith)))

pub none_passes : (n i : ℕ) → first_of (λ how. false) (repairs n i) ≡ None
unfolding first_of repairs
none_passes zero i = refl
none_passes (suc n) i = none_passes n (suc i)

-- places after the first a that give none may be left out
pub first_few : (f : Repair → Bool) (a b i : ℕ) → first_of f (repairs b (i + a)) ≡ None → first_of f (repairs (a + b) i) ≡ first_of f (repairs a i)
unfolding first_of repairs
first_few f zero b i e = ap₂ (λ (n j : ℕ). first_of f (repairs n j)) (let z : 0 + b ≡ b = omega arith in z) (let z : i ≡ i + 0 = omega arith in z) ∙ e
first_few f (suc a) b i e =
    ap (λ (n : ℕ). first_of f (repairs n i)) (suc-add a b)
    ∙ ap (next (f (Inserted true i)) (f (Inserted false i)) (f (Deleted i)) (f (Flipped i)) i)
    (first_few f a b (suc i) (ap (λ (j : ℕ). first_of f (repairs b j)) (let z : suc i + a ≡ i + suc a = omega arith in z) ∙ e))
