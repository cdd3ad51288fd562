-- Tests of each element, and what they tell of one. Assumes nothing.
use Rattle.std.proofs.Common.{◌≡◌, ℕ, zero, suc, ◌*◌, ◌<◌, ◌≤◌, Bool, true, false, not, T, eqb, leb, List, [], ◌∷◌, map, length, get_or, sym, refl, ◌∙◌, subst, le_of_suc-le-suc, arith, eq-eqb, leb-true}
use Rattle.std.specs.List.{list_all}
use lib.Ieee.{Float, nan, inf, fin, up, down, eq, is_nan}
use Rattle.limits.proofs.Samples.{and_left, and_right}
use Rattle.std.proofs.lemmas.List.Folds.{list_all-map}
use Rattle.frequency_lists.specs.declared.Reading.{Reading}
use Rattle.frequency_lists.specs.declared.Tuning.{Tuning}
use Rattle.frequency_lists.specs.Lists.{last_or, read_up_to, tuned_up_to, ats, tuneds}

pub every_at : {A : Type 0} (p : A → Bool) (l : List A) (d : A) → list_all p l ≡ true → (i : ℕ) → i < length l → p (get_or l i d) ≡ true
every_at p [] d e i h = absurd (omega arith)
every_at p (x ∷ l) d e zero h = and_left (p x) (list_all p l) e
every_at p (x ∷ l) d e (suc i) h = every_at p l d (and_right (p x) (list_all p l) e) i (le_of_suc-le-suc h)

pub read_at : (m : ℕ) (l : List Reading) → read_up_to m l ≡ true → (i : ℕ) → i < length (ats l) → get_or (ats l) i 0 ≤ m
read_at m l e i k = leb-true (get_or (ats l) i 0) m (every_at (λ (a : ℕ). leb a m) (ats l) 0 (list_all-map (λ (a : ℕ). leb a m) (λ (x : Reading). x.at) l ∙ e) i k)

pub tuned_at : (m : ℕ) (l : List Tuning) → tuned_up_to m l ≡ true → (i : ℕ) → i < length (tuneds l) → get_or (tuneds l) i 0 ≤ m
tuned_at m l e i k = leb-true (get_or (tuneds l) i 0) m (every_at (λ (a : ℕ). leb a m) (tuneds l) 0 (list_all-map (λ (a : ℕ). leb a m) (λ (u : Tuning). u.at) l ∙ e) i k)

-- the last of numbers up to n
pub last_small : {A : Type 0} (g : A → ℕ) (n d : ℕ) (l : List A) → d ≤ n → list_all (λ (x : A). leb (g x) n) l ≡ true → last_or d (map g l) ≤ n
unfolding last_or
last_small g n d [] h e = h
last_small {A} g n d (x ∷ l) h e =
    let a = leb (g x) n in
    let b = list_all (λ (y : A). leb (g y) n) l in
    last_small g n (g x) l (leb-true (g x) n (and_left a b e)) (and_right a b e)

same_eq : (m : ℕ) → eqb m m ≡ true
same_eq m = eq-eqb m m refl

-- x == x
pub eq_self : (x : Float) → eq x x ≡ not (is_nan x)
unfolding eq is_nan
eq_self nan = refl
eq_self (inf true) = refl
eq_self (inf false) = refl
eq_self (fin true m e) = rw (same_eq (m * up e * down e)) refl
eq_self (fin false m e) = rw (same_eq (m * up e * down e)) refl

pub told : {b : Bool} → b ≡ true → T b
told e = subst T (sym e) tt
