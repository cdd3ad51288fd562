-- Samples by pairs: the lower of two against the lowest level, the higher against the highest. Assumes nothing.
use mathlib.Core.Path.{◌≡◌, refl, sym, ap, ◌∙◌}
use mathlib.Core.Bool.{Bool, true, false, ◌&&◌}
use mathlib.Core.List.{List, [], ◌∷◌, ◌++◌}
use Prim.Native.Nat.{ℕ, suc, ◌+◌, ◌<◌}
use native.Mathlib.Numerals.{add-one}
use native.Mathlib.Omega.{arith}
use lib.ListN.{length, get_or, take, drop, length-drop, take-append-drop}
use lib.Seq.{take-suc, drop-cons, drop-length, drop-drop, get_or-drop}
use lib.Ieee.{Float, nan, lt, le}
use Rattle.floats.proofs.OrderLaws.{le-chain, lt-le, not_lt}
use Rattle.limits.specs.Limits.{lowest_dbm, highest_dbm}
use Rattle.limits.specs.Samples.{is_dbm, all_dbm}
use Rattle.limits.proofs.Samples.{and_assoc, and_true}

-- ---- two samples

squeeze : (p q r s : Bool) → (p ≡ true → s ≡ true → (q ≡ true) × (r ≡ true)) → p && s ≡ (p && q) && (r && s)
squeeze false q r s f = refl
squeeze true q r true f = let h = f refl refl in rw (h.0, h.1) refl
squeeze true true true false f = refl
squeeze true true false false f = refl
squeeze true false r false f = refl

and_comm : (a b : Bool) → a && b ≡ b && a
and_comm true true = refl
and_comm true false = refl
and_comm false true = refl
and_comm false false = refl

pub two_less : (a b : Float) → lt a b ≡ true → le lowest_dbm a && le b highest_dbm ≡ is_dbm a && is_dbm b
two_less a b e =
    squeeze (le lowest_dbm a) (le a highest_dbm) (le lowest_dbm b) (le b highest_dbm)
    (λ p q. (le-chain a b highest_dbm (lt-le a b e) q, le-chain lowest_dbm a b p (lt-le a b e)))

pub two_more : (a b : Float) → lt a b ≡ false → le lowest_dbm b && le a highest_dbm ≡ is_dbm a && is_dbm b
two_more a b e =
    squeeze (le lowest_dbm b) (le b highest_dbm) (le lowest_dbm a) (le a highest_dbm)
    (λ p q. let h = not_lt a b lowest_dbm highest_dbm p q e in (le-chain b a highest_dbm h q, le-chain lowest_dbm b a p h))
    ∙ and_comm (is_dbm b) (is_dbm a)

-- ---- a slice by halves

all_join : (l k : List Float) → all_dbm (l ++ k) ≡ all_dbm l && all_dbm k
unfolding all_dbm
all_join [] k = refl
all_join (x ∷ l) k = ap (λ (t : Bool). is_dbm x && t) (all_join l k) ∙ sym (and_assoc (is_dbm x) (all_dbm l) (all_dbm k))

all_one : (x : Float) → all_dbm (x ∷ []) ≡ is_dbm x
unfolding all_dbm
all_one x = and_true (is_dbm x)

all_none : all_dbm [] ≡ true
unfolding all_dbm
all_none = refl

-- the first i of both halves
abbrev pub seen : List Float → ℕ → ℕ → Bool
seen l half i = all_dbm (take i l) && all_dbm (take i (drop half l))

pub seen_none : (l : List Float) (half : ℕ) → true ≡ seen l half 0
unfolding all_dbm
seen_none l half = refl

shuffle : (a b x y : Bool) → (a && b) && (x && y) ≡ (a && x) && (b && y)
shuffle false b x y = refl
shuffle true false true y = refl
shuffle true false false y = refl
shuffle true true x y = refl

next : (l : List Float) (i : ℕ) → i < length l → all_dbm (take i l) && is_dbm (get_or l i nan) ≡ all_dbm (take (i + 1) l)
next l i h =
    rw (add-one i, take-suc l i nan h) (sym (all_join (take i l) (get_or l i nan ∷ []) ∙ ap (λ (t : Bool). all_dbm (take i l) && t) (all_one (get_or l i nan))))

pub pairs_turn : (l : List Float) (half i : ℕ) (ok r : Bool) → i + half < length l → r ≡ is_dbm (get_or l i nan) && is_dbm (get_or l (i + half) nan)
    → ok ≡ seen l half i → ok && r ≡ seen l half (i + 1)
pairs_turn l half i ok r h e p =
    let k : i < length (drop half l) = omega (arith, length-drop half l) in
    let g : get_or (drop half l) i nan ≡ get_or l (i + half) nan = get_or-drop half l i nan ∙ ap (λ (j : ℕ). get_or l j nan) (omega arith) in
    rw (p, e, ← g)
    (shuffle (all_dbm (take i l)) (all_dbm (take i (drop half l))) (is_dbm (get_or l i nan)) (is_dbm (get_or (drop half l) i nan))
    ∙ rw (next l i (omega arith), next (drop half l) i k) refl)

split : (l : List Float) (n : ℕ) → all_dbm l ≡ all_dbm (take n l) && all_dbm (drop n l)
split l n = sym (ap all_dbm (take-append-drop n l)) ∙ all_join (take n l) (drop n l)

-- both halves, and what is left
halves : (l : List Float) (half : ℕ) → all_dbm l ≡ seen l half half && all_dbm (drop (half + half) l)
halves l half =
    split l half
    ∙ ap (λ (t : Bool). all_dbm (take half l) && t) (split (drop half l) half)
    ∙ sym (and_assoc (all_dbm (take half l)) (all_dbm (take half (drop half l))) (all_dbm (drop half (drop half l))))
    ∙ rw (drop-drop half half l) refl

pub pairs_even : (l : List Float) (half i : ℕ) (ok : Bool) → i ≡ half → half + half ≡ length l → ok ≡ seen l half i → ok ≡ all_dbm l
pairs_even l half i ok d h p =
    p ∙ rw d refl ∙ sym (and_true (seen l half half)) ∙ sym (halves l half ∙ rw (h, drop-length l, all_none) refl)

pub pairs_odd : (l : List Float) (half i j : ℕ) (ok r : Bool) → i ≡ half → j ≡ half + half → j + 1 ≡ length l → r ≡ is_dbm (get_or l j nan) → ok ≡ seen l half i
    → ok && r ≡ all_dbm l
pairs_odd l half i j ok r d f h e p =
    let k : half + half < length l = omega arith in
    let n : suc (half + half) ≡ length l = sym (add-one (half + half)) ∙ omega arith in
    let s : ok ≡ seen l half half = rw d at p in
    let t : r ≡ is_dbm (get_or l (half + half) nan) = rw f at e in
    sym (halves l half ∙ rw (drop-cons l (half + half) nan k, n, drop-length l, all_one (get_or l (half + half) nan), ← s, ← t) refl)
