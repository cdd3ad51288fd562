-- The bits of all differences to a number, and what they say of each. Assumes nothing.
use Rattle.std.proofs.Common.{◌≡◌, ℕ, suc, ◌+◌, ◌-◌, ◌%◌, ◌^◌, ◌<◌, ◌≤◌, Bool, true, false, ltb, leb, List, [], ◌∷◌, length, get_or, refl, sym, ◌∙◌, subst, arith, ltb-false, ltb-true, le-leb}
use Rattle.std.specs.List.{list_all}
use lib.Bits.{bit_or, or_add_and, and_le_l, and_le_r}
use Rattle.std.proofs.lemmas.List.Folds.{list_all-map}
use Rattle.frequency_lists.specs.declared.Reading.{Reading}
use Rattle.frequency_lists.specs.Lists.{read_up_to, Reaches, ReachesAll, ats}

or_left : (a b : ℕ) → a ≤ bit_or a b
or_left a b = omega (arith, or_add_and a b, and_le_r a b)

or_right : (a b : ℕ) → b ≤ bit_or a b
or_right a b = omega (arith, or_add_and a b, and_le_l a b)

-- what some bits reach, more bits do
pub reaches_left : (low r s a : ℕ) → Reaches low r a → Reaches low (bit_or r s) a
reaches_left low r s a f = let o = or_left r s in (omega (arith, f.0), λ m. f.1 (omega arith))

pub reaches_right : (low r s a : ℕ) → Reaches low s a → Reaches low (bit_or r s) a
reaches_right low r s a f = let o = or_right r s in (omega (arith, f.0), λ m. f.1 (omega arith))

-- low and r reach the first i indices
abbrev pub Reached : ℕ → ℕ → List ℕ → ℕ → Type 0
Reached low r l i = (j : ℕ) → j < i → Reaches low r (get_or l j 0)

-- and the next one, by the bits of its difference
pub reach_more : (l : List ℕ) (low r d i : ℕ) → low < 2 ^ 64 → d < 2 ^ 64 → (d + low) % 2 ^ 64 ≡ get_or l i 0 → Reached low r l i → Reached low (bit_or r d) l (i + 1)
reach_more l low r d i L D e f j h = go (ltb j i) (ltb-true j i) (ltb-false j i)
  where
    go : (t : Bool) → (t ≡ true → j < i) → (t ≡ false → i ≤ j) → Reaches low (bit_or r d) (get_or l j 0)
    go true p q =
        let g = f j (p refl) in
        let o = or_left r d in
        (omega (arith, g.0), λ m. g.1 (omega arith))
    go false p q =
        let same : i ≡ j = omega (arith, q refl) in
        let o = or_right r d in
        subst (λ (z : ℕ). Reaches low (bit_or r d) (get_or l z 0)) same (omega arith, λ k. omega arith)

list_all_lem : {A : Type 0} (p : A → Bool) (l : List A) (d : A) → ((i : ℕ) → i < length l → p (get_or l i d) ≡ true) → list_all p l ≡ true
list_all_lem p [] d f = refl
list_all_lem p (x ∷ l) d f = rw (f 0 (omega arith)) (list_all_lem p l d (λ i h. f (suc i) (omega arith)))

pub read_up_to_all : (limit : ℕ) (l : List Reading) → ((i : ℕ) → i < length (ats l) → get_or (ats l) i 0 ≤ limit) → read_up_to limit l ≡ true
read_up_to_all limit l f = sym (list_all-map (λ (a : ℕ). leb a limit) (λ (x : Reading). x.at) l) ∙ list_all_lem (λ (a : ℕ). leb a limit) (ats l) 0 (λ i h. le-leb (get_or (ats l) i 0) limit (f i h))

-- differences that all lie within limit - low
pub reached : (l : List Reading) (low r limit : ℕ) → low ≤ limit → r ≤ limit - low → ReachesAll low r (ats l) → read_up_to limit l ≡ true
reached l low r limit L R f = read_up_to_all limit l (λ i k. let z = (f i k).0 in omega arith)
