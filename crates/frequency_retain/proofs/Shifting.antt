-- Places moved to the front together, and the marks of a list whose leading elements alone go. Assumes nothing.
use mathlib.Core.Path.{◌≡◌, refl, sym, ap, ◌∙◌, subst}
use mathlib.Core.Bool.{Bool, true, false}
use mathlib.Core.List.{List, [], ◌∷◌, ◌++◌, map}
use Prim.Native.Nat.{ℕ, zero, suc, ◌+◌, ◌-◌, ◌≤◌, ◌<◌}
use native.Mathlib.Omega.{arith}
use lib.Dec.{T}
use lib.ListN.{length, take, drop, get_or}
use lib.Seq.{take-nil}
use Rattle.frequency_lists.specs.Marks.{marked, retained, gathered}
use Rattle.frequency_lists.proofs.Gather.{marked-le}
use Rattle.frequency_retain.specs.Retain.{moved}

-- ---- the marks
all_marked : {A : Type 0} (bs : List Bool) (l : List A) → marked bs ≡ length bs → retained bs l ≡ take (length bs) l
unfolding marked retained
all_marked [] l e = refl
all_marked (b ∷ bs) [] e = refl
all_marked {A} (true ∷ bs) (x ∷ l) e = ap (λ (z : List A). x ∷ z) (all_marked bs l (omega arith))
all_marked (false ∷ bs) (x ∷ l) e = let h = marked-le bs in absurd (omega arith)

late-marked : {A : Type 0} (k : ℕ) (bs : List Bool) (l : List A) → ((i : ℕ) → i < k → get_or bs i false ≡ false) → k + marked bs ≡ length bs → retained bs l ≡ take (marked bs) (drop k l)
unfolding marked retained
late-marked zero bs l f e = let z : length bs ≡ marked bs = omega arith in all_marked bs l (omega arith) ∙ ap (λ (n : ℕ). take n l) z
late-marked (suc k) [] l f e = absurd (omega arith)
late-marked (suc k) (b ∷ bs) [] f e = sym (take-nil (marked (b ∷ bs)))
late-marked (suc k) (true ∷ bs) (x ∷ l) f e = absurd (no (f 0 (omega arith)))
  where
    no : true ≡ false → ⊥
    no p = subst T p tt
late-marked (suc k) (false ∷ bs) (x ∷ l) f e = late-marked k bs l (λ i h. f (suc i) (omega arith)) (omega arith)

-- the first k go and all others stay
pub split-marks : (k : ℕ) (bs : List Bool) → k ≤ length bs → ((i : ℕ) → i < k → get_or bs i false ≡ false) → ((i : ℕ) → k ≤ i → i < length bs → get_or bs i false ≡ true) → k + marked bs ≡ length bs
unfolding marked
split-marks zero [] h f g = refl
split-marks zero (b ∷ bs) h f g = rw (g 0 (omega arith) (omega arith)) (let z = split-marks zero bs (omega arith) (λ i k. absurd (omega arith)) (λ i k l. g (suc i) (omega arith) (omega arith)) in omega arith)
split-marks (suc k) [] h f g = absurd (omega arith)
split-marks (suc k) (b ∷ bs) h f g = rw (f 0 (omega arith)) (let z = split-marks k bs (omega arith) (λ i j. f (suc i) (omega arith)) (λ i j l. g (suc i) (omega arith) (omega arith)) in omega arith)

-- where the first k go and all others stay, those are moved to the front
pub gathered-late : {A : Type 0} (k : ℕ) (bs : List Bool) (l : List A) → ((i : ℕ) → i < k → get_or bs i false ≡ false) → k + marked bs ≡ length bs → gathered bs l l ≡ moved k (length bs - k) l
unfolding gathered
gathered-late {A} k bs l f e =
    let m : marked bs ≡ length bs - k = omega arith in
    ap (λ (z : List A). z ++ drop (marked bs) l) (late-marked k bs l f e) ∙ ap (λ (n : ℕ). take n (drop k l) ++ drop n l) m

-- two tests that agree on each element make the same marks
pub same_marks : (p q : ℕ → Bool) (l : List ℕ) → ((i : ℕ) → i < length l → p (get_or l i 0) ≡ q (get_or l i 0)) → map p l ≡ map q l
same_marks p q [] f = refl
same_marks p q (x ∷ l) f = rw (f 0 (omega arith)) (ap (λ (z : List Bool). q x ∷ z) (same_marks p q l (λ i h. f (suc i) (omega arith))))
