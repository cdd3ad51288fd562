-- The quick way of a retention: just the leading readings go. Assumes nothing.
use mathlib.Core.Path.{◌≡◌, refl, sym, ap, ◌∙◌, subst}
use mathlib.Core.Bool.{Bool, true, false}
use mathlib.Core.List.{List, map}
use Prim.Native.Nat.{ℕ, ◌+◌, ◌-◌, ◌^◌, ◌≤◌, ◌<◌}
use native.Mathlib.Omega.{arith}
use borrow.Author.Tests.{le-leb, leb-false, ltb-true, ltb-false}
use lib.Dec.{leb, ltb}
use lib.Seq.{take_all}
use lib.ListN.{length, take, drop, get_or, length-map, length-drop}
use Rattle.std.proofs.lemmas.List.{drop-map, get_or-drop}
use Rattle.std.specs.Prelude.{IfSome}
use Rattle.std.specs.Bool.{then_some}
use Rattle.frequency_lists.specs.declared.Reading.{Reading}
use Rattle.frequency_lists.specs.Lists.{Small, Reaches, ReachesAll, ats}
use Rattle.frequency_lists.proofs.Gather.{map_at}
use Rattle.frequency_lists.proofs.Reach.{read_up_to_all}
use Rattle.frequency_signal.specs.Seconds.{kept}
use Rattle.frequency_retain.specs.Retain.{moved, Leads, Looked, Compacted}
use Rattle.frequency_retain.proofs.Shifting.{same_marks, split-marks, gathered-late}

module _ (rate n oldest : ℕ) (l : List Reading) (S : Small (ats l)) (K : (a : ℕ) → a ≤ 2 ^ 41 → kept rate n a ≡ leb oldest a) where
  marks_are : map (kept rate n) (ats l) ≡ map (leb oldest) (ats l)
  marks_are = same_marks (kept rate n) (leb oldest) (ats l) (λ i h. K (get_or (ats l) i 0) (S i h))

  size : length (map (leb oldest) (ats l)) ≡ length l
  size = length-map (ats l) (leb oldest) ∙ length-map l (λ (x : Reading). x.at)

  pub front_goes : (lead : ℕ) → Leads oldest lead (ats l) → (r : ℕ) (l' : List Reading) → r ≡ length l - lead → l' ≡ moved lead (length l - lead) l
      → Compacted (map (kept rate n) (ats l)) l r l'
  front_goes lead L r l' c m =
      let s = size in
      let t = length-map l (λ (x : Reading). x.at) in
      let f = L.leads in
      let at : (i : ℕ) → i < length l → get_or (map (leb oldest) (ats l)) i false ≡ leb oldest (get_or (ats l) i 0) = λ i h. map_at (leb oldest) (ats l) i 0 false (omega arith) in
      let front : (i : ℕ) → i < lead → get_or (map (leb oldest) (ats l)) i false ≡ false = λ i h. at i (omega arith) ∙ L.gone i h in
      let e = split-marks lead (map (leb oldest) (ats l)) (omega arith) front (λ i a b. at i (omega arith) ∙ L.stay i a (omega arith)) in
      subst (λ (b : List Bool). Compacted b l r l') (sym marks_are) (record {
        count = omega arith;
        list = m ∙ sym (gathered-late lead (map (leb oldest) (ats l)) l front e ∙ ap (λ (k : ℕ). moved lead (k - lead) l) s);
      })

-- what `spread` finds past the leading ones
from_lead : (low far lead : ℕ) (l : List Reading) → ReachesAll low far (ats (take (length l - lead) (drop lead l))) → (i : ℕ) → lead ≤ i → i < length (ats l) → Reaches low far (get_or (ats l) i 0)
from_lead low far lead l R i a b =
    let d = drop-map (λ (x : Reading). x.at) lead l in
    let m : lead + (i - lead) ≡ i = omega arith in
    let n = length-drop lead l in
    let t : take (length l - lead) (drop lead l) ≡ drop lead l = take_all (length l - lead) (drop lead l) (omega arith) in
    let e : get_or (ats (drop lead l)) (i - lead) 0 ≡ get_or (ats l) i 0 = ap (λ (z : List ℕ). get_or z (i - lead) 0) (sym d) ∙ get_or-drop lead (ats l) (i - lead) 0 ∙ ap (λ (k : ℕ). get_or (ats l) k 0) m in
    let k = length-map (drop lead l) (λ (x : Reading). x.at) in
    let s = length-map l (λ (x : Reading). x.at) in
    let r = subst (λ (z : List Reading). ReachesAll low far (ats z)) t R in
    subst (λ (z : ℕ). Reaches low far z) e (r (i - lead) (omega arith))

-- what `leading` and `spread` find
pub leads_of : (low lead far : ℕ) (l : List Reading) → lead ≤ length l → ((i : ℕ) → i < lead → leb low (get_or (ats l) i 0) ≡ false) → ReachesAll low far (ats (take (length l - lead) (drop lead l))) → far + low < 2 ^ 64
    → Leads low lead (ats l)
leads_of low lead far l L F R S =
    let t = length-map l (λ (x : Reading). x.at) in
    record { leads = omega arith; gone = F; stay = λ i a b. le-leb low (get_or (ats l) i 0) ((from_lead low far lead l R i a b).1 S) }

pub looked_of : (low limit lead far : ℕ) (l : List Reading) → lead ≤ length l → low ≤ limit → limit < 2 ^ 64 → ((i : ℕ) → i < lead → leb low (get_or (ats l) i 0) ≡ false)
    → ReachesAll low far (ats (take (length l - lead) (drop lead l))) → far ≤ limit - low → Looked low limit lead l
looked_of low limit lead far l L W U F R S = record {
  front = leads_of low lead far l L F R (omega arith);
  within = read_up_to_all limit l (λ i k. go i k (ltb i lead) (ltb-true i lead) (ltb-false i lead));
}
  where
    go : (i : ℕ) → i < length (ats l) → (t : Bool) → (t ≡ true → i < lead) → (t ≡ false → lead ≤ i) → get_or (ats l) i 0 ≤ limit
    go i k true p q = let z = leb-false low (get_or (ats l) i 0) (F i (p refl)) in omega arith
    go i k false p q = let z = (from_lead low far lead l R i (q refl) k).0 in omega arith

-- what holds of a value where a test passes, of what `then_some` makes of them
pub if-then_some : {A : Type 0} (P : A → Type 0) (t : Bool) (x : A) → (t ≡ true → P x) → IfSome (then_some t x) P
if-then_some P true x h = h refl
if-then_some P false x h = tt
