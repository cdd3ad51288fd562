-- One turn of a retention in place, on a list. Assumes nothing.
use mathlib.Core.Path.{◌≡◌, refl, sym, ap, ◌∙◌, subst}
use mathlib.Core.Bool.{Bool, true, false, cond}
use mathlib.Core.List.{List, [], ◌∷◌, map}
use Prim.Native.Nat.{ℕ, zero, suc, ◌+◌, ◌≤◌, ◌<◌}
use native.Mathlib.Nat.{le_of_suc-le-suc}
use native.Mathlib.Numerals.{add-one}
use native.Mathlib.Omega.{arith}
use lib.Dec.{eqb, eqb-suc-suc, eqb-zero-suc}
use lib.ListN.{length, take, get_or, length-map}
use lib.Seq.{take_all}
use Rattle.frequency_lists.specs.declared.Reading.{Reading}
use Rattle.frequency_lists.specs.declared.Tuning.{Tuning}
use Rattle.frequency_lists.specs.Lists.{ats, tuneds}
use Rattle.frequency_lists.specs.Marks.{marked, retained, gathered, put}
use Rattle.frequency_retain.specs.Retain.{Compacted}
use Rattle.frequency_retain.specs.Retain.{stays}
use Rattle.frequency_signal.specs.Seconds.{kept}
use Rattle.frequency_lists.proofs.Gather.{marked_turn, marked-upto, gathered-turn, gathered-ahead, map_at}

module _ {A : Type 0} (bs : List Bool) (l : List A) (d : A) (short : length bs ≤ length l) where
  pub ahead : (i : ℕ) (cur : List A) → i ≤ length bs → cur ≡ gathered (take i bs) l l → get_or cur i d ≡ get_or l i d
  ahead i cur h e = ap (λ (z : List A). get_or z i d) e ∙ gathered-ahead bs l d i i (omega arith) h short

  pub beyond : (i k : ℕ) (cur : List A) → i ≤ k → i ≤ length bs → cur ≡ gathered (take i bs) l l → get_or cur k d ≡ get_or l k d
  beyond i k cur o h e = ap (λ (z : List A). get_or z k d) e ∙ gathered-ahead bs l d i k o h short

  pub list_turn : (i w : ℕ) (b : Bool) (cur nxt : List A) → i < length bs → get_or bs i false ≡ b → w ≡ marked (take i bs) → cur ≡ gathered (take i bs) l l
      → nxt ≡ put b cur w (get_or cur i d) → nxt ≡ gathered (take (i + 1) bs) l l
  list_turn i w b cur nxt h e m g p =
      let u = marked-upto bs i in
      p ∙ rw (ahead i cur (omega arith) g, m, g) (gathered-turn bs l l d i b h short (omega arith) e)

  -- one turn: the element at i is put at the next place if it is marked
  pub compact_turn : (i w r : ℕ) (b : Bool) (cur nxt : List A) → i < length bs → get_or bs i false ≡ b → Compacted (take i bs) l w cur
      → r ≡ cond b (w + 1) w → nxt ≡ put b cur w (get_or cur i d) → Compacted (take (i + 1) bs) l r nxt
  compact_turn i w r b cur nxt h e p n q = record {
    count = n ∙ ap (λ (z : ℕ). cond b (z + 1) z) p.count ∙ sym (marked_turn bs i b h e);
    list = list_turn i w b cur nxt h e p.count p.list q;
  }

pub all_done : {A : Type 0} (bs : List Bool) (l : List A) (i w : ℕ) (cur : List A) → length bs ≤ i → Compacted (take i bs) l w cur → Compacted bs l w cur
all_done bs l i w cur h p = subst (λ (z : List Bool). Compacted z l w cur) (take_all i bs h) p

-- the next place is not past the element
pub upto : {A : Type 0} (bs : List Bool) (l : List A) (i w : ℕ) (cur : List A) → Compacted (take i bs) l w cur → w ≤ i
upto bs l i w cur p = let e = p.count in let m = marked-upto bs i in omega arith

-- nothing is marked yet
pub none_yet : {A : Type 0} (l : List A) → Compacted [] l 0 l
unfolding marked gathered retained
none_yet l = record { count = refl; list = refl }

-- the mark of a reading
pub mark_is : (rate n : ℕ) (l : List Reading) (i : ℕ) (d : Reading) → i < length l → get_or (map (kept rate n) (ats l)) i false ≡ kept rate n (get_or l i d).at
mark_is rate n l i d h =
    map_at (kept rate n) (ats l) i 0 false (subst (λ (z : ℕ). i < z) (sym (length-map l (λ (x : Reading). x.at))) h)
    ∙ ap (kept rate n) (map_at (λ (x : Reading). x.at) l i d 0 h)

pub marks-size : (rate n : ℕ) (l : List Reading) → length (map (kept rate n) (ats l)) ≡ length l
marks-size rate n l = length-map (ats l) (kept rate n) ∙ length-map l (λ (x : Reading). x.at)

-- ---- the tunings
pub length-stays : (rate n : ℕ) (l : List ℕ) → length (stays rate n l) ≡ length l
unfolding stays
length-stays rate n [] = refl
length-stays rate n (a ∷ []) = refl
length-stays rate n (a ∷ b ∷ l) = ap suc (length-stays rate n (b ∷ l))

stays_at : (rate n : ℕ) (l : List ℕ) (i : ℕ) → i < length l → get_or (stays rate n l) i false ≡ cond (eqb (suc i) (length l)) true (kept rate n (get_or l (suc i) 0))
unfolding stays
stays_at rate n [] i h = absurd (go i h)
  where
    go : (i : ℕ) → i < 0 → ⊥
    go i h = omega arith
stays_at rate n (a ∷ []) zero h = refl
stays_at rate n (a ∷ []) (suc i) h = absurd (go i h)
  where
    go : (i : ℕ) → suc i < 1 → ⊥
    go i h = omega arith
stays_at rate n (a ∷ b ∷ l) zero h = rw (eqb-suc-suc 0 (suc (length l)), eqb-zero-suc (length l)) refl
stays_at rate n (a ∷ b ∷ l) (suc i) h = stays_at rate n (b ∷ l) i (le_of_suc-le-suc h) ∙ rw (eqb-suc-suc (suc i) (suc (length l))) refl

pub stays-size : (rate n : ℕ) (l : List Tuning) → length (stays rate n (tuneds l)) ≡ length l
stays-size rate n l = length-stays rate n (tuneds l) ∙ length-map l (λ (u : Tuning). u.at)

pub stays_is : (rate n : ℕ) (l : List Tuning) (i : ℕ) → i < length l → get_or (stays rate n (tuneds l)) i false ≡ cond (eqb (i + 1) (length l)) true (kept rate n (get_or (tuneds l) (i + 1) 0))
stays_is rate n l i h =
    let e = length-map l (λ (u : Tuning). u.at) in
    stays_at rate n (tuneds l) i (subst (λ (z : ℕ). i < z) (sym e) h) ∙ rw (e, add-one i) refl
