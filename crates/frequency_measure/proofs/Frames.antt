-- The readings of a frame: the last one's receiver frequency, and the frequencies against it. Assumes nothing.
use Rattle.std.proofs.Common.{◌≡◌, ℕ, ◌+◌, ◌≤◌, ◌<◌, Bool, true, false, cond, not, ◌&&◌, List, [], ◌∷◌, ◌++◌, map, length, get_or, take, drop, eqb, leb, None, Some, Option, refl, sym, ap, ◌∙◌, subst, add-one, arith, drop-cons, length-take-le, drop_of_length-le}
use Rattle.std.specs.List as list
use Rattle.std.specs.Option.{unwrap_or}
use Rattle.std.proofs.lemmas.Bool.{le-leb, lt-leb}
use Rattle.std.proofs.lemmas.List.{append-nil, drop-set-lt}
use Rattle.std.proofs.lemmas.Grind.{drop_more_same}
use Rattle.std.proofs.lemmas.List.Folds.{list_all-map}
use lib.Seq.{append_snoc, take-suc-set}
use lib.ListN.{length-set}
use lib.Ieee.{Float, is_nan}
use Rattle.frequency_lists.specs.declared.Reading.{Reading}
use Rattle.frequency_lists.specs.Lists.{last_or, hzs, all_numbers, no_nan}
use Rattle.frequency_lists.proofs.Gather.{every-retained}
use Rattle.frequency_lists.proofs.Lasts.{none_some}
use Rattle.frequency_lists.specs.Marks.{retained, put}
use Rattle.frequency_measure.specs.Gathered.{passing, in_frame, of_frame, los, Front}
use Rattle.frequency_measure.specs.Measured.{fewest, measured, median, inside, first_of, past_of, frame_of, frame_frequency}

-- ---- what is left of a retention, one element on
more : {A : Type 0} (b : Bool) (bs : List Bool) (x : A) (l : List A) → retained (b ∷ bs) (x ∷ l) ≡ cond b (x ∷ retained bs l) (retained bs l)
unfolding retained
more true bs x l = refl
more false bs x l = refl

module _ (p : Reading → Bool) (l : List Reading) where
  abbrev pub left : ℕ → List Reading
  left i = passing p (drop i l)

  left_at : (i : ℕ) (d : Reading) → i < length l → left i ≡ cond (p (get_or l i d)) (get_or l i d ∷ left (i + 1)) (left (i + 1))
  left_at i d h = rw (drop-cons l i d h, add-one i) (more _ _ _ _)

  left_none : (i : ℕ) → length l ≤ i → left i ≡ []
  unfolding retained
  left_none i h = rw (drop_of_length-le l {i = i} h) refl

  -- ---- the last one's receiver frequency
  pub last_turn : (i : ℕ) (d : Reading) (o r : Option ℕ) → i < length l → list.last_or o (los (left i)) ≡ r → list.last_or (cond (p (get_or l i d)) (Some (get_or l i d).lo) o) (los (left (i + 1))) ≡ r
  last_turn i d o r h e = go (p (get_or l i d)) (left (i + 1)) ∙ ap (λ (z : List Reading). list.last_or o (los z)) (sym (left_at i d h)) ∙ e
    where
      go : (b : Bool) (m : List Reading) → list.last_or (cond b (Some (get_or l i d).lo) o) (los m) ≡ list.last_or o (los (cond b (get_or l i d ∷ m) m))
      go true m = refl
      go false m = refl

  pub last_end : (i : ℕ) (o r : Option ℕ) → length l ≤ i → list.last_or o (los (left i)) ≡ r → o ≡ r
  last_end i o r h e = rw (left_none i h) at e

  -- ---- gathering into scratch
  pub record Gathers (old : List Float) (i w : ℕ) (cur : List Float) : Type 0 where
    pub upto : w ≤ i
    pub behind : drop w cur ≡ drop w old
    pub size : length cur ≡ length old
    pub done : take w cur ++ hzs (left i) ≡ hzs (left 0)

  pub gathers_turn : (old : List Float) (i w r : ℕ) (d : Reading) (cur nxt : List Float) → i < length l → length l ≤ length old → Gathers old i w cur
      → r ≡ cond (p (get_or l i d)) (w + 1) w → nxt ≡ put (p (get_or l i d)) cur w (get_or l i d).hz → Gathers old (i + 1) r nxt
  gathers_turn old i w r d cur nxt h k g n q = go (p (get_or l i d)) n q (ap (λ (z : List Reading). take w cur ++ hzs z) (sym (left_at i d h)) ∙ g.done)
    where
      go : (b : Bool) → r ≡ cond b (w + 1) w → nxt ≡ put b cur w (get_or l i d).hz → take w cur ++ hzs (cond b (get_or l i d ∷ left (i + 1)) (left (i + 1))) ≡ hzs (left 0) → Gathers old (i + 1) r nxt
      go true n q e =
          let u = g.upto in
          let s = g.size in
          record {
            upto = omega arith;
            behind = rw (n, q) (drop-set-lt (w + 1) cur w (get_or l i d).hz (omega arith) ∙ drop_more_same cur old w g.behind);
            size = ap length q ∙ length-set cur w (get_or l i d).hz ∙ s;
            done = rw (n, q, add-one w, take-suc-set cur w (get_or l i d).hz (omega arith)) (append_snoc (take w cur) (get_or l i d).hz (hzs (left (i + 1))) ∙ e);
          }
      go false n q e = let u = g.upto in record { upto = omega arith; behind = rw (n, q) g.behind; size = ap length q ∙ g.size; done = rw (n, q) e }

  pub gathers_end : (old : List Float) (i w : ℕ) (cur : List Float) → length l ≤ i → i ≤ length old → Gathers old i w cur → Front (hzs (passing p l)) old w cur
  gathers_end old i w cur h k g =
      let u = g.upto in
      let s = g.size in
      let f : take w cur ≡ hzs (passing p l) = sym (append-nil (take w cur)) ∙ ap (λ (z : List Reading). take w cur ++ hzs z) (sym (left_none i h)) ∙ g.done in
      record { count = sym (length-take-le w cur (omega arith)) ∙ ap length f; fits = omega arith; front = f; behind = g.behind; size = s }

-- retention by one test and then by the other is retention by both
pub passing_both : (p q : Reading → Bool) (l : List Reading) → passing q (passing p l) ≡ passing (λ (x : Reading). p x && q x) l
unfolding retained
passing_both p q [] = refl
passing_both p q (x ∷ l) = go (p x) (passing_both p q l)
  where
    go : (b : Bool) → passing q (passing p l) ≡ passing (λ (x : Reading). p x && q x) l → passing q (retained (b ∷ map p l) (x ∷ l)) ≡ retained ((b && q x) ∷ map (λ (x : Reading). p x && q x) l) (x ∷ l)
    go true e = more (q x) _ x _ ∙ ap (λ (z : List Reading). cond (q x) (x ∷ z) z) e ∙ sym (more (q x) _ x l)
    go false e = e

-- ---- a frame of readings, by its parts
last_is : (a : ℕ) (l : List ℕ) → list.last_or (Some a) l ≡ Some (last_or a l)
unfolding last_or
last_is a [] = refl
last_is a (x ∷ l) = last_is x l

abbrev pub against : ℕ → List Reading → List Reading
against lo l = passing (λ (y : Reading). eqb y.lo lo) l

pub frame_none : (l : List Reading) → list.last_or None (los l) ≡ None → frame_of l ≡ None
unfolding frame_of
frame_none [] e = refl
frame_none (x ∷ l) e = absurd (none_some (sym e ∙ last_is x.lo (los l)))

pub frame_some : (l : List Reading) (lo : ℕ) → list.last_or None (los l) ≡ Some lo → frame_of l ≡ cond (leb fewest (length (hzs (against lo l)))) (Some (measured (median (hzs (against lo l))) lo)) None
unfolding frame_of
frame_some [] lo e = absurd (none_some e)
frame_some (x ∷ l) lo e =
    let n : last_or x.lo (los l) ≡ lo = ap (λ (o : Option ℕ). unwrap_or o lo) (sym (last_is x.lo (los l)) ∙ e) in
    subst (λ (z : ℕ). frame_of (x ∷ l) ≡ cond (leb fewest (length (hzs (against z (x ∷ l))))) (Some (measured (median (hzs (against z (x ∷ l)))) z)) None) n refl

-- ---- from what the functions that scan and gather leave
module _ (first past : ℕ) (l : List Reading) (lo : ℕ) (out out' : List Float) (m : ℕ) (L : list.last_or None (los (in_frame first past l)) ≡ Some lo)
    (F : Front (hzs (of_frame first past lo l)) out m out') where
  hzs-are : hzs (against lo (in_frame first past l)) ≡ take m out'
  hzs-are = ap hzs (passing_both (λ (x : Reading). inside first past x.at) (λ (x : Reading). eqb x.lo lo) l) ∙ sym F.front

  size_is : length (hzs (against lo (in_frame first past l))) ≡ m
  size_is = ap length (hzs-are ∙ F.front) ∙ sym F.count

  pub few : m < fewest → frame_of (in_frame first past l) ≡ None
  few h = let e = size_is in frame_some (in_frame first past l) lo L ∙ rw (lt-leb fewest (length (hzs (against lo (in_frame first past l)))) (omega arith)) refl

  pub found : fewest ≤ m → frame_of (in_frame first past l) ≡ Some (measured (median (take m out')) lo)
  found h =
      let e = size_is in
      frame_some (in_frame first past l) lo L ∙ rw (le-leb fewest (length (hzs (against lo (in_frame first past l)))) (omega arith)) (ap (λ (z : List Float). Some (measured (median z) lo)) hzs-are)

-- what stands in front of the scratch is no NaN where no reading's frequency is one
pub front-numbers : (bs : List Bool) (l : List Reading) (out out' : List Float) (m : ℕ) → all_numbers l ≡ true → Front (hzs (retained bs l)) out m out' → no_nan (take m out') ≡ true
front-numbers bs l out out' m e F =
    subst (λ (z : List Float). no_nan z ≡ true) (sym F.front)
    (list_all-map (λ (h : Float). not (is_nan h)) (λ (x : Reading). x.hz) (retained bs l) ∙ every-retained (λ (x : Reading). not (is_nan x.hz)) bs l e)

pub front-length : (l out out' : List Float) (m : ℕ) → Front l out m out' → length (take m out') ≡ m
front-length l out out' m F = length-take-le m out' F.fits

-- the readings of a frame, by its first sample and the first past it
pub framed : (rate : ℕ) (time end : Float) (l : List Reading) (first past : ℕ) → first ≡ first_of rate time → past ≡ past_of rate end → frame_of (in_frame first past l) ≡ frame_frequency rate l time end
unfolding frame_frequency
framed rate time end l first past e f = rw (e, f) refl
