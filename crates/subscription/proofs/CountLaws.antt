-- The counts of the days stand for the messages read so far: kept by every record. Assumes nothing.
use mathlib.Core.Path.{◌≡◌, refl, sym, ap, ◌∙◌, subst}
use mathlib.Core.Bool.{Bool, true, false, cond, ◌&&◌}
use mathlib.Core.List.{List, [], ◌∷◌, ◌++◌, append-nil, append_assoc}
use Rattle.std.specs.Prelude.{Some, None}
use lib.Ieee.{Float}
use Prim.Native.Nat.{ℕ, ◌+◌, ◌≤◌, ◌<◌}
use native.Mathlib.Omega.{arith}
use borrow.Author.Tests.{ltb-true, ltb-false, eqb-true, eqb-false}
use lib.Dec.{ltb, eqb}
use lib.ListN.{length, get_or, replicate, length-set, length-replicate, get_or-replicate, get_or-eq_default}
use lib.Seq.{set_out, get_or-set_same, get_or-set_other}
use Rattle.limits.proofs.Samples.{and_assoc, and_left, and_right, and_true}
use Rattle.record.specs.Readers.{time_of}
use Rattle.limits.specs.Limits.{record_size}
use Rattle.event_list.specs.Events.{is_message, events_of, messages_of}
use Rattle.event_list.specs.Sums.{those, count}
use Rattle.event_list.proofs.EventLaws.{event_next, event_end}
use Rattle.event_list.proofs.SumLaws.{those-append, count-append}
use Rattle.subscription.specs.Charges.{days, in_day, in_month, all_in_month, on_day, latest_start}
use Rattle.subscription.specs.Counting.{day_at, day_in, raised, stepped, inside, tallied, Few}
use Rattle.subscription.proofs.DayLaws.{only-day, day-under, outside, none_outside, some_inside}

-- ---- counts that are raised

module _ (c : List ℕ) (d : ℕ) where
  raised_at : d < length c → (j : ℕ) → get_or (raised c d) j 0 ≡ get_or c j 0 + cond (eqb j d) 1 0
  raised_at h j = go (eqb j d) refl
    where
      go : (t : Bool) → eqb j d ≡ t → get_or (raised c d) j 0 ≡ get_or c j 0 + cond t 1 0
      go true e =
          let q = eqb-true j d e in
          ap (λ (i : ℕ). get_or (raised c d) i 0) q ∙ get_or-set_same c d (get_or c d 0 + 1) 0 h ∙ ap (λ (i : ℕ). get_or c i 0 + 1) (sym q)
      go false e = get_or-set_other c d j (get_or c d 0 + 1) 0 (eqb-false j d e) ∙ none (get_or c j 0)
        where
          none : (n : ℕ) → n ≡ n + 0
          none n = omega arith

  raised-le : (j : ℕ) → get_or (raised c d) j 0 ≤ get_or c j 0 + 1
  raised-le j = go (ltb d (length c)) refl
    where
      one : (t : Bool) → cond t 1 0 ≤ 1
      one true = omega arith
      one false = omega arith

      go : (t : Bool) → ltb d (length c) ≡ t → get_or (raised c d) j 0 ≤ get_or c j 0 + 1
      go true e = omega (arith, raised_at (ltb-true d (length c) e) j, one (eqb j d))
      go false e = omega (arith, ap (λ (l : List ℕ). get_or l j 0) (set_out c d (get_or c d 0 + 1) (ltb-false d (length c) e)))

-- ---- a record

module _ (start : ℕ) (low : start ≤ latest_start) (c r : List ℕ) where
  -- what the code does with it
  abbrev pub Steps : Bool → List ℕ → Type 0
  Steps t d = (t ≡ inside start r) × (d ≡ stepped start c r)

  pub skips : is_message r ≡ false → Steps true c
  unfolding stepped
  skips e = rw e (refl, refl)

  module _ (e : is_message r ≡ true) where
    pub refuses : length c ≡ days → None ≡ day_in start (time_of r) → Steps false c
    unfolding stepped
    refuses n g =
        let o = none_outside start (time_of r) low g in
        let d = outside start (time_of r) low o in
        rw e (sym o, sym (ap (raised c) d ∙ set_out c days (get_or c days 0 + 1) (omega (arith, n))))

    pub raises : (d : ℕ) → Some d ≡ day_in start (time_of r) → Steps true (raised c d)
    unfolding stepped
    raises d g =
        let i = some_inside start (time_of r) low d g in
        rw e (sym i.0, ap (raised c) i.1)

pub under_days : (start : ℕ) → start ≤ latest_start → (t : Float) (d : ℕ) → Some d ≡ day_in start t → d < days
under_days start low t d g =
    let i = some_inside start t low d g in
    omega (arith, i.1, day-under start t low i.0)

-- ---- no count passes the number of records

pub few-zeros : (n : ℕ) → Few (replicate days 0) n
few-zeros n = record { size = length-replicate {A = ℕ} days 0; under = λ j. go j (ltb j days) refl }
  where
    go : (j : ℕ) (t : Bool) → ltb j days ≡ t → get_or (replicate days 0) j 0 ≤ n
    go j true e = omega (arith, get_or-replicate {A = ℕ} days j 0 0 (ltb-true j days e))
    go j false e = omega (arith, get_or-eq_default {A = ℕ} (replicate days 0) 0 {n = j} (omega (arith, length-replicate {A = ℕ} days 0, ltb-false j days e)))

pub few_none : (c : List ℕ) (n : ℕ) → Few c n → Few c (n + 0)
few_none c n f = record { size = f.size; under = λ j. omega (arith, f.under j) }

pub few-turn : (start : ℕ) (c r d : List ℕ) (n i : ℕ) → d ≡ stepped start c r → Few c (n + i) → Few d (n + (i + 1))
unfolding stepped
few-turn start c r d n i e f = subst (λ (l : List ℕ). Few l (n + (i + 1))) (sym e) (go (is_message r))
  where
    go : (t : Bool) → Few (cond t (raised c (day_at start (time_of r))) c) (n + (i + 1))
    go true = record {
      size = length-set c (day_at start (time_of r)) (get_or c (day_at start (time_of r)) 0 + 1) ∙ f.size;
      under = λ j. omega (arith, raised-le c (day_at start (time_of r)) j, f.under j);
    }
    go false = record { size = f.size; under = λ j. omega (arith, f.under j) }

-- ---- a list that goes on

pub inside_more : (start : ℕ) (r : List ℕ) (es : List (List ℕ)) → all_in_month start (messages_of (r ∷ es)) ≡ (inside start r && all_in_month start (messages_of es))
unfolding those all_in_month
inside_more start r es = go (is_message r)
  where
    go : (t : Bool) → all_in_month start (cond t (r ∷ messages_of es) (messages_of es)) ≡ (cond t (in_month start r) true && all_in_month start (messages_of es))
    go true = refl
    go false = refl

-- l is left of a list, record r comes, and k is left then
module _ (start : ℕ) (l r k : List ℕ) (s : l ≡ r ++ k) (n : length r ≡ record_size) where
  pub within_next : (within here w : Bool) → here ≡ inside start r → (within && all_in_month start (messages_of (events_of l))) ≡ w
      → ((within && here) && all_in_month start (messages_of (events_of k))) ≡ w
  within_next within here w e p =
      and_assoc within here (all_in_month start (messages_of (events_of k)))
      ∙ ap (λ (t : Bool). within && (t && all_in_month start (messages_of (events_of k)))) e
      ∙ ap (λ (t : Bool). within && t) (sym (inside_more start r (events_of k)) ∙ ap (λ (es : List (List ℕ)). all_in_month start (messages_of es)) (sym (event_next l r k s n)))
      ∙ p

  pub tallied_next : (c d w : List ℕ) → d ≡ stepped start c r → tallied start c (events_of l) ≡ w → tallied start d (events_of k) ≡ w
  unfolding tallied
  tallied_next c d w e p = ap (λ (x : List ℕ). tallied start x (events_of k)) e ∙ sym (ap (tallied start c) (event_next l r k s n)) ∙ p

-- none is left
module _ (start : ℕ) (l : List ℕ) (h : length l < record_size) where
  pub within_last : (within w : Bool) → (within && all_in_month start (messages_of (events_of l))) ≡ w → within ≡ w
  unfolding all_in_month those
  within_last within w p = sym (and_true within) ∙ ap (λ (es : List (List ℕ)). within && all_in_month start (messages_of es)) (sym (event_end l h)) ∙ p

  pub tallied_last : (c w : List ℕ) → tallied start c (events_of l) ≡ w → c ≡ w
  unfolding tallied
  tallied_last c w p = sym (ap (tallied start c) (event_end l h)) ∙ p

-- ---- what the counts say

module _ (start : ℕ) (low : start ≤ latest_start) where
  abbrev pub Counts : List ℕ → List (List ℕ) → Type 0
  Counts c ms = (j : ℕ) → j < days → get_or c j 0 ≡ on_day start ms j

  counts_step : (c : List ℕ) (ms : List (List ℕ)) (r : List ℕ) → length c ≡ days → inside start r ≡ true → Counts c ms
      → Counts (stepped start c r) (ms ++ messages_of (r ∷ []))
  unfolding stepped those count
  counts_step c ms r n = go (is_message r)
    where
      go : (t : Bool) → cond t (in_month start r) true ≡ true → Counts c ms → Counts (cond t (raised c (day_at start (time_of r))) c) (ms ++ cond t (r ∷ []) [])
      go false e k = subst (Counts c) (sym (append-nil ms)) k
      go true e k = λ j h.
          let d = day_at start (time_of r) in
          let under : d < length c = omega (arith, day-under start (time_of r) low e, n) in
          let one : ◌≡◌ {A = ℕ} (cond (in_day start j r) 1 0) (cond (eqb j d) 1 0) = ap (λ (t : Bool). cond t 1 0) (only-day start (time_of r) low e j h) in
          omega (arith, raised_at c d under j, k j h, one, count-append (in_day start j) ms (r ∷ []))

  size_step : (c r : List ℕ) → length c ≡ days → length (stepped start c r) ≡ days
  unfolding stepped
  size_step c r n = go (is_message r)
    where
      go : (t : Bool) → length (cond t (raised c (day_at start (time_of r))) c) ≡ days
      go true = length-set c (day_at start (time_of r)) (get_or c (day_at start (time_of r)) 0 + 1) ∙ n
      go false = n

  pub counts_all : (es : List (List ℕ)) (c : List ℕ) (ms : List (List ℕ)) → length c ≡ days → all_in_month start (messages_of es) ≡ true → Counts c ms
      → Counts (tallied start c es) (ms ++ messages_of es)
  unfolding tallied those
  counts_all [] c ms n a k = subst (Counts c) (sym (append-nil ms)) k
  counts_all (r ∷ es) c ms n a k =
      let b : (inside start r && all_in_month start (messages_of es)) ≡ true = sym (inside_more start r es) ∙ a in
      subst (Counts (tallied start (stepped start c r) es)) (append_assoc ms (messages_of (r ∷ [])) (messages_of es) ∙ ap (λ (l : List (List ℕ)). ms ++ l) (sym (those-append is_message (r ∷ []) es)))
      (counts_all es (stepped start c r) (ms ++ messages_of (r ∷ [])) (size_step c r n) (and_right (inside start r) (all_in_month start (messages_of es)) b)
      (counts_step c ms r n (and_left (inside start r) (all_in_month start (messages_of es)) b) k))
