-- The proof of request 11's claims. Assumes nothing.
use mathlib.Core.Path.{◌≡◌, refl, sym, ap, ◌∙◌, subst}
use mathlib.Core.Bool.{true, false}
use mathlib.Core.List.{List, [], ◌∷◌, ◌++◌}
use Prim.Native.Nat.{ℕ, zero, suc, ◌+◌, ◌≤◌, ◌<◌}
use native.Mathlib.Omega.{arith}
use borrow.Author.Tests.{ltb-false}
use lib.Dec.{ltb}
use lib.ListN.{length, get_or, drop, get_or-append}
use lib.Seq.{sets, sets-eq}
use lib.Ieee.{Float}
use Rattle.limits.specs.Answer.{said_by, Answer, accepted, answer, number, leaves}
use Rattle.event_list.specs.Events.{wholes, events_of}
use Rattle.event_list.proofs.EventLaws.{length-records}
use Rattle.std.specs.Prelude.{Option, Result}
use Rattle.limits.specs.declared.Refusal.{Refusal}
use Rattle.grip.specs.Nearest.{found_or_none, Found, at, none, Tells, nearest_cause, Call}
use Rattle.grip.specs.OnAir.{is_on_air, air_from, air_numbers, air_cause}
use Rattle.grip.specs.Claims.{SameAnswer, NumberIsNearest, NoneIsTrue, PlaceOf, Listed, AllOnAir}
use Rattle.grip.proofs.OrderLaws.{cases, clash}
use Rattle.grip.proofs.NearLaws.{only_one}
use Rattle.grip.proofs.AirLaws.{air_le}
use Rattle.grip.proofs.AnswerLaws.{no_cause}

-- ---- an accepted call

-- its cause is none, and its value the one that was worked out
accepts : {A : Type 0} (c : ℕ) (v w : A) → accepted w ≡ answer c v → (c ≡ 0) × (v ≡ w)
unfolding answer number
accepts zero v w e = (refl, cc)
accepts {A = A} (suc c) v w e = absurd (omega (arith, ap (number {A = A}) e))

-- ---- the nearest message

pub same_answer : SameAnswer
unfolding answer
same_answer l grip within r r' c c' = go (nearest_cause l grip within) refl
  where
    go : (k : ℕ) → nearest_cause l grip within ≡ k → said_by found_or_none r ≡ said_by found_or_none r'
    go zero e =
        c.answered
        ∙ ap (answer (nearest_cause l grip within)) (only_one grip within (no_cause l grip within e) (events_of l) c.value c'.value (c.told e) (c'.told e))
        ∙ sym c'.answered
    go (suc k) e = c.answered ∙ ap (λ (x : ℕ). answer x c.value) e ∙ sym (ap (λ (x : ℕ). answer x c'.value) e) ∙ sym c'.answered

-- what is said is right
right_value : (l : List ℕ) (grip within : Float) (r : Result (Option ℕ) Refusal) (v : Found) → Call l grip within r → said_by found_or_none r ≡ accepted v → Tells grip within (events_of l) v
right_value l grip within r v c e =
    let a = accepts (nearest_cause l grip within) c.value v (sym e ∙ c.answered) in
    subst (Tells grip within (events_of l)) a.1 (c.told a.0)

pub number_is_nearest : NumberIsNearest
number_is_nearest l grip within r i c e = right_value l grip within r (at i) c e

pub none_is_true : NoneIsTrue
unfolding answer
none_is_true l grip within r c = record {
  truly = λ e. right_value l grip within r none c e;
  always = λ e n. c.answered ∙ ap (λ (x : ℕ). answer x c.value) e ∙ ap accepted (only_one grip within (no_cause l grip within e) (events_of l) c.value none (c.told e) n);
}

-- ---- the messages on air

-- the record of a number that is counted from k
record NumberOf (x : Float) (k : ℕ) (rs : List (List ℕ)) (n : ℕ) : Type 0 where
  at : ℕ
  is : n ≡ k + at
  inside : at < length rs
  on : is_on_air x (get_or rs at []) ≡ true

-- numbers that are counted from k
record Counts (x : Float) (k : ℕ) (rs : List (List ℕ)) (a : List ℕ) : Type 0 where
  low : (p : ℕ) → p < length a → k ≤ get_or a p 0
  rise : (p q : ℕ) → p < q → q < length a → get_or a p 0 < get_or a q 0
  right : (p : ℕ) → p < length a → NumberOf x k rs (get_or a p 0)
  every : (i : ℕ) → i < length rs → is_on_air x (get_or rs i []) ≡ true → PlaceOf a (length a) (k + i)

module _ (x : Float) (k : ℕ) (r : List ℕ) (rs : List (List ℕ)) (a : List ℕ) (c : Counts x (suc k) rs a) where
  further : (n : ℕ) → NumberOf x (suc k) rs n → NumberOf x k (r ∷ rs) n
  further n w = record { at = suc w.at; is = omega (arith, w.is); inside = omega (arith, w.inside); on = w.on }

  passed : is_on_air x r ≡ false → Counts x k (r ∷ rs) a
  passed e = record {
    low = λ p h. omega (arith, c.low p h);
    rise = c.rise;
    right = λ p h. further (get_or a p 0) (c.right p h);
    every = each;
  }
    where
      each : (i : ℕ) → i < length (r ∷ rs) → is_on_air x (get_or (r ∷ rs) i []) ≡ true → PlaceOf a (length a) (k + i)
      each zero h o = clash (is_on_air x r) o e
      each (suc i) h o = let w = c.every i (omega arith) o in record { place = w.place; inside = w.inside; holds = omega (arith, w.holds) }

  noted : is_on_air x r ≡ true → Counts x k (r ∷ rs) (k ∷ a)
  noted e = record { low = low; rise = rise; right = right; every = each }
    where
      low : (p : ℕ) → p < length (k ∷ a) → k ≤ get_or (k ∷ a) p 0
      low zero h = omega arith
      low (suc p) h = omega (arith, c.low p (omega arith))

      rise : (p q : ℕ) → p < q → q < length (k ∷ a) → get_or (k ∷ a) p 0 < get_or (k ∷ a) q 0
      rise p zero h g = absurd (omega arith)
      rise zero (suc q) h g = omega (arith, c.low q (omega arith))
      rise (suc p) (suc q) h g = c.rise p q (omega arith) (omega arith)

      right : (p : ℕ) → p < length (k ∷ a) → NumberOf x k (r ∷ rs) (get_or (k ∷ a) p 0)
      right zero h = record { at = 0; is = omega arith; inside = omega arith; on = e }
      right (suc p) h = further (get_or a p 0) (c.right p (omega arith))

      each : (i : ℕ) → i < length (r ∷ rs) → is_on_air x (get_or (r ∷ rs) i []) ≡ true → PlaceOf (k ∷ a) (length (k ∷ a)) (k + i)
      each zero h o = record { place = 0; inside = omega arith; holds = omega arith }
      each (suc i) h o = let w = c.every i (omega arith) o in record { place = suc w.place; inside = omega (arith, w.inside); holds = omega (arith, w.holds) }

counts : (x : Float) (rs : List (List ℕ)) (k : ℕ) → Counts x k rs (air_from k x rs)
unfolding air_from
counts x [] k = record { low = λ p h. absurd (omega arith); rise = λ p q h g. absurd (omega arith); right = λ p h. absurd (omega arith); every = λ i h. absurd (omega arith) }
counts x (r ∷ rs) k =
    cases (is_on_air x r) (λ e. rw e (noted x k r rs (air_from (suc k) x rs) (counts x rs (suc k)) e)) (λ e. rw e (passed x k r rs (air_from (suc k) x rs) (counts x rs (suc k)) e))

-- a list that is long enough
room : (l : List ℕ) (x : Float) (places : ℕ) → air_cause l x places ≡ 0 → wholes l ≤ places
unfolding air_cause
room l x places e = cases (ltb places (wholes l)) (λ t. absurd (never (rw t at e))) (λ t. ltb-false places (wholes l) t)
  where
    never : ◌≡◌ {A = ℕ} 2 0 → ⊥
    never e = omega arith

pub all_on_air : AllOnAir
unfolding leaves number
all_on_air l x before after r n h e =
    let a = air_numbers x l in
    let k = accepts (air_cause l x (length before)) (length a) n (sym e ∙ h.answered) in
    let fits : 0 + length a ≤ length before = omega (arith, air_le x (events_of l) 0, length-records (wholes l) l, room l x (length before) k.0) in
    let wrote : after ≡ a ++ drop (0 + length a) before = h.left ∙ ap (λ (w : Answer ℕ). leaves (number w) (sets before 0 a) before) e ∙ sets-eq a before 0 fits in
    listed (events_of l) a (drop (0 + length a) before) after n k.1 wrote (counts x (events_of l) 0)
  where
    listed : (es : List (List ℕ)) (a rest after : List ℕ) (n : ℕ) → length a ≡ n → after ≡ a ++ rest → Counts x 0 es a → Listed after n x es
    listed es a rest after n m w c = record {
      rises = λ p q u v. rw (same p (omega arith), same q (omega arith)) (c.rise p q u (omega arith));
      there = λ p u. let b = c.right p (omega arith) in rw (same p (omega arith)) (omega (arith, b.is, b.inside));
      right = λ p u. let b = c.right p (omega arith) in rw (same p (omega arith), plain (get_or a p 0) b.at b.is) b.on;
      every = λ i u o. let b = c.every i u o in record { place = b.place; inside = omega (arith, b.inside); holds = same b.place b.inside ∙ omega (arith, b.holds) };
    }
      where
        same : (p : ℕ) → p < length a → get_or after p 0 ≡ get_or a p 0
        same p h = ap (λ (z : List ℕ). get_or z p 0) w ∙ get_or-append a rest 0 p h

        plain : (i j : ℕ) → i ≡ 0 + j → i ≡ j
        plain i j h = omega arith
