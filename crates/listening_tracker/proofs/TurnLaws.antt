-- A record's calls of the tracker, one behind the other. Assumes nothing.
use Rattle.std.proofs.Common.{Option, None, Result, Ok, Err}
use Rattle.std.specs.Result.{IsErrAnd}
use Rattle.std.proofs.lemmas.Result.{err_from_is_err_and}
use Prim.Native.Nat.{ℕ, zero, suc, ◌≤◌}
use mathlib.Core.Path.{◌≡◌, refl, sym, ◌∙◌, subst}
use mathlib.Core.List.{List, [], ◌∷◌}
use native.Mathlib.Omega.{arith}
use borrow.Author.Tests.{eq-eqb, ne_eqb}
use lib.ListN.{length}
use lib.Ieee.{Float}
use Rattle.frequency_lists.specs.declared.Reading.{Reading}
use Rattle.frequency_lists.specs.declared.Tuning.{Tuning}
use Rattle.frequency.specs.declared.FrequencyTracker.{FrequencyTracker}
use Rattle.limits.specs.declared.Refusal.{Refusal}
use Rattle.limits.specs.Refusals.{number_of}
use Rattle.limits.specs.Answer.{cause_of}
use Rattle.limits.proofs.AnswerLaws.{number-positive}
use Rattle.frequency.specs.Lent.{Lists, lists, tracker, packed, stored}
use Rattle.frequency.specs.Order.{cause_tuned, cause_samples, cause_cfo, cause_next}
use Rattle.frequency.specs.Tracker.{tuned, samples, cfo, next_tuning, after_tuning}
use Rattle.frequency.specs.Calls.{TunedEnd, SamplesEnd, CfoEnd, NextEnd, tune_of}
use Rattle.frequency.proofs.Grown.{sound}
use Rattle.frequency_grown.specs.Rising.{Single}
use Rattle.frequency_grown.proofs.RisingLaws.{single-grown}
use Rattle.listening_tracker.specs.Turn.{Turn, stop, on, unless, next_turn, cfo_turn, samples_turn, tuned_turn, turn, Turned}

-- what a call answers
abbrev Answer : Type 0
Answer = Result (Option ℕ) Refusal

-- a call was refused with this number: the tracker is as it was
abbrev pub Stops : ℕ → FrequencyTracker → Answer → FrequencyTracker → Type 0
Stops k s x y = (cause_of x ≡ k) × (y ≡ s) × (tune_of x ≡ None)

-- at the exit of a `?` on a refusal
pub stops : (x : Answer) (e : Refusal) (s y : FrequencyTracker) → IsErrAnd x (λ z. z ≡ e) → y ≡ s → Stops (number_of e) s x y
unfolding cause_of
stops x e s y i h = let p = err_from_is_err_and x i in rw (p.1, p.2) (refl, h, refl)

-- a call that was refused is the last
at_stop : (k : ℕ) (s : FrequencyTracker) (l m : Lists) (t : Turn) (x : Answer) (y : FrequencyTracker) → (k ≡ 0 → ⊥) → Stops k s x y → m ≡ l → Turned (unless k s l t) x y m
unfolding Turned
at_stop zero s l m t x y h e g = absurd (h refl)
at_stop (suc k) s l m t x y h e g = (e.0, e.1, e.2, g)

-- one that was not leaves what follows
past : (k : ℕ) (s : FrequencyTracker) (l : Lists) (t : Turn) (x : Answer) (y : FrequencyTracker) (m : Lists) → k ≡ 0 → Turned t x y m → Turned (unless k s l t) x y m
past k s l t x y m e h = rw e h

-- the last call
pub next-turned : (room : ℕ) (s : FrequencyTracker) (l : Lists) (out out' : List Float) (x : Answer) (y : FrequencyTracker) → length out ≡ room → NextEnd s l out (cause_of x) y (tune_of x) out'
    → Turned (next_turn room s l) x y l
unfolding next_turn Turned
next-turned room s l out out' x y n e = both (cause_next s l room) (rw n at e.refusal)
  where
    both : (k : ℕ) → cause_of x ≡ k → Turned (unless k s l (on (packed (after_tuning (tracker s l))) l (next_tuning (tracker s l)))) x y l
    both zero z = (z, e.state z, e.answer z, refl)
    both (suc k) z = let h : cause_of x ≡ 0 → ⊥ = omega (arith, z) in (z, e.same_state h, e.no_answer h, refl)

-- a call that was refused with e, whose exit is that of the function, and one that was accepted, behind which the others follow
module _ (x : Answer) (y : FrequencyTracker) (n : Lists) where
  module _ (e : Refusal) (i : IsErrAnd x (λ z. z ≡ e)) where
    pub cfo-stop : (s : FrequencyTracker) (l : Lists) (reg room : ℕ) → CfoEnd s (reg ∷ []) l (number_of e) y n → Turned (cfo_turn room reg s l) x y n
    unfolding cfo_turn
    cfo-stop s l reg room h =
        let z = number-positive e in
        rw (← h.refusal) (at_stop (number_of e) s l n _ x y z (stops x e s y i (h.same_state z)) (h.same_lists z))

    pub samples-stop : (s : FrequencyTracker) (dbm : List Float) (l : Lists) (reg room : ℕ) → SamplesEnd s dbm l (number_of e) y n → Turned (samples_turn room dbm reg s l) x y n
    unfolding samples_turn
    samples-stop s dbm l reg room h =
        let z = number-positive e in
        rw (← h.refusal) (at_stop (number_of e) s l n _ x y z (stops x e s y i (h.same_state z)) (h.same_lists z))

  pub cfo_on : (s t : FrequencyTracker) (l m : Lists) (reg room : ℕ) → CfoEnd s (reg ∷ []) l 0 t m → Turned (next_turn room t m) x y n → Turned (cfo_turn room reg s l) x y n
  unfolding cfo_turn
  cfo_on s t l m reg room e h = past (cause_cfo s l (reg ∷ [])) s l _ x y n (sym e.refusal) (rw (e.state refl, e.lists refl) at h)

  pub samples_on : (s t : FrequencyTracker) (dbm : List Float) (l m : Lists) (reg room : ℕ) → SamplesEnd s dbm l 0 t m → Turned (cfo_turn room reg t m) x y n → Turned (samples_turn room dbm reg s l) x y n
  unfolding samples_turn
  samples_on s t dbm l m reg room e h = past (cause_samples s l dbm) s l _ x y n (sym e.refusal) (rw (e.state refl, e.lists refl) at h)

  module _ (s : FrequencyTracker) (hz : ℕ) (dbm : List Float) (rs : List Reading) (ts ts' : List Tuning) (reg room : ℕ) where
    pub tuned-stop : (e : Refusal) → IsErrAnd x (λ z. z ≡ e) → TunedEnd s hz ts (number_of e) y ts' → n ≡ lists rs ts' → Turned (tuned_turn room hz dbm reg s (lists rs ts)) x y n
    unfolding tuned_turn
    tuned-stop e i h same =
        let z = number-positive e in
        rw (← h.refusal) (at_stop (number_of e) s (lists rs ts) n _ x y z (stops x e s y i (h.same_state z)) (same ∙ rw (h.same_lent z) refl))

    pub tuned_on : (t : FrequencyTracker) → TunedEnd s hz ts 0 t ts' → Single s (lists rs ts) → Turned (samples_turn room dbm reg t (lists rs ts')) x y n → Turned (tuned_turn room hz dbm reg s (lists rs ts)) x y n
    unfolding tuned_turn
    tuned_on t e g h =
        let b = (sound (single-grown g)).counts.readings in
        past (cause_tuned s ts hz) s (lists rs ts) _ x y n (sym e.refusal) (rw (e.state refl rs b, e.lent refl rs b) at h)

  -- a record whose receiver frequency is 0, and one whose isn't
  module _ (room hz : ℕ) (dbm : List Float) (reg : ℕ) (s : FrequencyTracker) (l : Lists) where
    pub turn_of_0 : hz ≡ 0 → Turned (samples_turn room dbm reg s l) x y n → Turned (turn room hz dbm reg s l) x y n
    unfolding turn
    turn_of_0 z h = rw (eq-eqb hz 0 z) h

    pub turn-tuned : (hz ≡ 0 → ⊥) → Turned (tuned_turn room hz dbm reg s l) x y n → Turned (turn room hz dbm reg s l) x y n
    unfolding turn
    turn-tuned z h = rw (ne_eqb hz 0 z) h
