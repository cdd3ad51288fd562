-- The answer and the lent memory by the cause k, which the code found as c. Assumes nothing.
use mathlib.Core.Path.{◌≡◌, refl, sym, ap, ◌∙◌}
use Prim.Native.Nat.{ℕ, zero, suc}
use Rattle.std.specs.Result.{IsErrAnd}
use Rattle.std.specs.Prelude.{Result, Ok, List, Float}
use Rattle.std.proofs.lemmas.Result.{err_from_is_err_and}
use native.Mathlib.Omega.{arith}
use Rattle.limits.specs.declared.Refusal.{Refusal}
use Rattle.limits.specs.declared.Refusal.TheVariants.{BadRate, Short, Long, BadSample, BadState, Stream, Full, BadNumber, BadUplink, BadShifts, BadRecords, ManyDevices, BadTime, BadPlan, OutsideMonth}
use Rattle.limits.specs.Refusals.{number_of}
use Rattle.limits.specs.Answer.{refused, accepted, answer, leaves, number, Free, said_by, said, cause_of}

module _ {A : Type 0} (c k : ℕ) (e : c ≡ k) where
  pub refused-answer : (v : A) → (c ≡ 0 → ⊥) → refused c ≡ answer k v
  unfolding answer
  refused-answer v h = go k e
    where
      go : (k : ℕ) → c ≡ k → refused c ≡ answer k v
      go zero e = absurd (h e)
      go (suc k) e = ap refused e

  pub refused-lent : (new old : A) → (c ≡ 0 → ⊥) → old ≡ leaves k new old
  unfolding leaves
  refused-lent new old h = go k e
    where
      go : (k : ℕ) → c ≡ k → old ≡ leaves k new old
      go zero e = absurd (h e)
      go (suc k) e = refl

  pub done-answer : (v : A) → c ≡ 0 → accepted v ≡ answer k v
  unfolding answer
  done-answer v h = ap (λ (x : ℕ). answer x v) (sym h ∙ e)

  pub done-lent : (new old : A) → c ≡ 0 → new ≡ leaves k new old
  unfolding leaves
  done-lent new old h = ap (λ (x : ℕ). leaves x new old) (sym h ∙ e)

-- a number is no 0
pub number-positive : (e : Refusal) → number_of e ≡ 0 → ⊥
number-positive BadRate h = omega (arith, h)
number-positive Short h = omega (arith, h)
number-positive Long h = omega (arith, h)
number-positive BadSample h = omega (arith, h)
number-positive BadState h = omega (arith, h)
number-positive Stream h = omega (arith, h)
number-positive Full h = omega (arith, h)
number-positive BadNumber h = omega (arith, h)
number-positive BadUplink h = omega (arith, h)
number-positive BadShifts h = omega (arith, h)
number-positive BadRecords h = omega (arith, h)
number-positive ManyDevices h = omega (arith, h)
number-positive BadTime h = omega (arith, h)
number-positive BadPlan h = omega (arith, h)
number-positive OutsideMonth h = omega (arith, h)

-- at the exit of a `?` on a check that found the refusal e, whose number is the cause k
module _ {A : Type 0} (e : Refusal) (k : ℕ) (h : number_of e ≡ k) where
  pub at_refusal : (v : A) → refused (number_of e) ≡ answer k v
  at_refusal v = refused-answer (number_of e) k h v (number-positive e)

  pub lent_at_refusal : (new old : A) → old ≡ leaves k new old
  lent_at_refusal new old = refused-lent (number_of e) k h new old (number-positive e)

pub said_at_exit : {A B : Type 0} (r : Result A Refusal) (e : Refusal) (k : ℕ) (f : A → B) → IsErrAnd r (λ y. y ≡ e) → number_of e ≡ k → (v : B) → said_by f r ≡ answer k v
unfolding said_by
said_at_exit r e k f i h v = let p = err_from_is_err_and r i in rw (p.1, p.2) (at_refusal e k h v)

-- past it, where no cause applies
pub accepted_answer : {A : Type 0} (k : ℕ) → 0 ≡ k → (v : A) → accepted v ≡ answer k v
accepted_answer k h v = done-answer 0 k h v refl

pub accepted_lent : {A : Type 0} (k : ℕ) → 0 ≡ k → (new old : A) → new ≡ leaves k new old
accepted_lent k h new old = done-lent 0 k h new old refl

-- the same of a call's whole answer, as the search takes them: at the exit of a `?` on a check, and past it
pub said_refused : {A : Type 0} (r : Result A Refusal) (e : Refusal) (k : ℕ) → IsErrAnd r (λ y. y ≡ e) → number_of e ≡ k → (v : A) → said r ≡ answer k v
said_refused r e k i h v = said_at_exit r e k (λ w. w) i h v

pub said_accepted : {A : Type 0} (k : ℕ) → 0 ≡ k → (v : A) → said (Ok v) ≡ answer k v
unfolding said_by
said_accepted k h v = accepted_answer k h v

-- what such a call leaves, by the number of its answer
pub lent_refused : {A L : Type 0} (r : Result A Refusal) (e : Refusal) → IsErrAnd r (λ y. y ≡ e) → (new old : L) → old ≡ leaves (number (said r)) new old
unfolding said_by number
lent_refused r e i new old = let p = err_from_is_err_and r i in rw (p.1, p.2) (lent_at_refusal e (number_of e) refl new old)

-- and its number
pub cause_refused : {A : Type 0} (r : Result A Refusal) (e : Refusal) (k : ℕ) → IsErrAnd r (λ y. y ≡ e) → number_of e ≡ k → (cause_of r ≡ k) × (cause_of r ≡ 0 → ⊥)
unfolding cause_of
cause_refused r e k i h = let p = err_from_is_err_and r i in rw (p.1, p.2) (h, number-positive e)

pub free_kept : (n : ℕ) (l : List Float) → Free n l l
unfolding Free
free_kept zero l = tt
free_kept (suc n) l = refl
