-- What a call answers and leaves, by the number of the first cause that applies to it, 0 where none does (01, 'Causes and returns'). Assumes nothing.
-- 01: "If an answer is an enum, a definition gives this paper's number and values for each of its cases. The promises use that definition."
-- A call answers by a Result with a `Refusal`: `said` is that definition for all of them, `said_by` where what an Ok holds stands for other values.
use Rattle.std.specs.Prelude.{ℕ, zero, suc, ◌≡◌, true, List, T, Float, Result, Ok, Err}
use Rattle.limits.specs.Refusals.{number_of}
use Rattle.limits.specs.declared.Refusal.{Refusal}

-- an answer in 01's words: the number of a refusal, or the values of an accepted call
pub data Answer (A : Type 0) : Type 0 where
  refused : ℕ → Answer A
  accepted : A → Answer A

-- 01's number or values of what a call answers, where an Ok stands for these values
unfoldable pub said_by : {A B : Type 0} → (A → B) → Result A Refusal → Answer B
said_by f (Ok v) = accepted (f v)
said_by f (Err e) = refused (number_of e)

-- where it holds them
abbrev pub said : {A : Type 0} → Result A Refusal → Answer A
said = said_by (λ v. v)

-- the number of what a call answers, 0 where it is an Ok
unfoldable pub cause_of : {A : Type 0} → Result A Refusal → ℕ
cause_of (Ok v) = 0
cause_of (Err e) = number_of e

-- the answer of a call to which a cause applies, or none, where its values are these
unfoldable pub answer : {A : Type 0} → ℕ → A → Answer A
answer zero v = accepted v
answer (suc n) v = refused (suc n)

-- the number that an answer bears, 0 for an accepted call
unfoldable pub number : {A : Type 0} → Answer A → ℕ
number (refused n) = n
number (accepted v) = 0

-- lent memory by that number: what an accepted call makes of it; after a refused one as it was
unfoldable pub leaves : {A : Type 0} → ℕ → A → A → A
leaves zero new old = new
leaves (suc n) new old = old

-- scratch by that number: free after an accepted call; after a refused one as it was
unfoldable pub Free : ℕ → List Float → List Float → Type 0
Free zero old now = T true
Free (suc n) old now = now ≡ old
