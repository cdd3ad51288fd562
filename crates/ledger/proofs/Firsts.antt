-- The first of two causes. Assumes nothing.
use mathlib.Core.Path.{◌≡◌, refl}
use mathlib.Core.Bool.{Bool, true, false, cond}
use Prim.Native.Nat.{ℕ, zero, suc, ◌≤◌}
use native.Mathlib.Omega.{arith}
use Rattle.limits.specs.Limits.{bad_state, bad_shifts}
use Rattle.shifts.specs.Shifts.{Schedule, schedule_cause, shifts_cause, shifts_ok}
use Rattle.ledger.specs.Causes.{first_of}

-- none applies
pub first_none : (n m : ℕ) → first_of n m ≡ 0 → (n ≡ 0) × (m ≡ 0)
unfolding first_of
first_none zero m e = (refl, e)
first_none (suc n) m e = absurd (omega arith)

-- the first does, or only the second
pub first_some : (n m : ℕ) → 1 ≤ n → n ≡ first_of n m
unfolding first_of
first_some zero m h = absurd (omega arith)
first_some (suc n) m h = refl

pub first_zero : (n m : ℕ) → n ≡ 0 → m ≡ first_of n m
unfolding first_of
first_zero zero m e = refl
first_zero (suc n) m e = absurd (omega arith)

-- 5 is never that of shifts
pub first_five : (n : ℕ) (p : Schedule) → first_of n (schedule_cause p) ≡ bad_state → n ≡ bad_state
unfolding first_of shifts_cause
first_five zero p e = absurd (no (shifts_ok p.shifts p.closed) e)
  where
    no : (b : Bool) → cond b 0 bad_shifts ≡ bad_state → ⊥
    no true e = omega arith
    no false e = omega arith
first_five (suc n) p e = e
