-- Choices by Bools: what each test that failed or passed makes of a nested `cond` or `&&`. Assumes nothing.
use mathlib.Core.Path.{◌≡◌, refl}
use mathlib.Core.Bool.{Bool, true, false, cond, ◌&&◌}
use Prim.Native.Nat.{ℕ, suc}
use native.Mathlib.Omega.{arith}

pub chosen : (x y : ℕ) {a : Bool} → a ≡ true → cond a x y ≡ x
chosen x y e = rw e refl

pub passed : (x y : ℕ) {a : Bool} → a ≡ false → cond a x y ≡ y
passed x y e = rw e refl

pub fails : (b : Bool) {a : Bool} → a ≡ false → (a && b) ≡ false
fails b e = rw e refl

pub holds : (b : Bool) {a : Bool} → a ≡ true → (a && b) ≡ b
holds b e = rw e refl

pub with_true : (a : Bool) → a ≡ (a && true)
with_true true = refl
with_true false = refl

-- a cause that is none
pub not_refused : (k y : ℕ) (a : Bool) → cond a (suc k) y ≡ 0 → (a ≡ false) × (y ≡ 0)
not_refused k y true e = absurd (omega arith)
not_refused k y false e = (refl, e)
