-- Whether dates rise, from what each and the next are. Assumes nothing.
use mathlib.Core.Path.{◌≡◌, refl, sym}
use mathlib.Core.Bool.{Bool, true, false, ◌&&◌}
use mathlib.Core.List.{List, [], ◌∷◌}
use Prim.Native.Nat.{ℕ, zero, suc, ◌<◌}
use native.Mathlib.Numerals.{add-one}
use native.Mathlib.Omega.{arith}
use lib.Dec.{ltb}
use lib.ListN.{length, get_or}
use Rattle.std.specs.List.{IsAllAdjacentAnswer}
use Rattle.shifts.specs.Shifts.{rising, rising_from}

rises_from : (d : ℕ) (l : List ℕ) → ((k : ℕ) → suc k < length (d ∷ l) → true ≡ ltb (get_or (d ∷ l) k 0) (get_or (d ∷ l) (suc k) 0)) → rising_from d l ≡ true
unfolding rising_from
rises_from d [] f = refl
rises_from d (e ∷ l) f = rw (sym (f 0 (omega arith)), rises_from e l (λ k h. f (suc k) (omega arith))) refl

falls_from : (k d : ℕ) (l : List ℕ) → suc k < length (d ∷ l) → false ≡ ltb (get_or (d ∷ l) k 0) (get_or (d ∷ l) (suc k) 0) → rising_from d l ≡ false
unfolding rising_from
falls_from k d [] h e = absurd (omega arith)
falls_from zero d (x ∷ l) h e = rw (sym e) refl
falls_from (suc k) d (x ∷ l) h e = rw (falls_from k x l (omega arith) e) (not_both (ltb d x))
  where
    not_both : (b : Bool) → b && false ≡ false
    not_both true = refl
    not_both false = refl

-- as a slice's test of each element and the next tells it
pub rising_told : (l : List ℕ) (r : Bool) → IsAllAdjacentAnswer (λ x y b. b ≡ ltb x y) l r → r ≡ rising l
unfolding rising
rising_told [] true a = refl
rising_told [] false a = absurd (omega (arith, a.1))
rising_told (d ∷ l) true a = sym (rises_from d l (λ k h. rw add-one at (a k 0 (omega arith))))
rising_told (d ∷ l) false a = sym (falls_from a.0 d l (omega (arith, a.1)) (rw add-one at (a.2 0)))
