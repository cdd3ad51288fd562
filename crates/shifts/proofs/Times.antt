-- Times from 0 to 10^10 s, and their whole seconds. Assumes nothing.
use Rattle.std.proofs.Common.{Option, Some}
use mathlib.Core.Path.{◌≡◌, refl, sym, ap, subst}
use mathlib.Core.List.{List}
use mathlib.Core.Bool.{Bool, true, false, ◌&&◌, ◌||◌, true≢false}
use Prim.Native.Nat.{ℕ, ◌-◌, ◌*◌, ◌/◌, ◌^◌, ◌≤◌, ◌<◌, min}
use native.Mathlib.Nat.{div-le_of_le-mul, mul_comm, mul-one}
use native.Mathlib.Omega.{arith}
use lib.IntN.{ℤ, pos}
use lib.Dec.{lit<, T, ltb, eqb, ltb→lt, eqb→eq}
use lib.Ieee.{Float, nan, inf, fin, binary64, up, down, lt, le, eq, to_unsigned, of_bits, of_int, round}
use Rattle.floats.specs.Number.{num}
use Rattle.floats.specs.Floor.{floor}
use Rattle.limits.proofs.Samples.{and_right}
use Rattle.shifts.specs.Shifts.{farthest, in_range, second, mark_at, mark_from}
use Rattle.shifts.specs.declared.Shifts.{Shifts}

-- the constants of the code
pub zero_is : of_bits binary64 0 ≡ num 0
unfolding of_bits of_int round
zero_is = refl

pub farthest_is : of_bits binary64 0x4202_a05f_2000_0000 ≡ num farthest
unfolding of_bits of_int round
farthest_is = refl

written : num farthest ≡ fin false 9765625 (pos 10)
unfolding of_int round
written = refl

-- a ≤ b, as `le` writes it
or_le : (a b : ℕ) → T (ltb a b || (eqb a b && true)) → a ≤ b
or_le a b t = go (ltb a b) (eqb a b) (ltb→lt a b) (eqb→eq a b) t
  where
    go : (p q : Bool) → (T p → a < b) → (T q → a ≡ b) → T (p || (q && true)) → a ≤ b
    go true q f g t = let l : a < b = f tt in omega arith
    go false true f g t = let e : a ≡ b = g tt in omega arith
    go false false f g t = absurd t

capped : (q n c : ℕ) → q ≤ n → min q c ≤ n
capped q n c h = omega arith

tidy : (a n d : ℕ) → a * 1 ≤ n * d → a ≤ d * n
tidy a n d h = subst (λ (k : ℕ). a ≤ k) (mul_comm n d) (subst (λ (k : ℕ). k ≤ n * d) (mul-one a) h)

at_most_lem : (n k : ℕ) (x : Float) → le x (fin false n (pos k)) ≡ true → to_unsigned 64 x ≤ n * 2 ^ k
unfolding le lt eq to_unsigned
at_most_lem n k nan h = absurd (true≢false (sym h))
at_most_lem n k (inf true) h = omega arith
at_most_lem n k (inf false) h = absurd (true≢false (sym h))
at_most_lem n k (fin true m e) h = omega arith
at_most_lem n k (fin false m e) h =
    capped (m * up e / down e) (n * 2 ^ k) (2 ^ 64 - 1)
    (div-le_of_le-mul (down e) (tidy (m * up e) (n * 2 ^ k) (down e) (or_le (m * up e * 1) (n * 2 ^ k * down e) (subst T (sym h) tt))))

-- a minimum below its cap is the number itself
uncapped : (q c f : ℕ) → min q c ≤ f → f < c → min q c ≡ q
uncapped q c f h k = omega arith

pub second-le : (x : Float) → in_range x ≡ true → second x ≤ farthest
second-le x h = at_most_lem 9765625 10 x (rw written at (and_right (le (num 0) x) (le x (num farthest)) h))

-- a time from 0 on, "rounded down to a second": its second is its floor
pub rounded_down : (m : ℕ) (e : ℤ) → in_range (fin false m e) ≡ true → num (second (fin false m e)) ≡ floor (fin false m e)
unfolding floor of_int to_unsigned
rounded_down m e h = ap (λ (n : ℕ). round binary64 false n 1) (uncapped (m * up e / down e) (2 ^ 64 - 1) farthest (second-le (fin false m e) h) (lit< tt))

-- -0 is 0
pub minus-zero : second (fin true 0 (pos 0)) ≡ 0
unfolding to_unsigned
minus-zero = refl

pub given-mark : (o : (Option ℕ)) (start : ℕ) (s : Shifts) (closed : List ℕ) (x : Float) (t : ℕ) → o ≡ Some start → in_range x ≡ true → t ≡ second x
    → mark_at start s closed t ≡ mark_from o s closed x
unfolding mark_from
given-mark o start s closed x t e h q = rw (e, h, q) refl
