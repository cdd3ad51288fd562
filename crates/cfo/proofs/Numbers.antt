-- A reading's frequency is a number, whatever the register holds, where the step is finite. Assumes nothing.
use mathlib.Core.Path.{◌≡◌, refl, sym, subst}
use mathlib.Core.Bool.{Bool, true, false, not, cond, ◌&&◌, beq}
use Prim.Native.Nat.{ℕ, zero, suc, ◌+◌, ◌-◌, ◌*◌, ◌%◌, ◌^◌, ◌≤◌, ◌<◌}
use native.Mathlib.Omega.{arith}
use lib.Dec.{T, ltb, eqb-suc-zero}
use lib.IntN.{ℤ, pos, negsuc}
use lib.Ieee.{Float, nan, inf, fin, Format, binary64, round, units, odd, low, emax, prec, sum, add, mul, div, of_int, is_nan}
use lib.Ieee.Exact.{HasValue}
use lib.Ieee.Scale.{finite}
use lib.Ieee.Back.{round_whole}
use Rattle.floats.specs.Number.{num}
use Rattle.cfo.specs.Cfo.{register, sign, cfo_scale, signed, reading_hz}

never : false ≡ true → ⊥
never e = subst (λ (b : Bool). T (not b)) e tt

cond-number : (b : Bool) (x y : Float) → is_nan x ≡ false → is_nan y ≡ false → is_nan (cond b x y) ≡ false
cond-number true x y p q = p
cond-number false x y p q = q

odd_number : (d : ℕ) (s : Bool) (q k l : ℕ) → is_nan (odd d s q k l) ≡ false
unfolding odd is_nan
odd_number d s zero k l = refl
odd_number d s (suc q) k l = refl

units_number : (f : Format) (s : Bool) (q k : ℕ) → is_nan (units f s q k) ≡ false
unfolding units is_nan
units_number f s q k = cond-number (ltb (q * 2 ^ k) (2 ^ (low f + suc (emax f)))) (odd (suc (prec f)) s q k (low f)) (inf s) (odd_number (suc (prec f)) s q k (low f)) refl

round_number : (f : Format) (s : Bool) (a c : ℕ) → is_nan (round f s a c) ≡ false
unfolding round
round_number f s a c = units_number f s _ _

mul-number : (f : Format) (x y : Float) → finite x ≡ true → finite y ≡ true → is_nan (mul f x y) ≡ false
unfolding mul
mul-number f (fin s m e) (fin t n d) p q = round_number f _ _ _
mul-number f nan y p q = absurd (never p)
mul-number f (inf s) y p q = absurd (never p)
mul-number f (fin s m e) nan p q = absurd (never q)
mul-number f (fin s m e) (inf t) p q = absurd (never q)

div-number : (f : Format) (x : Float) (t : Bool) (n : ℕ) (d : ℤ) → is_nan x ≡ false → is_nan (div f x (fin t (suc n) d)) ≡ false
unfolding div is_nan
div-number f nan t n d p = p
div-number f (inf s) t n d p = refl
div-number f (fin s m e) t n d p = rw (eqb-suc-zero n) (round_number f _ _ _)

sum_number : (f : Format) (s : Bool) (a : ℕ) (t : Bool) (b c : ℕ) → is_nan (sum f s a t b c) ≡ false
unfolding sum
sum_number f s a t b c =
    cond-number (beq s t) (round f s (a + b) c) (cond (ltb a b) (round f t (b - a) c) (round f (s && ltb b a) (a - b) c)) (round_number f s (a + b) c)
    (cond-number (ltb a b) (round f t (b - a) c) (round f (s && ltb b a) (a - b) c) (round_number f t (b - a) c) (round_number f (s && ltb b a) (a - b) c))

add-number : (f : Format) (x y : Float) → finite x ≡ true → is_nan y ≡ false → is_nan (add f x y) ≡ false
unfolding add is_nan
add-number f nan y p q = absurd (never p)
add-number f (inf s) y p q = absurd (never p)
add-number f (fin s m e) nan p q = q
add-number f (fin s m e) (inf t) p q = refl
add-number f (fin s m e) (fin t n d) p q = sum_number f s _ t _ _

-- a float with a value is finite
value_finite : (x : Float) (s : Bool) (n : ℕ) → HasValue x s n 1 → finite x ≡ true
value_finite nan s n h = absurd h
value_finite (inf t) s n h = absurd h
value_finite (fin t m e) s n h = refl

pub num_finite : (n : ℕ) → n ≤ 2 ^ 53 → finite (num n) ≡ true
unfolding of_int
num_finite n h = value_finite (round binary64 false n 1) false n (round_whole binary64 false n h)

int_finite : (b : Bool) (v : ℕ) → v < register → finite (of_int binary64 (cond b (pos v) (negsuc (register - 1 - v)))) ≡ true
unfolding of_int
int_finite true v h = value_finite (round binary64 false v 1) false v (round_whole binary64 false v (omega arith))
int_finite false v h = value_finite (round binary64 true (suc (register - 1 - v)) 1) true (suc (register - 1 - v)) (round_whole binary64 true (suc (register - 1 - v)) (omega arith))

scale_is : cfo_scale ≡ fin false 8376695306909123 (negsuc 52)
unfolding round
scale_is = refl

pub reading-number : (lo v : ℕ) (step : Float) → lo ≤ 2 ^ 53 → finite step ≡ true → is_nan (reading_hz lo v step) ≡ false
unfolding reading_hz signed
reading-number lo v step h p =
    let k : v % register < register = omega arith in
    add-number binary64 (num lo) _ (num_finite lo h)
    (subst (λ (c : Float). is_nan (div binary64 (mul binary64 (of_int binary64 (cond (ltb (v % register) sign) (pos (v % register)) (negsuc (register - 1 - v % register)))) step) c) ≡ false) (sym scale_is)
    (div-number binary64 _ false 8376695306909122 (negsuc 52) (mul-number binary64 _ step (int_finite (ltb (v % register) sign) (v % register) k) p)))
