-- A rounded float that is not lost is its integer: `round` gives whole numbers, and never -0. Assumes nothing.
use Rattle.std.proofs.Common.{◌≡◌, ℕ, zero, suc, ◌+◌, ◌-◌, ◌*◌, ◌/◌, ◌%◌, ◌^◌, ◌<◌, ◌≤◌, min, Bool, true, false, cond, ◌&&◌, T, eqb, ltb, leb, ℤ, pos, negsuc, sym, refl, ap, ◌∙◌, subst, true≢false, le_trans, le_of_eq, mul-le-mul_right, mul_assoc, div-lt_iff_lt-mul, mul-pos, one-mul, pow-suc, zero-mul, mul-one, div-le_self, le-mul_of_pos_right, div-one, mul-div_cancel, arith, lit<, lit≤, le→leb, ltb→lt, lt→ltb, leb→le, pow_pos, pow-add, shl_lt, ltb-true}
use mathlib.Core.Bool.{beq}
use Prim.Native.Nat.{compare}
use lib.Ieee.{Float, nan, inf, fin, Format, binary64, up, down, size, round, units, odd, nearest, prec, emax, low, neg, sum, add, of_int, of_bits, to_unsigned, fits, is_nan, in_float}
use lib.Ieee.Fits.{up_pos, down_pos, add-fits, and_l, and_r}
use lib.Ieee.Exact.{HasValue, round_exact}
use lib.Ieee.Order.{round_mono}
use lib.Ieee.Positive.{positive, above, above_of_le}
use lib.Ieee.Back.{positive_back, negative_back}
use Rattle.floats.specs.Floor.{floor, part, round_half_up}
use Rattle.floats.specs.Trig.{magnitude}
use Rattle.clock.specs.Numbers.{farthest_bit}
use Rattle.clock.specs.Clock.{size_of, lost, as_index, as_float}
use Rattle.clock.proofs.ClockLaws.{size_small}

-- ---- the sign of what is rounded

Signed : Bool → Float → Type 0
Signed s nan = ⊥
Signed s (inf t) = t ≡ s
Signed s (fin t m e) = t ≡ s

units-signed : (f : Format) (s : Bool) (q k : ℕ) → Signed s (units f s q k)
unfolding Signed units odd
units-signed f s q k = go (ltb (q * 2 ^ k) (2 ^ (low f + suc (emax f)))) q
  where
    go : (b : Bool) (q : ℕ) → Signed s (cond b (odd (suc (prec f)) s q k (low f)) (inf s))
    go true zero = refl
    go true (suc q) = refl
    go false q = refl

signed : (f : Format) (s : Bool) (a c : ℕ) → Signed s (round f s a c)
unfolding round
signed f s a c =
    let n = a * 2 ^ low f in
    let k = size (n / c) - prec f in
    let u = c * 2 ^ k in
    units-signed f s (nearest (n / u) (compare (n % u * 2) u)) k

units-negated : (f : Format) (q k : ℕ) → units f true q k ≡ neg (units f false q k)
unfolding neg units odd
units-negated f q k = go (ltb (q * 2 ^ k) (2 ^ (low f + suc (emax f)))) q
  where
    go : (b : Bool) (q : ℕ) → cond b (odd (suc (prec f)) true q k (low f)) (inf true) ≡ neg (cond b (odd (suc (prec f)) false q k (low f)) (inf false))
    go true zero = refl
    go true (suc q) = refl
    go false q = refl

negated : (f : Format) (a c : ℕ) → round f true a c ≡ neg (round f false a c)
unfolding round
negated f a c =
    let n = a * 2 ^ low f in
    let k = size (n / c) - prec f in
    let u = c * 2 ^ k in
    units-negated f (nearest (n / u) (compare (n % u * 2) u)) k

-- a fraction that is no smaller than the smallest value isn't rounded to zero
least : T (positive (round binary64 false 1 (2 ^ 1074)))
unfolding round
least = tt

not_zero : (n c m : ℕ) (e : ℤ) → 0 < c → c ≤ n * 2 ^ 1074 → round binary64 true n c ≡ fin true m e → 0 < m
unfolding neg
not_zero n c m e C h q = go (round binary64 false n c) (above_of_le (round binary64 false 1 (2 ^ 1074)) (round binary64 false n c) least (round_mono binary64 1 (2 ^ 1074) n c (pow_pos 1074) C (le_trans (le_of_eq (one-mul c)) h))) (sym (negated binary64 n c) ∙ q)
  where
    go : (z : Float) → T (above z) → neg z ≡ fin true m e → 0 < m
    go nan a p = absurd a
    go (inf s) a p = absurd (let z : ◌≡◌ {A = ℕ} 0 1 = cc in omega arith)
    go (fin true n d) a p = absurd a
    go (fin false n d) a p = let z : n ≡ m = cc in subst (λ (k : ℕ). 0 < k) z (ltb→lt 0 n a)

-- ---- x + 0.5 is never -0

half : Float
half = fin false 1 (negsuc 0)

half_is : of_bits binary64 0x3fe0_0000_0000_0000 ≡ half
unfolding of_bits of_int round half
half_is = refl

sum_not_zero : (t : Bool) (a b c m : ℕ) (e : ℤ) → 0 < c → (b < a → c ≤ (a - b) * 2 ^ 1074) → sum binary64 t a false b c ≡ fin true m e → 0 < m
unfolding sum Signed
sum_not_zero t a b c m e C h q = go t (ltb a b) (ltb b a) (ltb-true b a) q
  where
    plus : (n : ℕ) → round binary64 false n c ≡ fin true m e → 0 < m
    plus n p = absurd (true≢false (subst (λ (x : Float). Signed false x) p (signed binary64 false n c)))

    go : (t x y : Bool) → (y ≡ true → b < a)
        → cond (beq t false) (round binary64 t (a + b) c) (cond x (round binary64 false (b - a) c) (round binary64 (t && y) (a - b) c)) ≡ fin true m e → 0 < m
    go false x y f p = plus (a + b) p
    go true true y f p = plus (b - a) p
    go true false false f p = plus (a - b) p
    go true false true f p = not_zero (a - b) c m e C (h (f refl)) p

-- the difference of a multiple of 1 / 2^k and a half, where it is not zero, is no smaller than the smallest value
fine : (t : Bool) (n : ℕ) (d : ℤ) → T (fits binary64 (fin t (suc n) d)) → T (leb (down d) (2 ^ 1074))
unfolding fits
fine t n d f =
    and_r (eqb (suc n % 2) 1 && ltb (suc n) (2 ^ 53)) (leb (down d) (2 ^ 1074))
    (and_l (eqb (suc n % 2) 1 && ltb (suc n) (2 ^ 53) && leb (down d) (2 ^ 1074)) (ltb (suc n * up d) (2 ^ 1024 * down d)) f)

small : (t : Bool) (n : ℕ) (d : ℤ) → T (fits binary64 (fin t (suc n) d)) → suc n < 2 ^ 53
unfolding fits
small t n d f =
    ltb→lt (suc n) (2 ^ 53)
    (and_r (eqb (suc n % 2) 1) (ltb (suc n) (2 ^ 53))
    (and_l (eqb (suc n % 2) 1 && ltb (suc n) (2 ^ 53)) (leb (down d) (2 ^ 1074))
    (and_l (eqb (suc n % 2) 1 && ltb (suc n) (2 ^ 53) && leb (down d) (2 ^ 1074)) (ltb (suc n * up d) (2 ^ 1024 * down d)) f)))

under : (t : Bool) (n : ℕ) (d : ℤ) → T (fits binary64 (fin t (suc n) d)) → suc n * up d < 2 ^ 1024 * down d
unfolding fits
under t n d f = ltb→lt (suc n * up d) (2 ^ 1024 * down d) (and_r (eqb (suc n % 2) 1 && ltb (suc n) (2 ^ 53) && leb (down d) (2 ^ 1074)) (ltb (suc n * up d) (2 ^ 1024 * down d)) f)

far-whole : (a p : ℕ) → 1 < a → 2 ≤ p → 2 ≤ (a - 1) * p
far-whole a p h k = let l : 1 * p ≤ (a - 1) * p = mul-le-mul_right p (omega arith) in omega arith

far-part : (n b d p : ℕ) → d ≡ b * 2 → 1 * d < n * 1 * 2 → d ≤ p → d * 2 ≤ (n * 1 * 2 - 1 * d) * p
far-part n b d p e h k = let l : 2 * p ≤ (n * 1 * 2 - 1 * d) * p = mul-le-mul_right p (omega arith) in omega arith

far : (t : Bool) (n : ℕ) (d : ℤ) → T (fits binary64 (fin t n d)) → 1 * 1 * down d < n * up d * 2 → down d * 2 ≤ (n * up d * 2 - 1 * 1 * down d) * 2 ^ 1074
unfolding fits
far t n (pos k) f h = far-whole (n * 2 ^ k * 2) (2 ^ 1074) h (lit≤ tt)
far t zero (negsuc k) f h = absurd (omega arith)
far t (suc n) (negsuc k) f h = far-part (suc n) (2 ^ k) (2 ^ suc k) (2 ^ 1074) (pow-suc 2 k) h (leb→le (2 ^ suc k) (2 ^ 1074) (fine t n (negsuc k) f))

half_not_zero : (x : Float) (m : ℕ) (e : ℤ) → T (fits binary64 x) → add binary64 x half ≡ fin true m e → 0 < m
unfolding add half
half_not_zero nan m e f q = absurd (let z : ◌≡◌ {A = ℕ} 0 1 = cc in omega arith)
half_not_zero (inf s) m e f q = absurd (let z : ◌≡◌ {A = ℕ} 0 1 = cc in omega arith)
half_not_zero (fin t n d) m e f q = sum_not_zero t (n * up d * 2) (1 * 1 * down d) (down d * 2) m e (mul-pos (down_pos d) (lit< tt)) (far t n d f) q

-- ---- the size of a float that has a whole number's value

cut : (x : Float) (s : Bool) (n : ℕ) → HasValue x s n 1 → size_of x ≡ min n (2 ^ 64 - 1)
unfolding size_of magnitude to_unsigned
cut nan s n v = absurd v
cut (inf t) s n v = absurd v
cut (fin t m e) s n v = ap (λ (k : ℕ). min k (2 ^ 64 - 1)) (ap (λ (k : ℕ). k / down e) (sym (mul-one (m * up e)) ∙ v.1) ∙ mul-div_cancel n (down_pos e))

part_one : (s : Bool) (a : ℕ) → part s a 1 ≡ a
part_one false a = div-one a
part_one true a = let z : a + 0 ≡ a = omega arith in ap (λ (k : ℕ). k / 1) z ∙ div-one a

-- the part of a magnitude that is under p
part_under : (n d p : ℕ) → 0 < d → n < p → n + (d - 1) < suc p * d
part_under n d p h k = let l : p ≤ p * d = le-mul_of_pos_right p h in omega arith

part_less : (s : Bool) (n d p : ℕ) → 0 < d → n < p → part s n d ≤ p
part_less false n d p h k = omega (arith, div-le_self n d)
part_less true n d p h k = let l = (div-lt_iff_lt-mul h).1 (part_under n d p h k) in omega arith

none_under : (q : ℕ) → min q (2 ^ 64 - 1) ≤ farthest_bit → q ≤ 2 ^ 53
none_under q h = omega arith

-- the value of a large float
exact : (s : Bool) (m k : ℕ) → suc m < 2 ^ 53 → suc m * 2 ^ k < 2 ^ 1024 → HasValue (round binary64 s (suc m * 2 ^ k) 1) s (suc m * 2 ^ k) 1
exact s m k a b =
    let e : suc m * 2 ^ (k + 1074) ≡ suc m * 2 ^ k * 2 ^ 1074 = ap (λ (n : ℕ). suc m * n) (pow-add 2 k 1074) ∙ sym (mul_assoc (suc m) (2 ^ k) (2 ^ 1074)) in
    round_exact binary64 s (suc m * 2 ^ k) 1 (suc m) (k + 1074) (lit< tt) a
    (subst (λ (n : ℕ). n < 2 ^ 2098) (sym e) (shl_lt 1024 1074 b))
    (sym e ∙ sym (mul-one (suc m * 2 ^ (k + 1074))))

-- a floor that is not lost
bounded : (s : Bool) (m : ℕ) (e : ℤ) → T (fits binary64 (fin s m e)) → size_of (round binary64 s (part s (m * up e) (down e)) 1) ≤ farthest_bit → part s (m * up e) (down e) ≤ 2 ^ 53
bounded s zero e f h = subst (λ (n : ℕ). part s n (down e) ≤ 2 ^ 53) (sym (zero-mul (up e))) (part_less s 0 (down e) (2 ^ 53) (down_pos e) (lit< tt))
bounded s (suc m) (negsuc k) f h = subst (λ (n : ℕ). part s n (2 ^ suc k) ≤ 2 ^ 53) (sym (mul-one (suc m))) (part_less s (suc m) (2 ^ suc k) (2 ^ 53) (pow_pos (suc k)) (small s m (negsuc k) f))
bounded s (suc m) (pos k) f h =
    let one = part_one s (suc m * 2 ^ k) in
    let v = exact s m k (small s m (pos k) f) (subst (λ (n : ℕ). suc m * 2 ^ k < n) (mul-one (2 ^ 1024)) (under s m (pos k) f)) in
    let c = cut (round binary64 s (suc m * 2 ^ k) 1) s (suc m * 2 ^ k) v in
    subst (λ (n : ℕ). n ≤ 2 ^ 53) (sym one)
    (none_under (suc m * 2 ^ k) (subst (λ (n : ℕ). n ≤ farthest_bit) c (subst (λ (n : ℕ). size_of (round binary64 s n 1) ≤ farthest_bit) one h)))

above_zero : (a d : ℕ) → 0 < d → 0 < a → 0 < (a + (d - 1)) / d
above_zero a d h g = go ((a + (d - 1)) / d) (λ q. (div-lt_iff_lt-mul h).0 q)
  where
    go : (n : ℕ) → (n < 1 → a + (d - 1) < 1 * d) → 0 < n
    go zero f = let z = f (omega arith) in absurd (omega arith)
    go (suc n) f = omega arith

back : (s : Bool) (q : ℕ) → q ≤ 2 ^ 53 → (s ≡ true → 0 < q) → as_float (as_index (round binary64 s q 1)) ≡ round binary64 s q 1
unfolding of_int in_float
back false q h f = ap (of_int binary64) (positive_back binary64 63 q (le→leb q (2 ^ 53) h) (omega arith)).1
back true zero h f = let z = f refl in absurd (omega arith)
back true (suc q) h f = ap (of_int binary64) (negative_back binary64 63 q (lt→ltb q (2 ^ 53) h) (omega arith)).1

floor_back : (y : Float) → T (fits binary64 y) → ((m : ℕ) (e : ℤ) → y ≡ fin true m e → 0 < m) → lost (floor y) ≡ false → as_float (as_index (floor y)) ≡ floor y
unfolding floor lost size_of is_nan magnitude to_unsigned
floor_back nan f g h = absurd (true≢false h)
floor_back (inf s) f g h = absurd (true≢false h)
floor_back (fin false m e) f g h = back false (part false (m * up e) (down e)) (bounded false m e f (size_small (round binary64 false (part false (m * up e) (down e)) 1) h)) (λ t. absurd (true≢false (sym t)))
floor_back (fin true m e) f g h =
    back true (part true (m * up e) (down e)) (bounded true m e f (size_small (round binary64 true (part true (m * up e) (down e)) 1) h)) (λ t. above_zero (m * up e) (down e) (down_pos e) (mul-pos (g m e refl) (up_pos e)))

pub index_back : (x : Float) → T (fits binary64 x) → lost (round_half_up x) ≡ false → as_float (as_index (round_half_up x)) ≡ round_half_up x
unfolding round_half_up
index_back x f h =
    floor_back (add binary64 x (of_bits binary64 0x3fe0_0000_0000_0000)) (add-fits binary64 x (of_bits binary64 0x3fe0_0000_0000_0000))
    (λ m e q. half_not_zero x m e f (sym (ap (add binary64 x) half_is) ∙ q)) h
