-- `le` and `lt` as an order on floats: transitive, infinities and NaN in, and total on numbers. Assumes nothing.
use Rattle.std.proofs.Common.{◌≡◌, ℕ, zero, suc, ◌+◌, ◌*◌, ◌<◌, ◌≤◌, Bool, true, false, ◌&&◌, ◌||◌, eqb, ltb, ◌⊎◌, refl, inl, inr, ⊎_elim, le_trans, mul-le-mul_right, mul-pos, zero-mul, mul_right_comm, le_of_mul-le-mul_right, arith, ltb-false, ltb-true, eq-eqb, eqb-true}
use lib.Ieee.{Float, nan, inf, fin, up, down, below, level, lt, le}
use lib.Ieee.Fits.{down_pos}

either : (b : Bool) → (b ≡ true) ⊎ (b ≡ false)
either true = inl refl
either false = inr refl

clash : {A : Type 0} (b : Bool) → b ≡ true → b ≡ false → A
clash b p q = let w : ◌≡◌ {A = ℕ} 0 1 = cc in absurd (omega arith)

and_left : (a b : Bool) → a && b ≡ true → a ≡ true
and_left true b e = refl
and_left false b e = e

and_right : (a b : Bool) → a && b ≡ true → b ≡ true
and_right true b e = e
and_right false b e = clash false e refl

-- ---- signed fractions

-- ±a is not above ±b
abbrev Under : Bool → ℕ → Bool → ℕ → Type 0
Under false a false b = a ≤ b
Under false a true b = (a ≡ 0) × (b ≡ 0)
Under true a false b = 0 ≤ a
Under true a true b = b ≤ a

-- as `le` has it
abbrev under : Bool → ℕ → Bool → ℕ → Bool
under s a t b = below s a t b || level s a t b

of_le : (a b : ℕ) → a ≤ b → ltb a b || (eqb a b && true) ≡ true
of_le a b h = ⊎_elim (λ e. rw e refl) (λ e. rw (e, eq-eqb a b (omega (arith, ltb-false a b e))) refl) (either (ltb a b))

to_le : (a b : ℕ) (t : Bool) → ltb a b || (eqb a b && t) ≡ true → a ≤ b
to_le a b t e =
    ⊎_elim
    (λ p. omega (arith, ltb-true a b p))
    (λ p. omega (arith, eqb-true a b (and_left (eqb a b) t (rw p at e))))
    (either (ltb a b))

from : (s t : Bool) (a b : ℕ) → under s a t b ≡ true → Under s a t b
from false false a b e = to_le a b true e
from false true a b e =
    let p = eqb-true a b (and_left (eqb a b) (eqb a 0) e) in let q = eqb-true a 0 (and_right (eqb a b) (eqb a 0) e) in (q, omega arith)
from true false a b e = omega arith
from true true a b e =
    ⊎_elim
    (λ p. omega (arith, ltb-true b a p))
    (λ p. omega (arith, eqb-true a b (and_left (eqb a b) true (rw p at e))))
    (either (ltb b a))

to : (s t : Bool) (a b : ℕ) → Under s a t b → under s a t b ≡ true
to false false a b h = of_le a b h
to false true a b h = rw (eq-eqb a b (omega arith), eq-eqb a 0 (omega arith)) refl
to true false a b h =
    ⊎_elim
    (λ e. rw e refl)
    (λ e. let z = ltb-false 0 (a + b) e in rw (e, eq-eqb a b (omega arith), eq-eqb a 0 (omega arith)) refl)
    (either (ltb 0 (a + b)))
to true true a b h = ⊎_elim (λ e. rw e refl) (λ e. rw (e, eq-eqb a b (omega (arith, ltb-false b a e))) refl) (either (ltb b a))

-- a/x ≤ b/y and b/y ≤ c/z give a/x ≤ c/z
cross : (a b c x y z : ℕ) → 0 < y → a * y ≤ b * x → b * z ≤ c * y → a * z ≤ c * x
cross a b c x y z Y p q =
    let u : a * y * z ≤ b * x * z = mul-le-mul_right z p in
    let v : b * z * x ≤ c * y * x = mul-le-mul_right x q in
    let w : a * z * y ≤ c * x * y = rw (mul_right_comm a z y, mul_right_comm c x y) (le_trans u (rw (mul_right_comm b x z) v)) in
    le_of_mul-le-mul_right w Y

-- what is 0 over one is 0 over another
none : (a x y : ℕ) → 0 < x → a * x ≡ 0 → a * y ≡ 0
none zero x y X e = zero-mul y
none (suc a) x y X e = absurd (let h : 0 < suc a * x = mul-pos (omega arith) X in omega arith)

chain : (s t u : Bool) (a b c x y z : ℕ) → 0 < x → 0 < y → 0 < z → Under s (a * y) t (b * x) → Under t (b * z) u (c * y) → Under s (a * z) u (c * x)
chain false false false a b c x y z X Y Z p q = cross a b c x y z Y p q
chain false false true a b c x y z X Y Z p q = let k = none b z x Z q.0 in (none a y z Y (omega arith), none c y x Y q.1)
chain false true false a b c x y z X Y Z p q = let k = none a y z Y p.0 in omega arith
chain false true true a b c x y z X Y Z p q = let k = none b x z X p.1 in (none a y z Y p.0, none c y x Y (omega arith))
chain true false false a b c x y z X Y Z p q = omega arith
chain true false true a b c x y z X Y Z p q = let k = none c y x Y q.1 in omega arith
chain true true false a b c x y z X Y Z p q = omega arith
chain true true true a b c x y z X Y Z p q = cross c b a z y x Y q p

-- ---- floats

pub le-chain : (x y z : Float) → le x y ≡ true → le y z ≡ true → le x z ≡ true
unfolding le
le-chain nan y z p q = p
le-chain (inf false) nan z p q = clash false p refl
le-chain (inf false) (inf false) z p q = q
le-chain (inf false) (inf true) z p q = clash false p refl
le-chain (inf false) (fin t n d) z p q = clash false p refl
le-chain (inf true) nan z p q = clash false p refl
le-chain (inf true) (inf t) nan p q = q
le-chain (inf true) (fin t n d) nan p q = q
le-chain (inf true) (inf t) (inf true) p q = refl
le-chain (inf true) (inf t) (inf false) p q = refl
le-chain (inf true) (inf t) (fin u o g) p q = refl
le-chain (inf true) (fin t n d) (inf true) p q = refl
le-chain (inf true) (fin t n d) (inf false) p q = refl
le-chain (inf true) (fin t n d) (fin u o g) p q = refl
le-chain (fin s m e) nan z p q = clash false p refl
le-chain (fin s m e) (inf true) z p q = clash false p refl
le-chain (fin s m e) (inf false) nan p q = q
le-chain (fin s m e) (inf false) (inf false) p q = refl
le-chain (fin s m e) (inf false) (inf true) p q = q
le-chain (fin s m e) (inf false) (fin u o g) p q = clash false q refl
le-chain (fin s m e) (fin t n d) nan p q = q
le-chain (fin s m e) (fin t n d) (inf u) p q = q
le-chain (fin s m e) (fin t n d) (fin u o g) p q =
    to s u (m * up e * down g) (o * up g * down e)
    (chain s t u (m * up e) (n * up d) (o * up g) (down e) (down d) (down g) (down_pos e) (down_pos d) (down_pos g)
    (from s t (m * up e * down d) (n * up d * down e) p) (from t u (n * up d * down g) (o * up g * down d) q))

pub lt-le : (x y : Float) → lt x y ≡ true → le x y ≡ true
unfolding le
lt-le x y e = rw e refl

no_nan : (x : Float) → le x nan ≡ false
unfolding le
no_nan nan = refl
no_nan (inf s) = refl
no_nan (fin s m e) = refl

turned : (s t : Bool) (a b : ℕ) → below s a t b ≡ false → Under t b s a
turned false false a b e = ltb-false a b e
turned false true a b e = omega arith
turned true false a b e = let h = ltb-false 0 (a + b) e in (omega arith, omega arith)
turned true true a b e = ltb-false b a e

-- of two numbers: y is above one, and x below one
pub not_lt : (x y v w : Float) → le v y ≡ true → le x w ≡ true → lt x y ≡ false → le y x ≡ true
unfolding le
not_lt nan y v w p q e = clash false q refl
not_lt (inf s) nan v w p q e = clash (le v nan) p (no_nan v)
not_lt (inf false) (inf true) v w p q e = refl
not_lt (inf false) (inf false) v w p q e = refl
not_lt (inf true) (inf true) v w p q e = refl
not_lt (inf true) (inf false) v w p q e = clash true refl e
not_lt (inf false) (fin t n d) v w p q e = refl
not_lt (inf true) (fin t n d) v w p q e = clash true refl e
not_lt (fin s m e) nan v w p q h = clash (le v nan) p (no_nan v)
not_lt (fin s m e) (inf true) v w p q h = refl
not_lt (fin s m e) (inf false) v w p q h = clash true refl h
not_lt (fin s m e) (fin t n d) v w p q h = to t s (n * up d * down e) (m * up e * down d) (turned s t (m * up e * down d) (n * up d * down e) h)
