-- A floor that follows a sample stays between -200 and 100 dBm. The step towards the sample, rounded twice, is no longer than the way to it, and rounding keeps the
-- order of the sum and the ends of the range, which are floats. Assumes nothing.
use Rattle.std.proofs.Common.{◌≡◌, ℕ, zero, suc, ◌+◌, ◌-◌, ◌*◌, ◌^◌, ◌<◌, ◌≤◌, Bool, true, false, cond, not, ◌&&◌, ◌||◌, T, eqb, ltb, List, [], ◌∷◌, ℤ, pos, sym, refl, ap, ◌∙◌, subst, true≢false, le_trans, le_of_eq, lt_of_lt_of_le, lt_of_le_of_lt, mul-le-mul_right, zero-lt-suc, mul_assoc, mul_comm, add-mul, mul-le-mul_left, mul-lt-mul_of_pos_right, mul-pos, mul-one, mul_right_comm, le_of_mul-le-mul_right, mul_left_comm, arith, lit≤, pow_pos, ltb-false, ltb-true, lt-ltb, eq-eqb, eqb-true, leb-true, Option, None, Some}
use lib.Dec.{eqb-suc-zero}
use lib.Ieee.{Float, nan, inf, fin, binary64, unlike, up, down, round, sum, add, sub, div, neg, lt, le, eq, of_int}
use lib.Ieee.Exact.{HasValue, units_val}
use lib.Ieee.Fits.{round_is, down_pos, up_pos}
use lib.Ieee.Back.{round_whole}
use lib.Ieee.Nearest.{closest}
use lib.Ieee.Order.{round_mono, drop, kept}
use lib.Ieee.Scale.{grid, overflow, round_same, round_val}
use Rattle.floats.specs.Number.{num}
use Rattle.limits.specs.Limits.{lowest_dbm, highest_dbm}
use Rattle.limits.specs.Samples.{is_dbm, all_dbm}
use Rattle.limits.proofs.Samples.{and_left, and_right}
use Rattle.rates.proofs.Near.{closest_near, grid_lt, int_value}
use Rattle.rates.proofs.Values.{le-values, holds}
use Rattle.frequency_signal.specs.declared.Signal.{Signal}
use Rattle.frequency_signal.specs.Heard.{above_db, known, loud, soft, hear, heard}
use Rattle.frequency_signal.specs.Order.{floor_ok}

-- ---- the range, by a float's size and sign
abbrev end : Bool → ℕ
end true = 200
end false = 100

abbrev Inside : Float → Type 0
Inside nan = ⊥
Inside (inf s) = ⊥
Inside (fin s m e) = m * up e ≤ end s * down e

never : false ≡ true → ⊥
never e = let z : ◌≡◌ {A = ℕ} 0 1 = cc in omega arith

or_le : (a b : ℕ) (t : Bool) → (ltb a b || (eqb a b && t)) ≡ true → a ≤ b
or_le a b t e = go (ltb a b) (ltb-true a b) e
  where
    go : (x : Bool) → (x ≡ true → a < b) → (x || (eqb a b && t)) ≡ true → a ≤ b
    go true p e = let h = p refl in omega arith
    go false p e = le_of_eq (eqb-true a b (and_left (eqb a b) t e))

le_or : (a b : ℕ) → a ≤ b → (ltb a b || (eqb a b && true)) ≡ true
le_or a b h = go (ltb a b) (ltb-false a b)
  where
    go : (x : Bool) → (x ≡ false → b ≤ a) → (x || (eqb a b && true)) ≡ true
    go true p = refl
    go false p = let k = p refl in let e : a ≡ b = omega arith in rw (eq-eqb a b e) refl

or_ge : (a b : ℕ) (t : Bool) → (ltb b a || (eqb a b && t)) ≡ true → b ≤ a
or_ge a b t e = go (ltb b a) (ltb-true b a) e
  where
    go : (x : Bool) → (x ≡ true → b < a) → (x || (eqb a b && t)) ≡ true → b ≤ a
    go true p e = let h = p refl in omega arith
    go false p e = le_of_eq (sym (eqb-true a b (and_left (eqb a b) t e)))

ge_or : (a b : ℕ) → b ≤ a → (ltb b a || (eqb a b && true)) ≡ true
ge_or a b h = go (ltb b a) (ltb-false b a)
  where
    go : (x : Bool) → (x ≡ false → a ≤ b) → (x || (eqb a b && true)) ≡ true
    go true p = refl
    go false p = let k = p refl in let e : a ≡ b = omega arith in rw (eq-eqb a b e) refl

low_is : lowest_dbm ≡ fin true 25 (pos 3)
unfolding neg round of_int
low_is = refl

high_is : highest_dbm ≡ fin false 25 (pos 2)
unfolding round of_int
high_is = refl

-- a valid float lies in the range
inside_of : (x : Float) → is_dbm x ≡ true → Inside x
unfolding le lt eq
inside_of nan e = absurd (never (and_right (le lowest_dbm nan) (le nan highest_dbm) e))
inside_of (inf true) e = absurd (never (subst (λ (z : Float). le z (inf true) ≡ true) low_is (and_left (le lowest_dbm (inf true)) (le (inf true) highest_dbm) e)))
inside_of (inf false) e = absurd (never (subst (λ (z : Float). le (inf false) z ≡ true) high_is (and_right (le lowest_dbm (inf false)) (le (inf false) highest_dbm) e)))
inside_of (fin true m e) h =
    let k = subst (λ (z : Float). le z (fin true m e) ≡ true) low_is (and_left (le lowest_dbm (fin true m e)) (le (fin true m e) highest_dbm) h) in
    let z = or_ge (25 * 2 ^ 3 * down e) (m * up e * 1) _ k in
    omega arith
inside_of (fin false m e) h =
    let k = subst (λ (z : Float). le (fin false m e) z ≡ true) high_is (and_right (le lowest_dbm (fin false m e)) (le (fin false m e) highest_dbm) h) in
    let z = or_le (m * up e * 1) (25 * 2 ^ 2 * down e) _ k in
    omega arith

-- and the other way
valid : (x : Float) → Inside x → is_dbm x ≡ true
unfolding le lt eq
valid nan h = absurd h
valid (inf s) h = absurd h
valid (fin true m e) h =
    let d = down_pos e in
    let a : le (fin true 25 (pos 3)) (fin true m e) ≡ true = ge_or (25 * 2 ^ 3 * down e) (m * up e * 1) (omega arith) in
    let b : le (fin true m e) (fin false 25 (pos 2)) ≡ true = rw (lt-ltb 0 (m * up e * 1 + 25 * 2 ^ 2 * down e) (omega arith)) refl in
    rw (low_is, high_is, a, b) refl
valid (fin false m e) h =
    let d = down_pos e in
    let a : le (fin true 25 (pos 3)) (fin false m e) ≡ true = rw (lt-ltb 0 (25 * 2 ^ 3 * down e + m * up e * 1) (omega arith)) refl in
    let b : le (fin false m e) (fin false 25 (pos 2)) ≡ true = le_or (m * up e * 1) (25 * 2 ^ 2 * down e) (omega arith) in
    rw (low_is, high_is, a, b) refl

-- ---- what rounding makes of a fraction, in units of the smallest float
abbrev unit : ℕ
unit = 2 ^ 1074

sign-val : (s : Bool) (a c : ℕ) → grid binary64 a c < overflow binary64 → HasValue (round binary64 s a c) s (grid binary64 a c) unit
sign-val s a c h = subst (λ (z : Float). HasValue z s (grid binary64 a c) unit) (sym (round_is binary64 s a c)) (units_val binary64 s (kept 53 (a * unit) c) (drop 53 (a * unit) c) h)

-- no overflow: what is rounded here is at most 300
small_grid : (a c : ℕ) → 0 < c → a ≤ 300 * c → grid binary64 a c < overflow binary64
small_grid a c C h =
    lt_of_lt_of_le
    (grid_lt binary64 a c C 1040
    (lt_of_le_of_lt (le_trans (mul-le-mul_right unit h) (le_of_eq (mul_right_comm 300 c unit))) (mul-lt-mul_of_pos_right (lit≤ tt) C)))
    (lit≤ tt)

-- a fraction at most doubles
twice_of : (p u n : ℕ) → p * u * 2 ≤ n * 2 + u → p * u ≤ 2 * n
twice_of zero u n h = omega arith
twice_of (suc p) u n h = let e : suc p * u ≡ p * u + u = omega arith in omega arith

twice : (a c : ℕ) → 0 < c → grid binary64 a c * c ≤ 2 * (a * unit)
twice a c C =
    let k = drop 53 (a * unit) c in
    let u = c * 2 ^ k in
    let p = closest (a * unit) u in
    let e : p * 2 ^ k * c ≡ p * u = mul_assoc p (2 ^ k) c ∙ ap (λ (z : ℕ). p * z) (mul_comm (2 ^ k) c) in
    le_trans (le_of_eq e) (twice_of p u (a * unit) (closest_near (a * unit) u (mul-pos C (pow_pos k))).0)

-- a quotient by a whole number
div_over : (x y : Float) (s : Bool) (g G r : ℕ) → 0 < G → 0 < r → HasValue x s g G → HasValue y false r 1 → div binary64 x y ≡ round binary64 s g (r * G)
unfolding div
div_over nan y s g G r U R h k = absurd h
div_over (inf t) y s g G r U R h k = absurd h
div_over (fin t m e) nan s g G r U R h k = absurd k
div_over (fin t m e) (inf u) s g G r U R h k = absurd k
div_over (fin t m e) (fin true n d) s g G r U R h k = absurd (true≢false k.0)
div_over (fin t m e) (fin false zero d) s g G r U R h k = absurd (go (up d) (r * down d) (mul-pos R (down_pos d)) k.1)
  where
    go : (u z : ℕ) → 0 < z → 0 * u * 1 ≡ z → ⊥
    go u z Z e = omega arith
div_over (fin t m e) (fin false (suc n) d) s g G r U R h k =
    ap (λ (b : Bool). cond b (cond (eqb m 0) nan (inf (unlike t false))) (round binary64 (unlike t false) (m * up e * down d) (suc n * up d * down e))) (eqb-suc-zero n)
    ∙ ap (λ (b : Bool). round binary64 b (m * up e * down d) (suc n * up d * down e)) (like t ∙ h.0)
    ∙ round_same binary64 s (m * up e * down d) (suc n * up d * down e) g (r * G) (mul-pos (mul-pos (zero-lt-suc n) (up_pos d)) (down_pos e)) (mul-pos R U)
    (cross (m * up e) (down d) (suc n * up d) (down e) h.1 k.1)
  where
    like : (t : Bool) → unlike t false ≡ t
    like true = refl
    like false = refl

    cross : (x dd y de : ℕ) → x * G ≡ g * de → y * 1 ≡ r * dd → x * dd * (r * G) ≡ g * (y * de)
    cross x dd y de p q =
        let a : x * dd * (r * G) ≡ x * G * (r * dd) = simp (mul_assoc, mul_comm, mul_left_comm) in
        let b : g * de * y ≡ g * (y * de) = simp (mul_assoc, mul_comm, mul_left_comm) in
        a ∙ ap (λ (z : ℕ). z * (r * dd)) p ∙ ap (λ (z : ℕ). g * de * z) (sym q ∙ mul-one y) ∙ b

-- ---- the way from one float of the range to another

-- a float of size b / c and sign t may move by x / c with sign w: as far as the range goes
abbrev Room : Bool → ℕ → Bool → ℕ → ℕ → Type 0
Room true b true x c = b + x ≤ 200 * c
Room true b false x c = x ≤ b + 100 * c
Room false b false x c = b + x ≤ 100 * c
Room false b true x c = x ≤ b + 200 * c

-- a difference: rounded from x / c, for which there is room
record Way (t : Bool) (b c : ℕ) (d : Float) : Type 0 where
  sign : Bool
  size : ℕ
  is : d ≡ round binary64 sign size c
  far : size ≤ 300 * c
  room : Room t b sign size c

module _ (a b c : ℕ) where
  -- v - f, of signs s and t
  way : (s t : Bool) → a ≤ end s * c → b ≤ end t * c → Way t b c (sum binary64 s a (not t) b c)
  unfolding sum
  way false true A B = record { sign = false; size = a + b; is = refl; far = omega arith; room = omega arith }
  way true false A B = record { sign = true; size = a + b; is = refl; far = omega arith; room = omega arith }
  way false false A B = go (ltb a b) (ltb-true a b) (ltb-false a b)
    where
      go : (u : Bool) → (u ≡ true → a < b) → (u ≡ false → b ≤ a) → Way false b c (cond u (round binary64 true (b - a) c) (round binary64 false (a - b) c))
      go true p q = let h = p refl in record { sign = true; size = b - a; is = refl; far = omega arith; room = omega arith }
      go false p q = let h = q refl in record { sign = false; size = a - b; is = refl; far = omega arith; room = omega arith }
  way true true A B = go (ltb a b) (ltb b a) (ltb-true a b) (ltb-false a b) (ltb-true b a) (ltb-false b a)
    where
      go : (u w : Bool) → (u ≡ true → a < b) → (u ≡ false → b ≤ a) → (w ≡ true → b < a) → (w ≡ false → a ≤ b) → Way true b c (cond u (round binary64 false (b - a) c) (round binary64 w (a - b) c))
      go true w p q x y = let h = p refl in record { sign = false; size = b - a; is = refl; far = omega arith; room = omega arith }
      go false true p q x y = let h = x refl in record { sign = true; size = a - b; is = refl; far = omega arith; room = omega arith }
      go false false p q x y = let h = q refl in record { sign = false; size = a - b; is = refl; far = omega arith; room = omega (arith, y refl) }

-- the way, divided by the rate: h units, no longer than the way itself
record Pace (t : Bool) (b c : ℕ) (q : Float) : Type 0 where
  sign : Bool
  size : ℕ
  units : ℕ
  value : HasValue q sign units unit
  less : units * c ≤ size * unit
  room : Room t b sign size c

cancel : (a b u : ℕ) → 0 < u → a * u ≤ b * u → a ≤ b
cancel a b u U h = le_of_mul-le-mul_right h U

pace : (t : Bool) (b c r : ℕ) (d : Float) → 0 < c → 4 ≤ r → r ≤ 2 ^ 53 → Way t b c d → Pace t b c (div binary64 d (num r))
pace t b c r d C R M w =
    let x = w.size in
    let g = grid binary64 x c in
    let v = sign-val w.sign x c (small_grid x c C w.far) in
    let two = twice x c C in
    let U = pow_pos 1074 in
    let most : g ≤ 600 * unit = cancel g (600 * unit) c C (le_trans two (most-of x c w.far)) in
    let quotient = ap (λ (z : Float). div binary64 z (num r)) w.is ∙ div_over (round binary64 w.sign x c) (num r) w.sign g unit r U (omega arith) v (int_value r M) in
    let h = grid binary64 g (r * unit) in
    let RU = mul-pos (lt_of_lt_of_le (omega arith) R) U in
    let again = sign-val w.sign g (r * unit) (small_grid g (r * unit) RU (le_trans most (wide r R))) in
    record {
      sign = w.sign;
      size = x;
      units = h;
      value = subst (λ (z : Float). HasValue z w.sign h unit) (sym quotient) again;
      less = shorter h r g c (x * unit) R (cancel (h * r) (2 * g) unit U (le_trans (le_of_eq (mul_assoc h r unit)) (le_trans (twice g (r * unit) RU) (le_of_eq (sym (mul_assoc 2 g unit)))))) two;
      room = w.room;
    }
  where
    most-of : (x c : ℕ) → x ≤ 300 * c → 2 * (x * unit) ≤ 600 * unit * c
    most-of x c h = le_trans (mul-le-mul_left 2 (mul-le-mul_right unit h)) (le_of_eq (same c))
      where
        same : (c : ℕ) → 2 * (300 * c * unit) ≡ 600 * unit * c
        same c = sym (mul_assoc 2 (300 * c) unit) ∙ ap (λ (z : ℕ). z * unit) (go c) ∙ mul_right_comm 600 c unit
          where
            go : (c : ℕ) → 2 * (300 * c) ≡ 600 * c
            go c = omega arith

    wide : (r : ℕ) → 4 ≤ r → 600 * unit ≤ 300 * (r * unit)
    wide r h = le_trans (mul-le-mul_right unit (go r h)) (le_of_eq (mul_assoc 300 r unit))
      where
        go : (r : ℕ) → 4 ≤ r → 600 ≤ 300 * r
        go r h = omega arith

    shorter : (h r g c y : ℕ) → 4 ≤ r → h * r ≤ 2 * g → g * c ≤ 2 * y → h * c ≤ y
    shorter h r g c y R p q =
        let a : h * c * 4 ≤ h * c * r = mul-le-mul_left (h * c) R in
        let b : h * c * r ≡ h * r * c = mul_right_comm h c r in
        let d : h * r * c ≤ 2 * g * c = mul-le-mul_right c p in
        let e : 2 * g * c ≡ 2 * (g * c) = mul_assoc 2 g c in
        go (h * c) (h * c * r) (g * c) y (le_trans a (le_trans (le_of_eq b) (le_trans d (le_of_eq e)))) q
      where
        go : (x z g y : ℕ) → x * 4 ≤ 2 * g → g ≤ 2 * y → x ≤ y
        go x z g y a b = omega arith

-- ---- the sum
inside-value : (x : Float) (s : Bool) (g : ℕ) → HasValue x s g unit → g ≤ end s * unit → Inside x
inside-value nan s g h k = absurd h
inside-value (inf t) s g h k = absurd h
inside-value (fin t m e) s g h k =
    subst (λ (u : Bool). m * up e ≤ end u * down e) (sym h.0)
    (cancel (m * up e) (end s * down e) unit (pow_pos 1074) (le_trans (le_of_eq h.1) (le_trans (mul-le-mul_right (down e) k) (le_of_eq (mul_right_comm (end s) unit (down e))))))

end_small : (s : Bool) → end s ≤ 300
end_small true = omega arith
end_small false = omega arith

rounded-inside : (s : Bool) (z c : ℕ) → 0 < c → z ≤ end s * c → Inside (round binary64 s z c)
rounded-inside s z c C h =
    let g = grid binary64 z c in
    let small = small_grid z c C (le_trans h (mul-le-mul_right c (end_small s))) in
    let top : HasValue (round binary64 false (end s) 1) false (end s) 1 = round_whole binary64 false (end s) (le_trans (end_small s) (lit≤ tt)) in
    let mono : T (le (round binary64 false z c) (round binary64 false (end s) 1)) = round_mono binary64 z c (end s) 1 C (omega arith) (le_trans (le_of_eq (mul-one z)) h) in
    let k = leb-true (g * 1) (end s * unit) (sym (le-values (round binary64 false z c) (round binary64 false (end s) 1) g unit (end s) 1 (pow_pos 1074) (omega arith) (round_val binary64 z c small) top) ∙ holds (le (round binary64 false z c) (round binary64 false (end s) 1)) mono) in
    inside-value (round binary64 s z c) s g (sign-val s z c small) (le_trans (le_of_eq (sym (mul-one g))) k)

sum_inside : (t w : Bool) (b y c : ℕ) → 0 < c → b ≤ end t * c → Room t b w y c → Inside (sum binary64 t b w y c)
unfolding sum
sum_inside true true b y c C B r = rounded-inside true (b + y) c C r
sum_inside false false b y c C B r = rounded-inside false (b + y) c C r
sum_inside false true b y c C B r = go (ltb b y) (ltb-true b y) (ltb-false b y)
  where
    go : (u : Bool) → (u ≡ true → b < y) → (u ≡ false → y ≤ b) → Inside (cond u (round binary64 true (y - b) c) (round binary64 false (b - y) c))
    go true p q = rounded-inside true (y - b) c C (omega arith)
    go false p q = rounded-inside false (b - y) c C (omega arith)
sum_inside true false b y c C B r = go (ltb b y) (ltb y b) (ltb-true b y) (ltb-false b y) (ltb-false y b)
  where
    go : (u w : Bool) → (u ≡ true → b < y) → (u ≡ false → y ≤ b) → (w ≡ false → b ≤ y) → Inside (cond u (round binary64 false (y - b) c) (round binary64 w (b - y) c))
    go true w p q x = rounded-inside false (y - b) c C (omega arith)
    go false true p q x = rounded-inside true (b - y) c C (omega arith)
    go false false p q x = let h = x refl in rounded-inside false (b - y) c C (omega arith)

-- room by other denominators: b / c = F / D, and Y / E is at most x / c
module _ (b x c F D Y E : ℕ) (C : 0 < c) (same : b * D ≡ F * c) (less : Y * c ≤ x * E) where
  old : F * E * c ≡ b * (D * E)
  old = mul_right_comm F E c ∙ ap (λ (z : ℕ). z * E) (sym same) ∙ mul_assoc b D E

  new : Y * D * c ≤ x * (D * E)
  new = le_trans (le_of_eq (mul_right_comm Y D c)) (le_trans (mul-le-mul_right D less) (le_of_eq (mul_assoc x E D ∙ ap (λ (z : ℕ). x * z) (mul_comm E D))))

  together : (n : ℕ) → b + x ≤ n * c → F * E + Y * D ≤ n * (D * E)
  together n h =
      let p = mul-le-mul_right (D * E) h in
      let q = add-mul b x (D * E) in
      let r = mul_right_comm n c (D * E) in
      let s = add-mul (F * E) (Y * D) c in
      let o = old in
      let w = new in
      cancel (F * E + Y * D) (n * (D * E)) c C (omega arith)

  apart : (n : ℕ) → x ≤ b + n * c → Y * D ≤ F * E + n * (D * E)
  apart n h =
      let p = mul-le-mul_right (D * E) h in
      let q = add-mul b (n * c) (D * E) in
      let r = mul_right_comm n c (D * E) in
      let s = add-mul (F * E) (n * (D * E)) c in
      let o = old in
      let w = new in
      cancel (Y * D) (F * E + n * (D * E)) c C (omega arith)

  room_there : (t w : Bool) → Room t b w x c → Room t (F * E) w (Y * D) (D * E)
  room_there true true h = together 200 h
  room_there true false h = apart 100 h
  room_there false false h = together 100 h
  room_there false true h = apart 200 h

over : (n d e k : ℕ) → n ≤ k * d → n * e ≤ k * (d * e)
over n d e k h = le_trans (mul-le-mul_right e h) (le_of_eq (mul_assoc k d e))

add-inside : (t : Bool) (n : ℕ) (d : ℤ) (b c : ℕ) (q : Float) → 0 < c → b * down d ≡ n * up d * c → n * up d ≤ end t * down d → Pace t b c q → Inside (add binary64 (fin t n d) q)
unfolding add
add-inside t n d b c q C same B p = go q p.value
  where
    go : (q : Float) → HasValue q p.sign p.units unit → Inside (add binary64 (fin t n d) q)
    go nan h = absurd h
    go (inf s) h = absurd h
    go (fin s m e) h =
        subst (λ (u : Bool). Inside (sum binary64 t (n * up d * down e) u (m * up e * down d) (down d * down e))) (sym h.0)
        (sum_inside t p.sign (n * up d * down e) (m * up e * down d) (down d * down e) (mul-pos (down_pos d) (down_pos e)) (over (n * up d) (down d) (down e) (end t) B)
        (room_there b p.size c (n * up d) (down d) (m * up e) (down e) C same (shorter (m * up e) (down e) p.units c p.size h.1 p.less) t p.sign p.room))
      where
        shorter : (Y E u c x : ℕ) → Y * unit ≡ u * E → u * c ≤ x * unit → Y * c ≤ x * E
        shorter Y E u c x e l =
            cancel (Y * c) (x * E) unit (pow_pos 1074)
            (le_trans (le_of_eq (mul_right_comm Y c unit ∙ ap (λ (z : ℕ). z * c) e ∙ mul_right_comm u E c)) (le_trans (mul-le-mul_right E l) (le_of_eq (mul_right_comm x unit E))))

-- the floor after a sample: floor + (v - floor) / rate
pub follows : (rate : ℕ) (f v : Float) → 4 ≤ rate → rate ≤ 2 ^ 53 → is_dbm f ≡ true → is_dbm v ≡ true → is_dbm (add binary64 f (div binary64 (sub binary64 v f) (num rate))) ≡ true
unfolding sub add neg
follows rate f v R M p q = valid (add binary64 f (div binary64 (sub binary64 v f) (num rate))) (go f v (inside_of f p) (inside_of v q))
  where
    go : (f v : Float) → Inside f → Inside v → Inside (add binary64 f (div binary64 (sub binary64 v f) (num rate)))
    go nan v h k = absurd h
    go (inf s) v h k = absurd h
    go (fin t n d) nan h k = absurd k
    go (fin t n d) (inf s) h k = absurd k
    go (fin t n d) (fin s m e) h k =
        let c = down e * down d in
        let C = mul-pos (down_pos e) (down_pos d) in
        let b = n * up d * down e in
        add-inside t n d b c _ C (mul_assoc (n * up d) (down e) (down d)) h
        (pace t b c rate _ C R M
        (way (m * up e * down d) b c s t (over (m * up e) (down e) (down d) (end s) k)
        (le_trans (over (n * up d) (down d) (down e) (end t) h) (le_of_eq (ap (λ (z : ℕ). end t * z) (mul_comm (down d) (down e)))))))

-- ---- a line of samples
module _ (rate : ℕ) (R : 4 ≤ rate) (M : rate ≤ 2 ^ 53) where
  known-valid : (floor : Option Float) (v : Float) → floor_ok floor ≡ true → is_dbm v ≡ true → is_dbm (known floor v) ≡ true
  known-valid None v p q = q
  known-valid (Some f) v p q = p

  hear-floor : (s : Signal) (v : Float) → floor_ok s.floor ≡ true → is_dbm v ≡ true → floor_ok (hear rate s v).floor ≡ true
  unfolding hear loud soft
  hear-floor s v p q = go (lt (add binary64 (known s.floor v) above_db) v)
    where
      go : (t : Bool) → floor_ok (cond t (loud rate s (known s.floor v)) (soft rate s (known s.floor v) v)).floor ≡ true
      go true = known-valid s.floor v p q
      go false = follows rate (known s.floor v) v R M (known-valid s.floor v p q) q

  -- 01: 'The floor stays between -200 and 100'
  pub heard-floor : (s : Signal) (dbm : List Float) → floor_ok s.floor ≡ true → all_dbm dbm ≡ true → floor_ok (heard rate s dbm).floor ≡ true
  unfolding heard all_dbm
  heard-floor s [] p q = p
  heard-floor s (v ∷ dbm) p q = heard-floor (hear rate s v) dbm (hear-floor s v p (and_left (is_dbm v) (all_dbm dbm) q)) (and_right (is_dbm v) (all_dbm dbm) q)
