-- A float that lies between two fractions of 1,024: what rounding, products, quotients and sums keep of that, and what it says of a whole number that the float is rounded to or compared with.
-- A 1,024th is finer than the nearest miss of every rounding and every comparison with a count of samples, and coarse enough that all 1,024ths up to 2^41 are floats. Assumes nothing.
use mathlib.Core.Path.{◌≡◌, refl, sym, ap, ◌∙◌, subst}
use mathlib.Core.Bool.{Bool, true, false, true≢false}
use Prim.Native.Nat.{ℕ, suc, ◌+◌, ◌-◌, ◌*◌, ◌/◌, ◌^◌, ◌≤◌, ◌<◌}
use native.Mathlib.Nat.{le_trans, le_of_eq, lt_of_lt_of_le, lt_of_le_of_lt, mul_assoc, mul_comm, mul_right_comm, mul_left_comm, mul-one, one-mul, add-mul, suc-mul, mul-sub, mul-pos, mul-lt-mul_of_pos_right, mul-le-mul_right, le_of_mul-le-mul_right, le-div_iff_mul-le, div-lt_iff_lt-mul, le_antisymm}
use native.Mathlib.Omega.{arith}
use lib.Dec.{T, leb, ltb, lit≤, le→leb, leb→le}
use lib.IntN.{negsuc}
use lib.Pow.{pow_pos, shl_lt}
use lib.Ieee.{Float, nan, inf, fin, binary64, up, down, round, add, sub, mul, div, lt, le, of_int, of_bits, in_float, to_unsigned}
use lib.Ieee.Exact.{HasValue, round_exact}
use lib.Ieee.Order.{round_mono}
use lib.Ieee.Back.{round_whole, unsigned_back}
use lib.Ieee.Scale.{grid, round_val}
use lib.Ieee.Positive as P
use Rattle.floats.specs.Floor.{floor, round_half_up}
use Rattle.floats.specs.Number.{num}
use Rattle.floats.proofs.Floors.{floor_of_lem}
use Rattle.rates.specs.Rounding.{round_half_away}
use Rattle.rates.proofs.Near.{grid_lt, add_at, sub_at, div_at, int_value}
use Rattle.rates.proofs.Opposed.{opposed}
use Rattle.rates.proofs.Values.{same_ltb, same_leb, lt-values, le-values}

-- l / 1024 <= v <= u / 1024, for a v that is not below zero
pub record Lies (v : Float) (l u : ℕ) : Type 0 where
  pub own : HasValue v false (P.num v) (P.den v)
  pub low : l * P.den v ≤ P.num v * 1024
  pub high : P.num v * 1024 ≤ u * P.den v

-- a factor a / c above zero
pub record Factor (q : Float) (a c : ℕ) : Type 0 where
  pub over_zero : (0 < a) × (0 < c)
  pub value : HasValue q false a c

pub positive_factor : {q : Float} {a c : ℕ} → Factor q a c → T (P.positive q)
positive_factor {q} {a} {c} k = P.positive_of_value q a c k.value k.over_zero.0

module _ {v : Float} {l u : ℕ} (h : Lies v l u) where
  ordered : l ≤ u
  ordered = le_of_mul-le-mul_right (le_trans h.low h.high) (P.den_pos v)

  pub lies_positive : 0 < l → T (P.positive v)
  lies_positive L = P.positive_of_value v (P.num v) (P.den v) h.own (P.first_pos (P.num v) 1024 (lt_of_lt_of_le (mul-pos L (P.den_pos v)) h.low))

-- ---- where floats lie

exact : (a : ℕ) → a < 2 ^ 53 → HasValue (round binary64 false a 1024) false a 1024
exact a A = round_exact binary64 false a 1024 a 1064 (omega arith) A (lt_of_lt_of_le (shl_lt 53 1064 A) (lit≤ tt)) (sym (mul_assoc a (2 ^ 1064) 1024))

in_order : (x y : Float) (a c b d : ℕ) → 0 < c → 0 < d → HasValue x false a c → HasValue y false b d → T (le x y) → a * d ≤ b * c
in_order x y a c b d C D h k t = leb→le (a * d) (b * c) (subst T (le-values x y a c b d C D h k) t)

own_of : (v : Float) (a c : ℕ) → HasValue v false a c → HasValue v false (P.num v) (P.den v)
own_of nan a c h = absurd h
own_of (inf s) a c h = absurd h
own_of (fin s m e) a c h = (h.0, refl)

-- a fraction that the float equals
pub of_value : (v : Float) (a c l u : ℕ) → 0 < c → HasValue v false a c → l * c ≤ a * 1024 → a * 1024 ≤ u * c → Lies v l u
of_value v a c l u C h lo hi =
    let e : P.num v * c ≡ a * P.den v = P.value→cross v a c h in
    record {
      own = own_of v a c h;
      low = P.through l a (P.num v) 1024 c (P.den v) C lo (le_of_eq (sym e));
      high = P.through (P.num v) a u (P.den v) c 1024 C (le_of_eq e) hi;
    }

-- rounding is monotone, and the bounds are floats
pub rounded : (a c l u : ℕ) → 0 < c → (l ≤ u) × (u < 2 ^ 53) → l * c ≤ a * 1024 → a * 1024 ≤ u * c → Lies (round binary64 false a c) l u
rounded a c l u C s h k =
    let v = round binary64 false a c in
    let g = grid binary64 a c in
    let hv : HasValue v false g (2 ^ 1074) = round_val binary64 a c (lt_of_lt_of_le (grid_lt binary64 a c C 1064 small) (lit≤ tt)) in
    let lo = in_order (round binary64 false l 1024) v l 1024 g (2 ^ 1074) (omega arith) (pow_pos 1074) (exact l (omega arith)) hv (round_mono binary64 l 1024 a c (omega arith) C h) in
    let hi = in_order v (round binary64 false u 1024) g (2 ^ 1074) u 1024 (pow_pos 1074) (omega arith) hv (exact u (omega arith)) (round_mono binary64 a c u 1024 C (omega arith) k) in
    of_value v g (2 ^ 1074) l u (pow_pos 1074) hv lo hi
  where
    small : a * 2 ^ 1074 < 2 ^ 1117 * c
    small =
        lt_of_le_of_lt (le_of_eq (sym (mul_assoc a 1024 (2 ^ 1064))))
        (lt_of_lt_of_le (mul-lt-mul_of_pos_right (lt_of_le_of_lt k (mul-lt-mul_of_pos_right s.1 C)) (pow_pos 1064)) (le_of_eq (mul_right_comm (2 ^ 53) c (2 ^ 1064))))

pub whole_lies : (n : ℕ) → n ≤ 2 ^ 53 → Lies (num n) (1024 * n) (1024 * n)
whole_lies n M = of_value (num n) n 1 (1024 * n) (1024 * n) (omega arith) (int_value n M) (omega arith) (omega arith)

pub whole_factor : (n : ℕ) → 0 < n → n ≤ 2 ^ 53 → Factor (num n) n 1
whole_factor n N M = record { over_zero = (N, omega arith); value = int_value n M }

-- a quotient of whole numbers
pub quotient_lies : (a c l u : ℕ) → (0 < c) × (a ≤ 2 ^ 53) × (c ≤ 2 ^ 53) × (l ≤ u) × (u < 2 ^ 53) × (l * c ≤ a * 1024) × (a * 1024 ≤ u * c) → Lies (div binary64 (num a) (num c)) l u
quotient_lies a c l u s =
    subst (λ (w : Float). Lies w l u) (sym (div_at binary64 (num a) (num c) a c s.0 (int_value a s.1) (int_value c s.2)))
    (rounded a c l u s.0 (s.3, s.4) s.5 s.6)

-- products commute
pub flipped : (x y : Float) → T (P.positive x) → T (P.positive y) → mul binary64 x y ≡ mul binary64 y x
flipped x y p q =
    P.mul_at binary64 x y (P.num x) (P.den x) (P.num y) (P.den y) p q (P.den_pos x) (P.den_pos y) (P.own_value x p) (P.own_value y q)
    ∙ ap (λ (z : ℕ). round binary64 false z (P.den x * P.den y)) (mul_comm (P.num x) (P.num y))
    ∙ ap (λ (z : ℕ). round binary64 false (P.num y * P.num x) z) (mul_comm (P.den x) (P.den y))
    ∙ sym (P.mul_at binary64 y x (P.num y) (P.den y) (P.num x) (P.den x) q p (P.den_pos y) (P.den_pos x) (P.own_value y q) (P.own_value x p))

-- l / e <= x / d, times a / c, is m / e or more; and the same from above
product-low : (m c l a d x e : ℕ) → m * c ≤ l * a → l * d ≤ x * e → m * (d * c) ≤ x * a * e
product-low m c l a d x e p q =
    le_trans (le_of_eq (ap (λ (z : ℕ). m * z) (mul_comm d c) ∙ sym (mul_assoc m c d)))
    (le_trans (mul-le-mul_right d p)
    (le_trans (le_of_eq (mul_right_comm l a d)) (le_trans (mul-le-mul_right a q) (le_of_eq (mul_right_comm x e a)))))

product_high : (n c u a d x e : ℕ) → u * a ≤ n * c → x * e ≤ u * d → x * a * e ≤ n * (d * c)
product_high n c u a d x e p q =
    le_trans (le_of_eq (mul_right_comm x a e))
    (le_trans (mul-le-mul_right a q)
    (le_trans (le_of_eq (mul_right_comm u d a)) (le_trans (mul-le-mul_right d p) (le_of_eq (mul_assoc n c d ∙ ap (λ (z : ℕ). n * z) (mul_comm c d))))))

-- a product with a factor, on the right and on the left
module _ {x q : Float} {l u a c : ℕ} (h : Lies x l u) (k : Factor q a c) (m n : ℕ) (s : (0 < m) × (m ≤ n) × (n < 2 ^ 53) × (m * c ≤ l * a) × (u * a ≤ n * c)) where
  positive_there : T (P.positive x)
  positive_there = lies_positive h (P.first_pos l a (lt_of_lt_of_le (mul-pos s.0 k.over_zero.1) s.3))

  pub times_lies : Lies (mul binary64 x q) m n
  times_lies =
      subst (λ (w : Float). Lies w m n)
      (sym (P.mul_at binary64 x q (P.num x) (P.den x) a c positive_there (positive_factor k) (P.den_pos x) k.over_zero.1 h.own k.value))
      (rounded (P.num x * a) (P.den x * c) m n (mul-pos (P.den_pos x) k.over_zero.1) (s.1, s.2)
      (product-low m c l a (P.den x) (P.num x) 1024 s.3 h.low) (product_high n c u a (P.den x) (P.num x) 1024 s.4 h.high))

  pub left_times_lies : Lies (mul binary64 q x) m n
  left_times_lies = subst (λ (w : Float). Lies w m n) (flipped x q positive_there (positive_factor k)) times_lies

-- the same float by a larger denominator
widened : (x : Float) (t : Bool) (a c k : ℕ) → HasValue x t a c → HasValue x t (a * k) (c * k)
widened nan t a c k h = absurd h
widened (inf s) t a c k h = absurd h
widened (fin s m e) t a c k h = (h.0, go (m * up e) a c k (down e) h.1)
  where
    go : (x a c k d : ℕ) → x * c ≡ a * d → x * (c * k) ≡ a * k * d
    go x a c k d p = sym (mul_assoc x c k) ∙ ap (λ (z : ℕ). z * k) p ∙ mul_right_comm a d k

sub-mul : (a b d : ℕ) → (a - b) * d ≡ a * d - b * d
sub-mul a b d = mul_comm (a - b) d ∙ mul-sub d a b ∙ ap (λ (z : ℕ). z - d * b) (mul_comm d a) ∙ ap (λ (z : ℕ). a * d - z) (mul_comm d b)

-- a bound of a fraction, by the product of two denominators
scaled : (l d n k : ℕ) → l * d ≤ n * 1024 → l * (d * k) ≤ n * k * 1024
scaled l d n k h = le_trans (le_of_eq (sym (mul_assoc l d k))) (le_trans (mul-le-mul_right k h) (le_of_eq (mul_right_comm n 1024 k)))

scaled-high : (u d n k : ℕ) → n * 1024 ≤ u * d → n * k * 1024 ≤ u * (d * k)
scaled-high u d n k h = le_trans (le_of_eq (mul_right_comm n k 1024)) (le_trans (mul-le-mul_right k h) (le_of_eq (mul_assoc u d k)))

-- a sum, and a difference that is not below zero
module _ {v w : Float} {l u m n : ℕ} (h : Lies v l u) (k : Lies w m n) where
  abbrev d : ℕ
  d = P.den v * P.den w

  abbrev a : ℕ
  a = P.num v * P.den w

  abbrev b : ℕ
  b = P.num w * P.den v

  D : 0 < d
  D = mul-pos (P.den_pos v) (P.den_pos w)

  first : HasValue v false a d
  first = widened v false (P.num v) (P.den v) (P.den w) h.own

  second : HasValue w false b d
  second = subst (λ (z : ℕ). HasValue w false b z) (mul_comm (P.den w) (P.den v)) (widened w false (P.num w) (P.den w) (P.den v) k.own)

  first_low : l * d ≤ a * 1024
  first_low = scaled l (P.den v) (P.num v) (P.den w) h.low

  first_high : a * 1024 ≤ u * d
  first_high = scaled-high u (P.den v) (P.num v) (P.den w) h.high

  second-low : m * d ≤ b * 1024
  second-low = subst (λ (z : ℕ). m * z ≤ b * 1024) (mul_comm (P.den w) (P.den v)) (scaled m (P.den w) (P.num w) (P.den v) k.low)

  second-high : b * 1024 ≤ n * d
  second-high = subst (λ (z : ℕ). b * 1024 ≤ n * z) (mul_comm (P.den w) (P.den v)) (scaled-high n (P.den w) (P.num w) (P.den v) k.high)

  pub plus_lies : u + n < 2 ^ 53 → Lies (add binary64 v w) (l + m) (u + n)
  plus_lies U =
      let O = ordered h in
      let Q = ordered k in
      subst (λ (x : Float). Lies x (l + m) (u + n)) (sym (add_at binary64 v w a b d D first second))
      (rounded (a + b) d (l + m) (u + n) D (omega arith) (low l m d a b first_low second-low) (high u n d a b first_high second-high))
    where
      low : (l m d a b : ℕ) → l * d ≤ a * 1024 → m * d ≤ b * 1024 → (l + m) * d ≤ (a + b) * 1024
      low l m d a b h k = rw (add-mul l m d) (omega arith)

      high : (u n d a b : ℕ) → a * 1024 ≤ u * d → b * 1024 ≤ n * d → (a + b) * 1024 ≤ (u + n) * d
      high u n d a b h k = rw (add-mul u n d) (omega arith)

  pub minus_lies : n ≤ l → u < 2 ^ 53 → Lies (sub binary64 v w) (l - n) (u - m)
  minus_lies N U =
      let O = ordered h in
      let Q = ordered k in
      subst (λ (x : Float). Lies x (l - n) (u - m)) (sym (sub_at binary64 v w a b d D (below l n d a b N first_low second-high) first second))
      (rounded (a - b) d (l - n) (u - m) D (omega arith) (low l n d a b first_low second-high) (high u m d a b first_high second-low))
    where
      below : (l n d a b : ℕ) → n ≤ l → l * d ≤ a * 1024 → b * 1024 ≤ n * d → b ≤ a
      below l n d a b N h k = let p : n * d ≤ l * d = mul-le-mul_right d N in omega arith

      low : (l n d a b : ℕ) → l * d ≤ a * 1024 → b * 1024 ≤ n * d → (l - n) * d ≤ (a - b) * 1024
      low l n d a b h k = let e : (l - n) * d ≡ l * d - n * d = sub-mul l n d in omega arith

      high : (u m d a b : ℕ) → a * 1024 ≤ u * d → m * d ≤ b * 1024 → (a - b) * 1024 ≤ (u - m) * d
      high u m d a b h k = let e : (u - m) * d ≡ u * d - m * d = sub-mul u m d in omega arith

minus_one : HasValue (of_int binary64 (negsuc 0)) true 1 1
unfolding of_int
minus_one = round_whole binary64 true 1 (lit≤ tt)

-- v less 1
pub less_lies : {v : Float} {l u : ℕ} → Lies v l u → u < 2 ^ 53 → 1024 < l → Lies (add binary64 (of_int binary64 (negsuc 0)) v) (l - 1024) (u - 1024)
less_lies {v} {l} {u} h U L =
    let d = P.den v in
    let n = P.num v in
    let O = ordered h in
    let one : HasValue (of_int binary64 (negsuc 0)) true (1 * d) (1 * d) = widened (of_int binary64 (negsuc 0)) true 1 1 d minus_one in
    let b : d < n = big l d n (P.den_pos v) L h.low in
    subst (λ (w : Float). Lies w (l - 1024) (u - 1024))
    (sym (opposed binary64 true (of_int binary64 (negsuc 0)) v d n d (P.den_pos v) b (subst (λ (z : ℕ). HasValue (of_int binary64 (negsuc 0)) true z z) (one-mul d) one) h.own))
    (rounded (n - d) d (l - 1024) (u - 1024) (P.den_pos v) (omega arith) (low l d n h.low) (high u d n b h.high))
  where
    big : (l d n : ℕ) → 0 < d → 1024 < l → l * d ≤ n * 1024 → d < n
    big l d n D L h = let m : 1025 * d ≤ l * d = mul-le-mul_right d L in omega arith

    low : (l d n : ℕ) → l * d ≤ n * 1024 → (l - 1024) * d ≤ (n - d) * 1024
    low l d n h = let m : (l - 1024) * d ≡ l * d - 1024 * d = sub-mul l 1024 d in omega arith

    high : (u d n : ℕ) → d < n → n * 1024 ≤ u * d → (n - d) * 1024 ≤ (u - 1024) * d
    high u d n b h = let m : (u - 1024) * d ≡ u * d - 1024 * d = sub-mul u 1024 d in omega arith

-- ---- v and a whole number d

-- u / 1024 < d, u / 1024 <= d, d <= l / 1024, d < l / 1024, each of the float's own fraction n / k
under : (u d n k : ℕ) → 0 < k → u < 1024 * d → n * 1024 ≤ u * k → n < d * k
under u d n k K g h =
    let m : suc u * k ≤ 1024 * d * k = mul-le-mul_right k g in
    let x : suc u * k ≡ u * k + k = suc-mul u k in
    let y : 1024 * d * k ≡ 1024 * (d * k) = mul_assoc 1024 d k in
    omega arith

at_most_lem : (u d n k : ℕ) → u ≤ 1024 * d → n * 1024 ≤ u * k → n ≤ d * k
at_most_lem u d n k g h =
    let m : u * k ≤ 1024 * d * k = mul-le-mul_right k g in
    let y : 1024 * d * k ≡ 1024 * (d * k) = mul_assoc 1024 d k in
    omega arith

at_least : (l d n k : ℕ) → 1024 * d ≤ l → l * k ≤ n * 1024 → d * k ≤ n
at_least l d n k g h =
    let m : 1024 * d * k ≤ l * k = mul-le-mul_right k g in
    let y : 1024 * d * k ≡ 1024 * (d * k) = mul_assoc 1024 d k in
    omega arith

over : (l d n k : ℕ) → 0 < k → 1024 * d < l → l * k ≤ n * 1024 → d * k < n
over l d n k K g h =
    let m : suc (1024 * d) * k ≤ l * k = mul-le-mul_right k g in
    let x : suc (1024 * d) * k ≡ 1024 * d * k + k = suc-mul (1024 * d) k in
    let y : 1024 * d * k ≡ 1024 * (d * k) = mul_assoc 1024 d k in
    omega arith

-- compared, by a test that the bounds decide
module _ {v : Float} {l u : ℕ} (h : Lies v l u) (d : ℕ) (small : d ≤ 2 ^ 53) where
  one_pos : 0 < 1
  one_pos = omega arith

  bare : P.num v * 1 ≡ P.num v
  bare = mul-one (P.num v)

  pub below-whole : (a b : ℕ) → (a < b → u < 1024 * d) → (b ≤ a → 1024 * d ≤ l) → lt v (num d) ≡ ltb a b
  below-whole a b f g =
      lt-values v (num d) (P.num v) (P.den v) d 1 (P.den_pos v) one_pos h.own (int_value d small)
      ∙ ap (λ (z : ℕ). ltb z (d * P.den v)) bare
      ∙ same_ltb (P.num v) (d * P.den v) a b (λ x. under u d (P.num v) (P.den v) (P.den_pos v) (f x) h.high) (λ x. at_least l d (P.num v) (P.den v) (g x) h.low)

  pub above-whole : (a b : ℕ) → (a < b → 1024 * d < l) → (b ≤ a → u ≤ 1024 * d) → lt (num d) v ≡ ltb a b
  above-whole a b f g =
      lt-values (num d) v d 1 (P.num v) (P.den v) one_pos (P.den_pos v) (int_value d small) h.own
      ∙ ap (λ (z : ℕ). ltb (d * P.den v) z) bare
      ∙ same_ltb (d * P.den v) (P.num v) a b (λ x. over l d (P.num v) (P.den v) (P.den_pos v) (f x) h.low) (λ x. at_most_lem u d (P.num v) (P.den v) (g x) h.high)

  pub up_to_whole : (a b : ℕ) → (a ≤ b → u ≤ 1024 * d) → (b < a → 1024 * d < l) → le v (num d) ≡ leb a b
  up_to_whole a b f g =
      le-values v (num d) (P.num v) (P.den v) d 1 (P.den_pos v) one_pos h.own (int_value d small)
      ∙ ap (λ (z : ℕ). leb z (d * P.den v)) bare
      ∙ same_leb (P.num v) (d * P.den v) a b (λ x. at_most_lem u d (P.num v) (P.den v) (f x) h.high) (λ x. over l d (P.num v) (P.den v) (P.den_pos v) (g x) h.low)

-- ---- v rounded to a whole number k

-- a whole number as a float, and back
pub back : (k : ℕ) → k < 2 ^ 53 → to_unsigned 64 (round binary64 false k 1) ≡ k
unfolding of_int in_float
back k h = (unsigned_back binary64 64 k (le→leb k (2 ^ 53) (omega arith)) (omega arith)).1

-- the quotient of a fraction between l and u 1,024ths
quotient_is : (n d l u k : ℕ) → 0 < d → l * d ≤ n * 1024 → n * 1024 ≤ u * d → 1024 * k ≤ l → u < 1024 * suc k → n / d ≡ k
quotient_is n d l u k D low high lo hi = le_antisymm (go (n / d) k ((div-lt_iff_lt-mul D).1 (under u (suc k) n d D hi high))) ((le-div_iff_mul-le D).1 (at_least l k n d lo low))
  where
    go : (a b : ℕ) → a < suc b → a ≤ b
    go a b h = omega arith

pub floored : {v : Float} {l u : ℕ} → Lies v l u → (k : ℕ) → (k < 2 ^ 53) × (1024 * k ≤ l) × (u < 1024 * suc k) → to_unsigned 64 (floor v) ≡ k
floored {v} {l} {u} h k s =
    ap (to_unsigned 64) (floor_of_lem v false (P.num v) (P.den v) (P.den_pos v) h.own)
    ∙ ap (λ (z : ℕ). to_unsigned 64 (round binary64 false z 1)) (quotient_is (P.num v) (P.den v) l u k (P.den_pos v) h.low h.high s.1 s.2)
    ∙ back k s.0

-- halves up, as demod.rs rounds
half_lies : Lies (of_bits binary64 0x3fe0_0000_0000_0000) 512 512
unfolding of_bits
half_lies = of_value (of_bits binary64 0x3fe0_0000_0000_0000) 1 2 512 512 (omega arith) (refl, refl) (omega arith) (omega arith)

pub rounded_up_lem : {v : Float} {l u : ℕ} → Lies v l u → (k : ℕ) → (u ≤ 2 ^ 30) × (1024 * k ≤ l + 512) × (u + 512 < 1024 * suc k) → to_unsigned 64 (round_half_up v) ≡ k
unfolding round_half_up
rounded_up_lem {v} {l} {u} h k s = let O = ordered h in floored (plus_lies h half_lies (omega arith)) k (omega arith)

-- halves away from zero, as receiver.rs rounds
away : (v : Float) (l u k : ℕ) → Lies v l u → k < 2 ^ 53 → 1024 * k ≤ l + 512 → u + 512 < 1024 * suc k → to_unsigned 64 (round_half_away v) ≡ k
unfolding round_half_away
away nan l u k h K lo hi = absurd h.own
away (inf s) l u k h K lo hi = absurd h.own
away (fin true m e) l u k h K lo hi = absurd (true≢false h.own.0)
away (fin false m e) l u k h K lo hi =
    let d = down e in
    let n = m * up e in
    ap (λ (z : ℕ). to_unsigned 64 (round binary64 false z 1))
    (quotient_is (2 * n + d) (2 * d) (l + 512) (u + 512) k (double d (P.den_pos (fin false m e))) (low l d n h.low) (high u d n h.high) lo hi)
    ∙ back k K
  where
    double : (d : ℕ) → 0 < d → 0 < 2 * d
    double d D = omega arith

    low : (l d n : ℕ) → l * d ≤ n * 1024 → (l + 512) * (2 * d) ≤ (2 * n + d) * 1024
    low l d n h = rw (add-mul l 512 (2 * d), mul_left_comm l 2 d) (omega arith)

    high : (u d n : ℕ) → n * 1024 ≤ u * d → (2 * n + d) * 1024 ≤ (u + 512) * (2 * d)
    high u d n h = rw (add-mul u 512 (2 * d), mul_left_comm u 2 d) (omega arith)

pub rounded-away : {v : Float} {l u : ℕ} → Lies v l u → (k : ℕ) → (u ≤ 2 ^ 30) × (1024 * k ≤ l + 512) × (u + 512 < 1024 * suc k) → to_unsigned 64 (round_half_away v) ≡ k
rounded-away {v} {l} {u} h k s = let O = ordered h in away v l u k h (omega arith) s.1 s.2
