-- The CRC's register a byte at a time. The register is linear over GF(2): what a byte does to it is what the sum of the byte and the register's
-- high byte does to nothing, and that is one of 256 numbers. Assumes nothing.
use mathlib.Core.Path.{◌≡◌, refl, sym, ap, ap₂, ◌∙◌}
use mathlib.Core.Bool.{Bool, true, false, cond, ◌&&◌}
use mathlib.Core.List.{List, [], ◌∷◌}
use Prim.Native.Nat.{ℕ, zero, suc, ◌+◌, ◌*◌, ◌/◌, ◌%◌, ◌<◌}
use native.Mathlib.Nat.{mod-eq_of_lt}
use native.Mathlib.Omega.{arith}
use lib.Bits.{bit_xor, xor_shr, xor_mod, xor_lt, xor_comm, xor_self, xor_zero_l, xor_zero_r, xor_block, xor_shifted}
use lib.Dec.{eqb}
use lib.ListN.{length, replicate}
use borrow.Author.Tests.{eqb-true, eqb-false}
use Rattle.limits.proofs.Samples.{and_left, and_right}
use Rattle.coding.specs.Bits.{plus, odd, digits, value}
use Rattle.coding.specs.Crc.{onto, polynomial}
use Rattle.coding.specs.Register.{step, run}
use Rattle.coding.proofs.Digits.{odd_xor, digits_xor, length_digits, value-digits}
use Rattle.coding.proofs.Division.{onto_assoc, zeros-onto}

-- ---- sums of 16 bits

known : (x : ℕ) → x < 65536 → value (digits 16 x) ≡ x
known x h = value-digits 16 x ∙ mod-eq_of_lt h

xor_assoc : (a b c : ℕ) → a < 65536 → b < 65536 → c < 65536 → bit_xor (bit_xor a b) c ≡ bit_xor a (bit_xor b c)
xor_assoc a b c h k l =
    let ab = xor_lt 16 a b h k in
    let bc = xor_lt 16 b c k l in
    let d = digits 16 in
    sym (known (bit_xor (bit_xor a b) c) (xor_lt 16 (bit_xor a b) c ab l))
    ∙ ap value (digits_xor 16 (bit_xor a b) c ∙ ap (λ (x : List Bool). onto x (d c)) (digits_xor 16 a b)
    ∙ sym (onto_assoc (d a) (d b) (d c) (omega (arith, length_digits 16 a, length_digits 16 b)))
    ∙ ap (onto (d a)) (sym (digits_xor 16 b c)) ∙ sym (digits_xor 16 a (bit_xor b c)))
    ∙ known (bit_xor a (bit_xor b c)) (xor_lt 16 a (bit_xor b c) h bc)

module _ (x y p : ℕ) (h : x < 65536) (k : y < 65536) (l : p < 65536) where
  -- one of two taken out of a sum, and both
  swapped : bit_xor (bit_xor x y) p ≡ bit_xor (bit_xor x p) y
  swapped = xor_assoc x y p h k l ∙ ap (bit_xor x) (xor_comm y p) ∙ sym (xor_assoc x p y h l k)

  both : bit_xor x y ≡ bit_xor (bit_xor x p) (bit_xor y p)
  both =
      sym (xor_assoc x p (bit_xor y p) h l (xor_lt 16 y p k l)
      ∙ ap (bit_xor x) (ap (bit_xor p) (xor_comm y p) ∙ sym (xor_assoc p p y l l k) ∙ ap (λ (z : ℕ). bit_xor z y) (xor_self p) ∙ xor_zero_l y))

-- ---- the register is linear

low : ℕ → ℕ
low c = c % 32768 * 2

low-lt : (c : ℕ) → low c < 65536
unfolding low
low-lt c = omega arith

low_xor : (c d : ℕ) → low (bit_xor c d) ≡ bit_xor (low c) (low d)
unfolding low
low_xor c d =
    let x = c % 32768 in
    let y = d % 32768 in
    ap (λ (z : ℕ). z * 2) (xor_mod c d 15)
    ∙ omega (arith, xor_block 1 x y 0 0 (omega arith) (omega arith), ap₂ bit_xor (let z : x * 2 + 0 ≡ x * 2 = omega arith in z) (let z : y * 2 + 0 ≡ y * 2 = omega arith in z))

top_xor : (c d : ℕ) → odd (bit_xor c d / 32768) ≡ plus (odd (c / 32768)) (odd (d / 32768))
top_xor c d = ap odd (xor_shr c d 15) ∙ odd_xor (c / 32768) (d / 32768)

cross : (u v a b : Bool) → plus (plus u v) (plus a b) ≡ plus (plus u a) (plus v b)
cross false false a b = refl
cross false true false b = refl
cross false true true false = refl
cross false true true true = refl
cross true false false b = refl
cross true false true false = refl
cross true false true true = refl
cross true true false false = refl
cross true true false true = refl
cross true true true b = refl

picked : (x y : ℕ) → x < 65536 → y < 65536 → (s t : Bool)
    → cond (plus s t) (bit_xor (bit_xor x y) polynomial) (bit_xor x y) ≡ bit_xor (cond s (bit_xor x polynomial) x) (cond t (bit_xor y polynomial) y)
picked x y h k false false = refl
picked x y h k false true = xor_assoc x y polynomial h k (omega arith)
picked x y h k true false = swapped x y polynomial h k (omega arith)
picked x y h k true true = both x y polynomial h k (omega arith)

step_xor : (c d : ℕ) (a b : Bool) → step (bit_xor c d) (plus a b) ≡ bit_xor (step c a) (step d b)
unfolding step low
step_xor c d a b =
    let s = plus (odd (c / 32768)) a in
    let t = plus (odd (d / 32768)) b in
    ap₂ (λ (x : ℕ) (e : Bool). cond e (bit_xor x polynomial) x) (low_xor c d)
    (ap (λ (e : Bool). plus e (plus a b)) (top_xor c d) ∙ cross (odd (c / 32768)) (odd (d / 32768)) a b)
    ∙ picked (low c) (low d) (low-lt c) (low-lt d) s t

run_xor : (a b : List Bool) (c d : ℕ) → length a ≡ length b → run (bit_xor c d) (onto a b) ≡ bit_xor (run c a) (run d b)
unfolding run onto
run_xor [] [] c d e = refl
run_xor [] (y ∷ b) c d e = absurd (omega (arith, e))
run_xor (x ∷ a) [] c d e = absurd (omega (arith, e))
run_xor (x ∷ a) (y ∷ b) c d e = ap (λ (z : ℕ). run z (onto a b)) (step_xor c d x y) ∙ run_xor a b (step c x) (step d y) (omega (arith, e))

-- ---- the 256 bytes, computed

zeros : List Bool
zeros = replicate 8 false

-- what the code makes of the sum of a byte and the register's high byte
abbrev pub folded : ℕ → ℕ
folded x = bit_xor (bit_xor (bit_xor x (x / 16) % 16 * 4096) (bit_xor x (x / 16) * 32)) (bit_xor x (x / 16))

-- a byte takes itself out of the register, a low byte moves up, and a high byte comes round as `folded`
abbrev goes : ℕ → Bool
goes x = eqb (run (x * 256) (digits 8 x)) 0 && (eqb (run x zeros) (x * 256) && eqb (run (x * 256) zeros) (folded x))

abbrev all_below : ℕ → Bool
all_below zero = true
all_below (suc n) = goes n && all_below n

all_go : all_below 256 ≡ true
unfolding run step digits zeros
all_go = refl

below : (n : ℕ) → all_below n ≡ true → (x : ℕ) → x < n → goes x ≡ true
below zero t x h = absurd (omega arith)
below (suc n) t x h = choose (eqb x n) (eqb-true x n) (eqb-false x n) (below n (and_right (goes n) (all_below n) t) x)
  where
    choose : (b : Bool) → (b ≡ true → x ≡ n) → (b ≡ false → x ≡ n → ⊥) → (x < n → goes x ≡ true) → goes x ≡ true
    choose true f g r = ap goes (f refl) ∙ and_left (goes n) (all_below n) t
    choose false f g r = r (omega (arith, g refl))

module _ (x : ℕ) (h : x < 256) where
  there : goes x ≡ true
  there = below 256 all_go x h

  abbrev first : Bool
  first = eqb (run (x * 256) (digits 8 x)) 0

  abbrev second : Bool
  second = eqb (run x zeros) (x * 256)

  abbrev third : Bool
  third = eqb (run (x * 256) zeros) (folded x)

  own : run (x * 256) (digits 8 x) ≡ 0
  own = eqb-true _ _ (and_left first (second && third) there)

  moves : run x zeros ≡ x * 256
  moves = eqb-true _ _ (and_left second third (and_right first (second && third) there))

  comes_round : run (x * 256) zeros ≡ folded x
  comes_round = eqb-true _ _ (and_right second third (and_right first (second && third) there))

-- ---- a byte more

onto-self : (l : List Bool) → onto l l ≡ replicate (length l) false
unfolding onto
onto-self [] = refl
onto-self (true ∷ l) = ap (λ (x : List Bool). false ∷ x) (onto-self l)
onto-self (false ∷ l) = ap (λ (x : List Bool). false ∷ x) (onto-self l)

module _ (c b : ℕ) (h : b < 256) where
  -- the register with the byte on its high one
  abbrev met : ℕ
  met = bit_xor c (b * 256)

  taken_out : run met zeros ≡ run c (digits 8 b)
  unfolding zeros
  taken_out =
      let d = digits 8 b in
      sym (ap (run met) (onto-self d ∙ ap (λ (n : ℕ). replicate n false) (length_digits 8 b)))
      ∙ run_xor d d c (b * 256) refl ∙ ap (bit_xor (run c d)) (own b h) ∙ xor_zero_r (run c d)

  high : met / 256 ≡ bit_xor (c / 256) b
  high = xor_shr c (b * 256) 8 ∙ ap (bit_xor (c / 256)) (let z : b * 256 / 256 ≡ b = omega arith in z)

  rest : met % 256 ≡ c % 256
  rest = xor_mod c (b * 256) 8 ∙ ap (bit_xor (c % 256)) (let z : b * 256 % 256 ≡ 0 = omega arith in z) ∙ xor_zero_r (c % 256)

-- the register, taken apart into its two bytes
parted : (y : ℕ) → y / 256 < 256 → run y zeros ≡ bit_xor (y % 256 * 256) (folded (y / 256))
unfolding zeros
parted y h =
    let u = y / 256 * 256 in
    let v = y % 256 in
    let e : y ≡ bit_xor u v = omega (arith, xor_shifted (y / 256) 8 v (omega arith)) in
    ap (λ (x : ℕ). run x zeros) e ∙ ap (run (bit_xor u v)) (sym (zeros-onto 8 zeros))
    ∙ run_xor zeros zeros u v refl ∙ ap₂ bit_xor (comes_round (y / 256) h) (moves v (omega arith)) ∙ xor_comm (folded (y / 256)) (v * 256)

pub byte_more : (c b : ℕ) → c < 65536 → b < 256 → bit_xor (c % 256 * 256) (folded (bit_xor (c / 256) b)) ≡ run c (digits 8 b)
byte_more c b h k =
    let small : met c b k / 256 < 256 = omega (arith, high c b k, xor_lt 8 (c / 256) b (omega arith) k) in
    ap₂ (λ (x y : ℕ). bit_xor (x * 256) (folded y)) (sym (rest c b k)) (sym (high c b k)) ∙ sym (parted (met c b k) small) ∙ taken_out c b k
