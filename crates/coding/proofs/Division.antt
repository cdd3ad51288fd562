-- Long division, one bit of the message at a time: the register is what the bits so far have put onto those to come. Assumes nothing.
use mathlib.Core.Path.{◌≡◌, refl, sym, ap, ap₂, ◌∙◌}
use mathlib.Core.Bool.{Bool, true, false, not, cond}
use mathlib.Core.List.{List, [], ◌∷◌, ◌++◌, map, append_assoc, append-nil}
use Prim.Native.Nat.{ℕ, zero, suc, ◌-◌, ◌*◌, ◌/◌, ◌%◌, ◌^◌, ◌≤◌, ◌<◌}
use native.Mathlib.Nat.{le_of_suc-le-suc, not-suc-le-zero, le_refl}
use native.Mathlib.Omega.{arith}
use lib.Bits.{bit_xor, xor_comm, xor_lt}
use lib.ListN.{length, replicate, length-append, length-replicate}
use Rattle.coding.specs.Bits.{plus, odd, digits, value, bytes_bits}
use Rattle.coding.specs.Crc.{onto, polynomial, divisor, remainder, crc_remainder, crc_bits}
use Rattle.coding.specs.Register.{step, run}
use Rattle.coding.proofs.BitLaws.{plus-false}
use Rattle.coding.proofs.Digits.{digits_xor, digits_double, digits_mod, length_digits, value-digits, value_not}

plus_assoc : (a b c : Bool) → plus a (plus b c) ≡ plus (plus a b) c
plus_assoc false b c = refl
plus_assoc true false c = refl
plus_assoc true true false = refl
plus_assoc true true true = refl

pub onto_assoc : (a b p : List Bool) → length a ≤ length b → onto a (onto b p) ≡ onto (onto a b) p
unfolding onto
onto_assoc [] b p h = refl
onto_assoc (x ∷ a) [] p h = absurd (not-suc-le-zero h)
onto_assoc (x ∷ a) (y ∷ b) [] h = refl
onto_assoc (x ∷ a) (y ∷ b) (z ∷ p) h = ap₂ ◌∷◌ (plus_assoc x y z) (onto_assoc a b p (le_of_suc-le-suc h))

onto_snoc : (a p : List Bool) → length a < length p → onto (a ++ (false ∷ [])) p ≡ onto a p
unfolding onto
onto_snoc [] [] h = absurd (not-suc-le-zero h)
onto_snoc [] (b ∷ p) h = refl
onto_snoc (x ∷ a) [] h = refl
onto_snoc (x ∷ a) (b ∷ p) h = ap (λ (l : List Bool). plus x b ∷ l) (onto_snoc a p (le_of_suc-le-suc h))

onto-zeros : (a : List Bool) → onto a (replicate (length a) false) ≡ a
unfolding onto
onto-zeros [] = refl
onto-zeros (x ∷ a) = ap₂ ◌∷◌ (plus-false x) (onto-zeros a)

pub zeros-onto : (n : ℕ) (p : List Bool) → onto (replicate n false) p ≡ p
unfolding onto
zeros-onto zero p = refl
zeros-onto (suc n) [] = refl
zeros-onto (suc n) (b ∷ p) = ap (λ (l : List Bool). b ∷ l) (zeros-onto n p)

low : ℕ → ℕ
low c = c % 32768 * 2

low-digits : (c : ℕ) → digits 16 (low c) ≡ digits 15 c ++ (false ∷ [])
unfolding low
low-digits c = digits_double 15 (c % 32768) ∙ ap (λ (l : List Bool). l ++ (false ∷ [])) (digits_mod 15 15 c (le_refl 15))

xor_digits : (c : ℕ) → digits 16 (bit_xor (low c) polynomial) ≡ onto divisor (digits 16 (low c))
unfolding divisor
xor_digits c = ap (digits 16) (xor_comm (low c) polynomial) ∙ digits_xor 16 polynomial (low c)

pub sixteen : length divisor ≡ 16
unfolding divisor
sixteen = length_digits 16 polynomial

pick : (c n : ℕ) (q : List Bool) → 15 < length q → (t : Bool) → remainder (suc n) (t ∷ onto (digits 15 c) q) ≡ remainder n (onto (digits 16 (cond t (bit_xor (low c) polynomial) (low c))) q)
unfolding remainder
pick c n q h false = ap (remainder n) (sym (ap (λ (d : List Bool). onto d q) (low-digits c) ∙ onto_snoc (digits 15 c) q (omega (arith, length_digits 15 c))))
pick c n q h true =
    ap (remainder n)
    (ap (onto divisor) (sym (ap (λ (d : List Bool). onto d q) (low-digits c) ∙ onto_snoc (digits 15 c) q (omega (arith, length_digits 15 c))))
    ∙ onto_assoc divisor (digits 16 (low c)) q (omega (arith, length_digits 16 (low c), sixteen))
    ∙ ap (λ (d : List Bool). onto d q) (sym (xor_digits c)))

pub division : (m : List Bool) (c : ℕ) → remainder (length m) (onto (digits 16 c) (m ++ replicate 16 false)) ≡ digits 16 (run c m)
unfolding remainder run step onto digits low
division [] c = onto-zeros (digits 16 c)
division (b ∷ m) c =
    pick c (length m) (m ++ replicate 16 false) (omega (arith, length-append m (replicate 16 false), length-replicate 16 false)) (plus (odd (c / 32768)) b)
    ∙ division m (step c b)

step-lt : (c : ℕ) (b : Bool) → step c b < 65536
unfolding step
step-lt c b = go (plus (odd (c / 32768)) b)
  where
    go : (t : Bool) → cond t (bit_xor (c % 32768 * 2) polynomial) (c % 32768 * 2) < 65536
    go false = omega arith
    go true = xor_lt 16 (c % 32768 * 2) polynomial (omega arith) (omega arith)

pub run-lt : (m : List Bool) (c : ℕ) → c < 65536 → run c m < 65536
unfolding run
run-lt [] c h = h
run-lt (b ∷ m) c h = run-lt m (step c b) (step-lt c b)

zero-digits : replicate 16 false ≡ digits 16 0
unfolding digits
zero-digits = refl

pub crc_is : (m : List Bool) → crc_bits m ≡ 65535 - run 0 m
unfolding crc_bits crc_remainder
crc_is m =
    let e : remainder (length m) (m ++ replicate 16 false) ≡ digits 16 (run 0 m) =
    ap (remainder (length m)) (sym (zeros-onto 16 (m ++ replicate 16 false)) ∙ ap (λ (d : List Bool). onto d (m ++ replicate 16 false)) zero-digits) ∙ division m 0 in
    ap (λ (l : List Bool). value (map not l)) e
    ∙ omega (arith, value_not (digits 16 (run 0 m)), value-digits 16 (run 0 m), run-lt m 0 (omega arith), ap (λ (k : ℕ). 2 ^ k) (length_digits 16 (run 0 m)))

pub run-append : (a b : List Bool) (c : ℕ) → run c (a ++ b) ≡ run (run c a) b
unfolding run
run-append [] b c = refl
run-append (x ∷ a) b c = run-append a b (step c x)

pub bytes_snoc : (xs : List ℕ) (y : ℕ) → bytes_bits (xs ++ (y ∷ [])) ≡ bytes_bits xs ++ digits 8 y
unfolding bytes_bits
bytes_snoc [] y = append-nil (digits 8 y)
bytes_snoc (x ∷ xs) y = ap (λ (l : List Bool). digits 8 x ++ l) (bytes_snoc xs y) ∙ sym (append_assoc (digits 8 x) (bytes_bits xs) (digits 8 y))
