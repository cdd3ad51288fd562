-- Bytes one after the other are the bits one after the other, for every list of bytes, every state and every rank. Assumes nothing.
use mathlib.Core.Path.{◌≡◌, refl, sym, ap, ap₂, ◌∙◌}
use mathlib.Core.Bool.{Bool, true, false}
use mathlib.Core.List.{List, [], ◌∷◌, ◌++◌, append_assoc, append-nil}
use Prim.Native.Nat.{ℕ, suc, ◌+◌, ◌*◌, ◌/◌, ◌%◌, ◌<◌}
use native.Mathlib.Nat.{mod-eq_of_lt}
use native.Mathlib.Omega.{arith}
use lib.ListN.{length, take, drop}
use lib.Seq.{take_at, drop_at}
use Rattle.coding.specs.Bits.{odd, bit_of, digits, value, bytes_bits, to_bytes}
use Rattle.coding.specs.Convolution.{State, state_number, numbered, state_after, deconvolved}
use Rattle.coding.proofs.BitLaws.{bit-lt, bit-odd, plus-false}
use Rattle.coding.proofs.Digits.{length_digits, value-digits}
use Rattle.coding.proofs.Values.{digits_value}
use Rattle.coding.proofs.ByteLists.{length-bytes-bits}
use Rattle.coding.proofs.Codes.{deconvolve-append, length-deconvolved, state-append}
use Rattle.conv_tables.specs.Tables.{inputs, decoded_byte, next_state}
use Rattle.bytewise.specs.Steps.{by_bytes, state_bytes}

-- ---- states and their numbers

pub number_lt : (s : State) → state_number s < 4
number_lt s = omega (arith, bit-lt s.last, bit-lt s.second)

pub number_back : (s : State) → numbered (state_number s) ≡ s
number_back s = go s.last s.second
  where
    go : (a b : Bool) → numbered (2 * bit_of a + bit_of b) ≡ record { last = a; second = b }
    go true true = refl
    go true false = refl
    go false true = refl
    go false false = refl

-- ---- one byte

length-inputs : (rank n b : ℕ) → length (inputs rank n b) ≡ 8
length-inputs rank n b = length-deconvolved rank (numbered n) (digits 8 b) ∙ length_digits 8 b

pub byte-bits : (rank n b : ℕ) → digits 8 (decoded_byte rank n b) ≡ inputs rank n b
unfolding decoded_byte
byte-bits rank n b = ap (λ (k : ℕ). digits k (value (inputs rank n b))) (sym (length-inputs rank n b)) ∙ digits_value (inputs rank n b)

pub next-state : (rank n b : ℕ) → numbered (next_state rank n b) ≡ state_after (numbered n) (inputs rank n b)
unfolding next_state
next-state rank n b = number_back (state_after (numbered n) (inputs rank n b))

pub next-lt : (rank n b : ℕ) → next_state rank n b < 4
unfolding next_state
next-lt rank n b = number_lt (state_after (numbered n) (inputs rank n b))

-- rank 0 has no code: a byte is decoded to itself, and its last two bits are the state
no_code : (s : State) (l : List Bool) → deconvolved 0 s l ≡ l
unfolding deconvolved
no_code s [] = refl
no_code s (b ∷ l) = ap₂ ◌∷◌ (plus-false b) (no_code _ l)

pub copied : (n b : ℕ) → b < 256 → b ≡ decoded_byte 0 n b
unfolding decoded_byte
copied n b h = sym (ap value (no_code (numbered n) (digits 8 b)) ∙ value-digits 8 b ∙ mod-eq_of_lt h)

pub copied-state : (n b : ℕ) → 2 * (b % 2) + b / 2 % 2 ≡ next_state 0 n b
unfolding next_state state_after digits
copied-state n b =
    ap₂ (λ (x y : ℕ). 2 * x + y) (sym (bit-odd b)) (sym (bit-odd (b / 2)))
    ∙ ap (λ (x : ℕ). 2 * bit_of (odd x) + bit_of (odd (b / 2))) (let e : b ≡ b / 1 = omega arith in e)
    ∙ ap (λ (l : List Bool). state_number (state_after (numbered n) l)) (sym (no_code (numbered n) (digits 8 b)))

-- ---- all bytes, and bits behind them

rest_from : (rank n b : ℕ) (bs : List ℕ) (l : List Bool)
    → deconvolved rank (numbered n) (bytes_bits (b ∷ bs) ++ l) ≡ inputs rank n b ++ deconvolved rank (numbered (next_state rank n b)) (bytes_bits bs ++ l)
unfolding bytes_bits
rest_from rank n b bs l =
    ap (deconvolved rank (numbered n)) (append_assoc (digits 8 b) (bytes_bits bs) l)
    ∙ deconvolve-append rank (numbered n) (digits 8 b) (bytes_bits bs ++ l)
    ∙ ap (λ (s : State). inputs rank n b ++ deconvolved rank s (bytes_bits bs ++ l)) (sym (next-state rank n b))

-- as lists of bits
pub bits-agree : (rank n : ℕ) (bytes : List ℕ) (l : List Bool)
    → deconvolved rank (numbered n) (bytes_bits bytes ++ l) ≡ bytes_bits (by_bytes rank n bytes) ++ deconvolved rank (numbered (state_bytes rank n bytes)) l
unfolding by_bytes state_bytes bytes_bits
bits-agree rank n [] l = refl
bits-agree rank n (b ∷ bs) l =
    rest_from rank n b bs l
    ∙ ap₂ ◌++◌ (sym (byte-bits rank n b)) (bits-agree rank (next_state rank n b) bs l)
    ∙ sym (append_assoc (digits 8 (decoded_byte rank n b)) (bytes_bits (by_bytes rank (next_state rank n b) bs)) _)

-- as bytes
pub bytes-agree : (rank n : ℕ) (bytes : List ℕ) (l : List Bool) → to_bytes (length bytes) (deconvolved rank (numbered n) (bytes_bits bytes ++ l)) ≡ by_bytes rank n bytes
unfolding by_bytes to_bytes decoded_byte
bytes-agree rank n [] l = refl
bytes-agree rank n (b ∷ bs) l =
    let x = inputs rank n b in
    let r = deconvolved rank (numbered (next_state rank n b)) (bytes_bits bs ++ l) in
    ap (λ (z : List Bool). value (take 8 z) ∷ to_bytes (length bs) (drop 8 z)) (rest_from rank n b bs l)
    ∙ ap₂ ◌∷◌ (ap value (take_at x r 8 (length-inputs rank n b)))
    (ap (to_bytes (length bs)) (drop_at x r 8 (length-inputs rank n b)) ∙ bytes-agree rank (next_state rank n b) bs l)

-- the state after them, and the bits behind them
pub length_by_bytes : (rank n : ℕ) (bytes : List ℕ) → length (by_bytes rank n bytes) ≡ length bytes
unfolding by_bytes
length_by_bytes rank n [] = refl
length_by_bytes rank n (b ∷ bs) = ap suc (length_by_bytes rank (next_state rank n b) bs)

module _ (rank n : ℕ) (bytes : List ℕ) (l : List Bool) where
  pub rest_agrees : drop (8 * length bytes) (deconvolved rank (numbered n) (bytes_bits bytes ++ l)) ≡ deconvolved rank (numbered (state_bytes rank n bytes)) l
  rest_agrees =
      let x = bytes_bits (by_bytes rank n bytes) in
      ap (drop (8 * length bytes)) (bits-agree rank n bytes l)
      ∙ drop_at x (deconvolved rank (numbered (state_bytes rank n bytes)) l) (8 * length bytes)
      (length-bytes-bits (by_bytes rank n bytes) ∙ ap (λ (k : ℕ). 8 * k) (length_by_bytes rank n bytes))

pub states_agree : (rank n : ℕ) (bytes : List ℕ) → numbered (state_bytes rank n bytes) ≡ state_after (numbered n) (deconvolved rank (numbered n) (bytes_bits bytes))
unfolding state_bytes state_after bytes_bits deconvolved
states_agree rank n [] = refl
states_agree rank n (b ∷ bs) =
    let r = deconvolved rank (numbered (next_state rank n b)) (bytes_bits bs) in
    states_agree rank (next_state rank n b) bs
    ∙ ap (λ (s : State). state_after s r) (next-state rank n b)
    ∙ sym (state-append (numbered n) (inputs rank n b) r)
    ∙ ap (λ (z : List Bool). state_after (numbered n) (inputs rank n b ++ deconvolved rank (numbered (next_state rank n b)) z)) (sym (append-nil (bytes_bits bs)))
    ∙ ap (state_after (numbered n)) (sym (rest_from rank n b bs []))
    ∙ ap (λ (z : List Bool). state_after (numbered n) (deconvolved rank (numbered n) z)) (append-nil (bytes_bits (b ∷ bs)))

-- all bits' state
pub state_agrees : (rank n : ℕ) (bytes : List ℕ) (l : List Bool)
    → state_after (numbered (state_bytes rank n bytes)) (deconvolved rank (numbered (state_bytes rank n bytes)) l)
    ≡ state_after (numbered n) (deconvolved rank (numbered n) (bytes_bits bytes ++ l))
state_agrees rank n bytes l =
    let x = deconvolved rank (numbered n) (bytes_bits bytes) in
    ap (λ (s : State). state_after s (deconvolved rank s l)) (states_agree rank n bytes)
    ∙ sym (state-append (numbered n) x (deconvolved rank (state_after (numbered n) x) l))
    ∙ ap (state_after (numbered n)) (sym (deconvolve-append rank (numbered n) (bytes_bits bytes) l))

pub state-lt : (rank n : ℕ) (bytes : List ℕ) → n < 4 → state_bytes rank n bytes < 4
unfolding state_bytes
state-lt rank n [] h = h
state-lt rank n (b ∷ bs) h = state-lt rank (next_state rank n b) bs (next-lt rank n b)
