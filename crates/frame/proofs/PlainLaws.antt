-- The plain bits of a body, a bit and a byte at a time. Assumes nothing.
use mathlib.Core.Path.{◌≡◌, refl, sym, ap, ap₂, ◌∙◌}
use mathlib.Core.Bool.{Bool, true, false, cond}
use mathlib.Core.List.{List, [], ◌∷◌, ◌++◌}
use Prim.Native.Nat.{ℕ, zero, suc, ◌+◌, ◌-◌, ◌*◌, ◌/◌, ◌%◌, ◌^◌, ◌≤◌, ◌<◌}
use native.Mathlib.Nat.{pow-suc}
use native.Mathlib.Omega.{arith}
use native.Mathlib.Numerals.{add-one}
use lib.ListN.{length, take, drop, get_or, set, replicate}
use lib.Dec.{eqb}
use lib.Seq.{set_at, take-add, drop-drop, append_snoc, length-take-le}
use Rattle.coding.specs.Bits.{plus, odd, bit_of, value, to_bytes}
use Rattle.coding.specs.Convolution.{State, fresh, tap, shift, state_of, state_after, deconvolved}
use Rattle.coding.proofs.BitLaws.{odd-bit, bit-lt}
use Rattle.coding.proofs.Values.{value-below, value-next}
use Rattle.coding.proofs.ByteLists.{length-bytes}
use Rattle.coding.proofs.Codes.{length-deconvolved, deconvolve_at, deconvolve-drop, state-next, state-append}
use Rattle.frame.specs.Fields.{padded}
use Rattle.frame.specs.Plain.{ending, NextByte}

-- ---- one bit more of `rest`, from a state

module _ (rank : ℕ) (s : State) (rest : List Bool) where
  abbrev pub plain_bits : List Bool
  plain_bits = deconvolved rank s rest

  module _ (j a b x y : ℕ) (h : j < length rest) (d : state_of a b ≡ state_after s (take j plain_bits)) (e : y ≡ bit_of (get_or rest j false))
      (f : x ≡ bit_of (plus (odd y) (tap rank (state_of a b)))) where
    pub next_bit : x ≡ bit_of (get_or plain_bits j false)
    next_bit =
        f ∙ ap₂ (λ (u : Bool) (t : State). bit_of (plus u (tap rank t))) (ap odd e ∙ odd-bit (get_or rest j false)) d
        ∙ ap bit_of (sym (deconvolve_at rank s rest j h))

    pub next-state : state_of x a ≡ state_after s (take (j + 1) plain_bits)
    next-state =
        let u : odd x ≡ get_or plain_bits j false = ap odd next_bit ∙ odd-bit (get_or plain_bits j false) in
        ap (shift (state_of a b)) u ∙ ap (λ (t : State). shift t (get_or plain_bits j false)) d
        ∙ sym (ap (λ (k : ℕ). state_after s (take k plain_bits)) (add-one j) ∙ state-next s plain_bits j (omega (arith, length-deconvolved rank s rest)))

    pub next-number : (v : ℕ) → j < 8 → v ≡ value (take j plain_bits) → v % 128 * 2 + x ≡ value (take (j + 1) plain_bits)
    next-number v k g =
        let n : j < length plain_bits = omega (arith, length-deconvolved rank s rest) in
        omega (arith, g, next_bit, value-below plain_bits j 7 (omega arith) (omega arith), value-next plain_bits j n)

-- after j of a byte's bits: their number, and the state
pub record Part (rank : ℕ) (s : State) (rest : List Bool) (j v a b : ℕ) : Type 0 where
  pub few : j ≤ 8
  pub low_a : a < 2
  pub low-b : b < 2
  pub state : state_of a b ≡ state_after s (take j (plain_bits rank s rest))
  pub number : v ≡ value (take j (plain_bits rank s rest))

odd_low : (x : ℕ) → odd (x % 2) ≡ odd x
odd_low x = ap (λ (y : ℕ). eqb y 1) (let z : x % 2 % 2 ≡ x % 2 = omega arith in z)

-- the number of two bits or more ends as they do
same_ending : (x : Bool) (n v : ℕ) → ending (cond x (2 ^ suc (suc n)) 0 + v) ≡ ending v
same_ending false n v = ap ending (let z : 0 + v ≡ v = omega arith in z)
same_ending true n v =
    let e : 2 ^ suc (suc n) ≡ 4 * 2 ^ n = omega (arith, pow-suc 2 (suc n), pow-suc 2 n) in
    ap₂ (λ (x y : ℕ). record { last = eqb x 1; second = eqb y 1 })
    (let z : (2 ^ suc (suc n) + v) % 2 ≡ v % 2 = omega (arith, e) in z) (let z : (2 ^ suc (suc n) + v) / 2 % 2 ≡ v / 2 % 2 = omega (arith, e) in z)

ends : (s : State) (w : List Bool) → 2 ≤ length w → ending (value w) ≡ state_after s w
unfolding value state_after
ends s [] h = absurd (omega arith)
ends s (x ∷ []) h = absurd (omega arith)
ends s (true ∷ true ∷ []) h = refl
ends s (true ∷ false ∷ []) h = refl
ends s (false ∷ true ∷ []) h = refl
ends s (false ∷ false ∷ []) h = refl
ends s (x ∷ y ∷ z ∷ l) h = same_ending x (length l) (value (y ∷ z ∷ l)) ∙ ends (shift s x) (y ∷ z ∷ l) (omega arith)

module _ (rank last : ℕ) (rest : List Bool) where
  pub part_none : Part rank (ending last) rest 0 0 (last % 2) (last / 2 % 2)
  unfolding value state_after
  part_none = record { few = omega arith; low_a = omega arith; low-b = omega arith; state = ap₂ (λ (x y : Bool). record { last = x; second = y }) (odd_low last) (odd_low (last / 2)); number = refl }

  pub part_more : (j v a b x y : ℕ) → Part rank (ending last) rest j v a b → j < 8 → j < length rest → y ≡ bit_of (get_or rest j false)
      → x ≡ bit_of (plus (odd y) (tap rank (state_of a b))) → Part rank (ending last) rest (j + 1) (v % 128 * 2 + x) x a
  part_more j v a b x y r k h e f = record {
    few = omega arith;
    low_a = omega (arith, f, bit-lt (plus (odd y) (tap rank (state_of a b))));
    low-b = r.low_a;
    state = next-state rank (ending last) rest j a b x y h r.state e f;
    number = next-number rank (ending last) rest j a b x y h r.state e f v k r.number;
  }

  pub part-whole : (j v a b : ℕ) → Part rank (ending last) rest j v a b → 8 ≤ j → 8 ≤ length rest → NextByte rank rest last v
  part-whole j v a b r h k =
      let z = plain_bits rank (ending last) rest in
      let e : v ≡ value (take 8 z) = r.number ∙ ap (λ (i : ℕ). value (take i z)) (let y : j ≡ 8 = omega (arith, r.few) in y) in
      record { byte = e; state = ap ending e ∙ ends (ending last) (take 8 z) (omega (arith, length-take-le 8 z (omega (arith, length-deconvolved rank (ending last) rest)))) }

-- ---- one byte more

bytes_snoc : (n : ℕ) (l : List Bool) → to_bytes (suc n) l ≡ to_bytes n l ++ (value (take 8 (drop (8 * n) l)) ∷ [])
unfolding to_bytes
bytes_snoc zero l = refl
bytes_snoc (suc n) l =
    let e : 8 + 8 * n ≡ 8 * suc n = omega arith in
    ap (λ (r : List ℕ). value (take 8 l) ∷ r)
    (bytes_snoc n (drop 8 l) ∙ ap (λ (r : List Bool). to_bytes n (drop 8 l) ++ (value (take 8 r) ∷ [])) (drop-drop (8 * n) 8 l ∙ ap (λ (k : ℕ). drop k l) e))

-- an array of m places with the first bytes in it
abbrev pub held : ℕ → ℕ → List Bool → List ℕ
held m i l = to_bytes i l ++ replicate (m - i) 0

pub held_next : (m i v : ℕ) (l : List Bool) → i < m → v ≡ value (take 8 (drop (8 * i) l)) → set (held m i l) i v ≡ held m (i + 1) l
held_next m i v l h e =
    let k : m - i ≡ suc (m - (i + 1)) = omega arith in
    ap (λ (n : ℕ). set (to_bytes i l ++ replicate n 0) i v) k
    ∙ set_at (to_bytes i l) 0 (replicate (m - (i + 1)) 0) v i (length-bytes i l)
    ∙ ap (λ (x : ℕ). to_bytes i l ++ (x ∷ replicate (m - (i + 1)) 0)) e
    ∙ sym (append_snoc (to_bytes i l) (value (take 8 (drop (8 * i) l))) (replicate (m - (i + 1)) 0))
    ∙ ap (λ (t : List ℕ). t ++ replicate (m - (i + 1)) 0) (sym (bytes_snoc i l))
    ∙ ap (λ (n : ℕ). to_bytes n l ++ replicate (m - (i + 1)) 0) (sym (add-one i))

pub held_all : (m i n : ℕ) (l : List Bool) → i ≡ n → held m i l ≡ padded m (to_bytes n l)
held_all m i n l e =
    ap (λ (k : ℕ). held m k l) e ∙ ap (λ (k : ℕ). to_bytes n l ++ replicate (m - k) 0) (sym (length-bytes n l))

module _ (rank : ℕ) (l : List Bool) (i p q : ℕ) where
  abbrev whole : List Bool
  whole = deconvolved rank fresh l

  module _ (d : state_of p q ≡ state_after fresh (take (8 * i) whole)) where
    -- what is left, from the state reached
    pub left_is : deconvolved rank (state_of p q) (drop (8 * i) l) ≡ drop (8 * i) whole
    left_is = ap (λ (t : State). deconvolved rank t (drop (8 * i) l)) d ∙ sym (deconvolve-drop (8 * i) rank fresh l)

    pub state-byte : state_after (state_of p q) (take 8 (deconvolved rank (state_of p q) (drop (8 * i) l))) ≡ state_after fresh (take (8 * (i + 1)) whole)
    state-byte =
        let e : 8 * i + 8 ≡ 8 * (i + 1) = omega arith in
        ap₂ (λ (t : State) (r : List Bool). state_after t (take 8 r)) d left_is
        ∙ sym (state-append fresh (take (8 * i) whole) (take 8 (drop (8 * i) whole)))
        ∙ ap (state_after fresh) (sym (take-add (8 * i) 8 whole)) ∙ ap (λ (k : ℕ). state_after fresh (take k whole)) e
