-- What the words of a frame say, by the end of each, and the line that they make. Assumes nothing.
use Rattle.std.proofs.Common.{Option}
use mathlib.Core.Path.{◌≡◌, refl, sym, ap, ap₂, ◌∙◌}
use mathlib.Core.Bool.{Bool, true, false, cond, ◌&&◌, ◌||◌}
use mathlib.Core.List.{List, []}
use Prim.Native.Nat.{ℕ, ◌+◌, ◌*◌, ◌≤◌}
use native.Mathlib.Omega.{arith}
use lib.Dec.{eqb}
use lib.ListN.{length, take, drop}
use lib.Seq.{sets, sets-eq, take_at}
use borrow.Author.Tests.{eq-eqb, ne_eqb}
use Rattle.frame.specs.declared.header.UplinkFields.{UplinkFields}
use Rattle.uplink.specs.Line.{word, rest, spaces, number_from, bytes_in, are_bytes, is_none, is_bit, bit_in, is_device, is_counter, is_flag, is_payload, payload_in, highest_device, most_counter, fields_of, no_frame, frame_of, meaning_of, meaning}
use Rattle.uplink.proofs.Words.{word_fits, rest_fits, bytes_count}

-- ---- a payload's bytes at the front of a slice

pub front_read : (w out o : List ℕ) (n : ℕ) → length w ≤ 2 * length out → o ≡ sets out 0 (bytes_in w) → n ≡ length (bytes_in w) → take n o ≡ bytes_in w
front_read w out o n h e k =
    let v = bytes_in w in
    ap (take n) (e ∙ sets-eq v out 0 (omega (arith, bytes_count w))) ∙ take_at v (drop (0 + length v) out) n (sym k)

pub payload_read : (w out o : List ℕ) (n : ℕ) → length w ≤ 2 * length out → is_bit w ≡ false → is_none w ≡ false → o ≡ sets out 0 (bytes_in w) → n ≡ length (bytes_in w)
    → take n o ≡ payload_in w
payload_read w out o n h b d e k = front_read w out o n h e k ∙ ap₂ (λ (x y : Bool). cond (x || y) [] (bytes_in w)) (sym b) (sym d)

-- ---- a line

abbrev made : ℕ → ℕ → Option Bool → Bool → UplinkFields
made d c b w = record { device_id = d; counter = c; bit = b; downlink = w }

same_made : (d d' c c' : ℕ) (b b' : Option Bool) (w w' : Bool) → d ≡ d' → c ≡ c' → b ≡ b' → w ≡ w' → made d c b w ≡ made d' c' b' w'
same_made d d' c c' b b' w w' e1 e2 e3 e4 = cc

pub same_fields : (d c p w : List ℕ) (x n : ℕ) (b : Option Bool) (k : ℕ) → x ≡ number_from 16 highest_device 0 d → n ≡ number_from 10 most_counter 0 c → b ≡ bit_in p
    → k ≡ number_from 2 1 0 w → made x n b (eqb k 1) ≡ fields_of d c p w
same_fields d c p w x n b k e1 e2 e3 e4 = same_made _ _ _ _ _ _ _ _ e1 e2 e3 (ap (λ (x : ℕ). eqb x 1) e4)

pub not_five : (l : List ℕ) (n : ℕ) → n ≡ spaces l → (n ≡ 4 → ⊥) → meaning l ≡ no_frame
unfolding meaning
not_five l n e h =
    ap (λ (b : Bool). cond b (meaning_of (word l) (word (rest l)) (word (rest (rest l))) (word (rest (rest (rest l)))) (word (rest (rest (rest (rest l)))))) no_frame)
    (ne_eqb (spaces l) 4 (λ k. h (e ∙ k)))

-- the five words of a line
pub record Five (l d c p w a : List ℕ) : Type 0 where
  pub device : d ≡ word l
  pub counter : c ≡ word (rest l)
  pub payload : p ≡ word (rest (rest l))
  pub flag : w ≡ word (rest (rest (rest l)))
  pub auth : a ≡ word (rest (rest (rest (rest l))))

pub five_words : (l d b1 c b2 p b3 w b4 a : List ℕ) → (d ≡ word l) × (b1 ≡ rest l) → (c ≡ word b1) × (b2 ≡ rest b1) → (p ≡ word b2) × (b3 ≡ rest b2)
    → (w ≡ word b3) × (b4 ≡ rest b3) → a ≡ word b4 → Five l d c p w a
five_words l d b1 c b2 p b3 w b4 a e1 e2 e3 e4 e5 =
    let r2 = e2.1 ∙ ap rest e1.1 in
    let r3 = e3.1 ∙ ap rest r2 in
    let r4 = e4.1 ∙ ap rest r3 in
    record { device = e1.0; counter = e2.0 ∙ ap word e1.1; payload = e3.0 ∙ ap word r2; flag = e4.0 ∙ ap word r3; auth = e5 ∙ ap word r4 }

pub words_fit : (l d c p w a : List ℕ) → Five l d c p w a → (length p ≤ length l) × (length a ≤ length l)
words_fit l d c p w a f = (
  omega (arith, ap length f.payload, word_fits (rest (rest l)), rest_fits (rest l), rest_fits l),
  omega (arith, ap length f.auth, word_fits (rest (rest (rest (rest l)))), rest_fits (rest (rest (rest l))), rest_fits (rest (rest l)), rest_fits (rest l), rest_fits l),
)

module _ (l d c p w a : List ℕ) (n : ℕ) (count : n ≡ spaces l) (four : n ≡ 4) (five : Five l d c p w a) where
  meaning_is : meaning l ≡ meaning_of d c p w a
  unfolding meaning
  meaning_is =
      ap (λ (b : Bool). cond b (meaning_of (word l) (word (rest l)) (word (rest (rest l))) (word (rest (rest (rest l)))) (word (rest (rest (rest (rest l)))))) no_frame)
      (eq-eqb (spaces l) 4 (sym count ∙ four))
      ∙ sym (rw (five.device, five.counter, five.payload, five.flag, five.auth) refl)

  module _ (d1 d2 d3 d4 d5 : Bool) (t1 : d1 ≡ is_device d) (t2 : d2 ≡ is_counter c) (t3 : d3 ≡ is_payload p) (t4 : d4 ≡ is_flag w) (t5 : d5 ≡ are_bytes a) where
    tests : ((is_device d && is_counter c) && (is_payload p && (is_flag w && are_bytes a))) ≡ ((d1 && d2) && (d3 && (d4 && d5)))
    tests = sym (ap₂ ◌&&◌ (ap₂ ◌&&◌ t1 t2) (ap₂ ◌&&◌ t3 (ap₂ ◌&&◌ t4 t5)))

    pub no_words : ((d1 && d2) && (d3 && (d4 && d5))) ≡ false → meaning l ≡ no_frame
    unfolding meaning_of
    no_words e = meaning_is ∙ ap (λ (b : Bool). cond b (frame_of (fields_of d c p w) (payload_in p) (bytes_in a)) no_frame) (tests ∙ e)

    pub a_frame : ((d1 && d2) && (d3 && (d4 && d5))) ≡ true → (f : UplinkFields) (payload auth : List ℕ) → f ≡ fields_of d c p w → payload ≡ payload_in p → auth ≡ bytes_in a
        → frame_of f payload auth ≡ meaning l
    unfolding meaning_of
    a_frame e f payload auth ef e1 e2 =
        ap (λ (g : UplinkFields). frame_of g payload auth) ef ∙ ap₂ (λ (x y : List ℕ). frame_of (fields_of d c p w) x y) e1 e2
        ∙ sym (meaning_is ∙ ap (λ (b : Bool). cond b (frame_of (fields_of d c p w) (payload_in p) (bytes_in a)) no_frame) (tests ∙ e))
