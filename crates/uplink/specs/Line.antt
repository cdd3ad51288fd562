-- What a line of `uplink`'s input means (README.md, 'Test frames'): five words with a space between each, in characters' numbers. Assumes nothing.
use Rattle.std.specs.Prelude.{ℕ, suc, ◌+◌, ◌-◌, ◌*◌, ◌%◌, min, Bool, cond, ◌&&◌, ◌||◌, List, [], ◌∷◌, ltb, leb, eqb, length, take, get_or, Option, None, Some}
use Rattle.std.specs.List.{list_all}
use Rattle.frame.specs.declared.header.UplinkFields.{UplinkFields}
use Rattle.uplink.specs.declared.line.Parsed.{Parsed}

-- ---- words

abbrev pub space : ℕ
space = 32

-- what stands before the first space
unfoldable pub word : List ℕ → List ℕ
word [] = []
word (c ∷ l) = cond (eqb c space) [] (c ∷ word l)

-- what stands behind it
unfoldable pub rest : List ℕ → List ℕ
rest [] = []
rest (c ∷ l) = cond (eqb c space) l (rest l)

unfoldable pub spaces : List ℕ → ℕ
spaces [] = 0
spaces (c ∷ l) = cond (eqb c space) (suc (spaces l)) (spaces l)

-- ---- digits

-- the value of 0 to 9, a to f, A to F; 16 for any other character
unfoldable pub digit_of : ℕ → ℕ
digit_of c = cond (leb 48 c && ltb c 58) (c - 48) (cond (leb 97 c && ltb c 103) (c - 87) (cond (leb 65 c && ltb c 71) (c - 55) 16))

abbrev pub are_digits : ℕ → List ℕ → Bool
are_digits base l = list_all (λ (c : ℕ). ltb (digit_of c) base) l

-- the number of digits after n, `most` where it is more
unfoldable pub number_from : ℕ → ℕ → ℕ → List ℕ → ℕ
unfolding digit_of
number_from base most n [] = n
number_from base most n (c ∷ l) = number_from base most (min (n * base + digit_of c) most) l

-- two hexadecimal digits a byte
unfoldable pub bytes_in : List ℕ → List ℕ
unfolding digit_of
bytes_in [] = []
bytes_in (a ∷ []) = []
bytes_in (a ∷ b ∷ l) = (digit_of a * 16 + digit_of b) % 256 ∷ bytes_in l

-- ---- the words of a frame

abbrev pub highest_device : ℕ
highest_device = 4294967295

-- a counter that is more is handed over as this, which `write_uplink` refuses too
abbrev pub most_counter : ℕ
most_counter = 65535

-- 'device in 8 hex digits'
abbrev pub is_device : List ℕ → Bool
is_device w = eqb (length w) 8 && are_digits 16 w

-- 'counter in decimal'
abbrev pub is_counter : List ℕ → Bool
is_counter w = ltb 0 (length w) && are_digits 10 w

-- whole bytes in hex, at least one
abbrev pub are_bytes : List ℕ → Bool
are_bytes w = ltb 0 (length w) && (eqb (length w % 2) 0 && are_digits 16 w)

-- '0/1'
abbrev pub is_flag : List ℕ → Bool
is_flag w = eqb (length w) 1 && are_digits 2 w

-- '-' for no payload
abbrev pub is_none : List ℕ → Bool
is_none w = eqb (length w) 1 && eqb (get_or w 0 0) 45

-- 'bit0' or 'bit1'
abbrev pub is_bit : List ℕ → Bool
is_bit w = eqb (length w) 4 && (eqb (get_or w 0 0) 98 && (eqb (get_or w 1 0) 105 && (eqb (get_or w 2 0) 116 && ltb (digit_of (get_or w 3 0)) 2)))

abbrev pub bit_in : List ℕ → Option Bool
bit_in w = cond (is_bit w) (Some (eqb (digit_of (get_or w 3 0)) 1)) None

-- 'payload in hex, or `-` for none, or `bit0`/`bit1`'
abbrev pub is_payload : List ℕ → Bool
is_payload w = is_bit w || (is_none w || are_bytes w)

abbrev pub payload_in : List ℕ → List ℕ
payload_in w = cond (is_bit w || is_none w) [] (bytes_in w)

-- ---- a line

-- what `write_uplink` is handed, or no frame
pub data Meaning : Type 0 where
  no_frame : Meaning
  frame_of : UplinkFields → List ℕ → List ℕ → Meaning

abbrev pub fields_of : List ℕ → List ℕ → List ℕ → List ℕ → UplinkFields
fields_of d c p w = record {
  device_id = number_from 16 highest_device 0 d;
  counter = number_from 10 most_counter 0 c;
  bit = bit_in p;
  downlink = eqb (number_from 2 1 0 w) 1;
}

unfoldable pub meaning_of : List ℕ → List ℕ → List ℕ → List ℕ → List ℕ → Meaning
meaning_of d c p w a =
    cond ((is_device d && is_counter c) && (is_payload p && (is_flag w && are_bytes a))) (frame_of (fields_of d c p w) (payload_in p) (bytes_in a)) no_frame

unfoldable pub meaning : List ℕ → Meaning
unfolding meaning_of word rest spaces
meaning l =
    let l1 = rest l in
    let l2 = rest l1 in
    let l3 = rest l2 in
    cond (eqb (spaces l) 4) (meaning_of (word l) (word l1) (word l2) (word l3) (word (rest l3))) no_frame

-- what `parse` answers and leaves in its two slices, as a meaning
abbrev pub meant : Option Parsed → List ℕ → List ℕ → Meaning
meant None payload auth = no_frame
meant (Some r) payload auth = frame_of r.fields (take r.payload_len payload) (take r.auth_len auth)
