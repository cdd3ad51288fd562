-- The theorems of specs/Agreement.antt: by the tables and bit by bit alike. Assumes nothing.
use mathlib.Core.Path.{◌≡◌, refl, sym, ap, ap₂, ◌∙◌}
use mathlib.Core.Bool.{Bool}
use mathlib.Core.List.{List, [], ◌∷◌, ◌++◌, map, append-nil}
use Prim.Native.Nat.{ℕ, zero, suc, ◌+◌, ◌*◌, ◌/◌, ◌≤◌, ◌<◌}
use native.Mathlib.Omega.{arith}
use lib.ListN.{length, take, drop, take-append-drop, length-append, length-drop}
use lib.Seq.{take_at}
use Rattle.limits.specs.Answer.{accepted, answer, number, leaves}
use Rattle.coding.specs.Bits.{odd, bit_of, bytes_bits, to_bytes}
use Rattle.coding.specs.Convolution.{State, numbered, state_after, deconvolved}
use Rattle.coding.proofs.BitLaws.{odd-bit, length-map-odd}
use Rattle.coding.proofs.Codes.{length-deconvolved}
use Rattle.coding.proofs.ByteLists.{length-bytes-bits, length-bytes, bytes_bits_lem, byte-lt}
use Rattle.conv_tables.specs.Tables.{decoded_byte, next_state}
use Rattle.conv_tables.proofs.TableLaws.{decoded-entry, next-entry}
use Rattle.bytewise.specs.Steps.{by_bytes, state_bytes}
use Rattle.bytewise.specs.Answers.{state_is, bytes_cause, undone, bytes_answer, bytes_out, rest_out}
use Rattle.bytewise.specs.Agreement.{by_tables, state_by_tables, Bytes, BytesAgree, StatesAgree, AnyLength, CallAgrees}
use Rattle.bytewise.proofs.Walk.{next-lt, bits-agree, states_agree}

-- ---- the tables' walk is the rule's

tables_walk : (rank n : ℕ) (bytes : List ℕ) → 1 ≤ rank → rank ≤ 2 → n < 4 → Bytes bytes
    → (by_tables rank n bytes ≡ by_bytes rank n bytes) × (state_by_tables rank n bytes ≡ state_bytes rank n bytes)
unfolding by_tables state_by_tables by_bytes state_bytes
tables_walk rank n [] h k l m = (refl, refl)
tables_walk rank n (b ∷ bs) h k l m =
    let d = decoded-entry rank n b h k l (m 0) in
    let s = next-entry rank n b h k l (m 0) in
    let r = tables_walk rank (next_state rank n b) bs h k (next-lt rank n b) (λ i. m (suc i)) in (
      ap₂ (λ (x y : ℕ). x ∷ by_tables rank y bs) d s ∙ ap (λ (t : List ℕ). decoded_byte rank n b ∷ t) r.0,
      ap (λ (y : ℕ). state_by_tables rank y bs) s ∙ r.1,
    )

pub bytes-agree : BytesAgree
unfolding deconvolved
bytes-agree rank n bytes h k l m =
    ap bytes_bits (tables_walk rank n bytes h k l m).0
    ∙ sym (append-nil (bytes_bits (by_bytes rank n bytes))) ∙ sym (bits-agree rank n bytes []) ∙ ap (deconvolved rank (numbered n)) (append-nil (bytes_bits bytes))

pub states_alike : StatesAgree
states_alike rank n bytes h k l m = ap numbered (tables_walk rank n bytes h k l m).1 ∙ states_agree rank n bytes

taken : (x : List ℕ) (w : ℕ) → length x ≡ w → take w x ≡ x
taken x w e = ap (take w) (sym (append-nil x)) ∙ take_at x [] w e

pub any_length : AnyLength
any_length rank n l h k m =
    let w = length l / 8 in
    let bytes = to_bytes w l in
    let r = drop (8 * w) l in
    let t = tables_walk rank n bytes h k m (λ i. byte-lt w i l) in
    let front : bytes_bits bytes ≡ take (8 * w) l =
    ap bytes_bits (sym (taken bytes w (length-bytes w l))) ∙ bytes_bits_lem w w l (omega arith) (omega arith) in
    ap₂ (λ (x : List ℕ) (s : ℕ). bytes_bits x ++ deconvolved rank (numbered s) r) t.0 t.1
    ∙ sym (bits-agree rank n bytes r) ∙ ap (λ (z : List Bool). deconvolved rank (numbered n) (z ++ r)) front
    ∙ ap (deconvolved rank (numbered n)) (take-append-drop (8 * w) l)

-- ---- an accepted call

-- it has no cause, its state is the definition's, and it left all bytes and bits
record Accepted (cause : ℕ) (v s : State) (new old after new-rest old-rest after-rest : List ℕ) : Type 0 where
  state : s ≡ v
  wrote : after ≡ new
  wrote-rest : after-rest ≡ new-rest

accepts : (cause : ℕ) (v s : State) (new old after new-rest old-rest after-rest : List ℕ) → accepted s ≡ answer cause v → after ≡ leaves cause new old
    → after-rest ≡ leaves cause new-rest old-rest → Accepted cause v s new old after new-rest old-rest after-rest
unfolding answer leaves number
accepts zero v s new old after new-rest old-rest after-rest g a b = record { state = cc; wrote = a; wrote-rest = b }
accepts (suc n) v s new old after new-rest old-rest after-rest g a b = absurd (omega (arith, ap number g))

odd-bits : (l : List Bool) → map odd (map bit_of l) ≡ l
odd-bits [] = refl
odd-bits (b ∷ l) = ap₂ ◌∷◌ (odd-bit b) (odd-bits l)

length-bits : (l : List Bool) → length (map bit_of l) ≡ length l
length-bits [] = refl
length-bits (b ∷ l) = ap suc (length-bits l)

pub call_agrees : CallAgrees
unfolding bytes_answer bytes_out rest_out undone
call_agrees bytes rest rank start out out_rest after after_rest r s c e =
    let n = length bytes in
    let m = length rest in
    let plain = deconvolved rank (state_is start) (bytes_bits bytes ++ map odd rest) in
    let back = drop (8 * n) plain in
    let size : length plain ≡ 8 * n + m =
    length-deconvolved rank (state_is start) (bytes_bits bytes ++ map odd rest) ∙ length-append (bytes_bits bytes) (map odd rest)
    ∙ ap₂ ◌+◌ (length-bytes-bits bytes) (length-map-odd rest) in
    let back-size : length (map bit_of back) ≡ m = length-bits back ∙ omega (arith, size, length-drop (8 * n) plain) in
    let a = accepts (bytes_cause bytes rest rank (length out) (length out_rest)) (state_after (state_is start) plain) s (to_bytes n plain ++ drop n out) out after
    (map bit_of back ++ drop m out_rest) out_rest after_rest (sym e ∙ c.answered) c.left c.left_rest in
    let front : bytes_bits (take n after) ≡ take (8 * n) plain =
    ap (λ (l : List ℕ). bytes_bits (take n l)) a.wrote ∙ ap bytes_bits (take_at (to_bytes n plain) (drop n out) n (length-bytes n plain))
    ∙ ap bytes_bits (sym (taken (to_bytes n plain) n (length-bytes n plain))) ∙ bytes_bits_lem n n plain (omega arith) (omega (arith, size)) in
    let last : map odd (take m after_rest) ≡ back =
    ap (λ (l : List ℕ). map odd (take m l)) a.wrote-rest ∙ ap (map odd) (take_at (map bit_of back) (drop m out_rest) m back-size) ∙ odd-bits back in
    (ap₂ ◌++◌ front last ∙ take-append-drop (8 * n) plain, a.state)
