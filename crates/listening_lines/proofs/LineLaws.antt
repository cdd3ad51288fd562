-- The parts of a line. Assumes nothing.
use Prim.Native.Nat.{ℕ, ◌+◌, ◌≤◌, ◌<◌, min}
use mathlib.Core.Path.{◌≡◌, refl, sym, ◌∙◌}
use mathlib.Core.List.{List, [], ◌∷◌, ◌++◌, append_assoc}
use native.Mathlib.Omega.{arith}
use borrow.Author.Tests.{eq-eqb, ne_eqb}
use lib.ListN.{length, take, drop, get_or, length-take, length-drop}
use lib.Seq.{get_or-take}
use Rattle.std.proofs.lemmas.List.{take_min}
use Rattle.record.specs.Readers.{rank_of, payload_len_of, device_of, counter_of, payload_of}
use Rattle.listening_lines.specs.Text.{decimal, hex_bytes, hex}
use Rattle.listening_lines.specs.Lines.{sender_text, payload_text, space, dash}
use Rattle.listening_lines.proofs.TextLaws.{hex_more}

pub no_payload : (e : List ℕ) (n : ℕ) → n ≡ payload_len_of e → n ≡ 0 → dash ≡ payload_text e
unfolding payload_text
no_payload e n p z = rw (eq-eqb (payload_len_of e) 0 (sym p ∙ z)) refl

-- the first n bytes of the payload's 12 are all that its text has
pub whole-payload : (e : List ℕ) (n i : ℕ) → n ≡ payload_len_of e → (n ≡ 0 → ⊥) → i ≡ min n 12 → 28 ≤ length e → hex_bytes (take i (payload_of e)) ≡ payload_text e
unfolding payload_text
whole-payload e n i p z q h =
    let k : length (payload_of e) ≡ 12 = rw (length-take 12 (drop 16 e), length-drop 16 e) (omega arith) in
    rw (ne_eqb (payload_len_of e) 0 (λ (w : payload_len_of e ≡ 0). z (p ∙ w)), ← p, q, ← take_min n (payload_of e), k) refl

-- a turn of the payload's loop
pub payload_more : (e : List ℕ) (k i : ℕ) → 28 ≤ length e → i < k → k ≤ 12 → hex_bytes (take i (payload_of e)) ++ hex 2 (get_or (take k (drop 16 e)) i 0) ≡ hex_bytes (take (i + 1) (payload_of e))
payload_more e k i h g m =
    let j : i < length (payload_of e) = rw (length-take 12 (drop 16 e), length-drop 16 e) (omega arith) in
    let q : get_or (payload_of e) i 0 ≡ get_or (take k (drop 16 e)) i 0 = rw (get_or-take 12 (drop 16 e) i 0 (omega arith), get_or-take k (drop 16 e) i 0 g) refl in
    rw (← q, hex_more (payload_of e) i j) refl

regroup : (m a s b d : List ℕ) → (((m ++ a) ++ s) ++ (b ++ s)) ++ (d ++ s) ≡ m ++ (a ++ (s ++ (b ++ (s ++ (d ++ s)))))
regroup m a s b d = simp append_assoc

-- the parts that a message's line begins with
pub sender_parts : (e : List ℕ) (d k r : ℕ) → d ≡ device_of e → k ≡ counter_of e → r ≡ rank_of e
    → ((((77 ∷ 32 ∷ []) ++ hex 8 d) ++ space) ++ (decimal k ++ space)) ++ (decimal r ++ space) ≡ sender_text e
unfolding sender_text
sender_parts e d k r p q s = rw (p, q, s) (regroup (77 ∷ 32 ∷ []) (hex 8 (device_of e)) space (decimal (counter_of e)) (decimal (rank_of e)))
