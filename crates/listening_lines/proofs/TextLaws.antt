-- Texts behind each other in a buffer, and the digits of numbers. Assumes nothing.
use Prim.Native.Nat.{ℕ, zero, suc, ◌+◌, ◌-◌, ◌*◌, ◌/◌, ◌%◌, ◌^◌, ◌≤◌, ◌<◌, min, max}
use mathlib.Core.Path.{◌≡◌, refl, ap, sym, ◌∙◌}
use mathlib.Core.Bool.{Bool, true, false, cond}
use mathlib.Core.List.{List, [], ◌∷◌, ◌++◌, append_assoc, append-nil}
use native.Mathlib.Omega.{arith}
use native.Mathlib.Numerals.{add-one}
use native.Mathlib.Nat.{mod-eq_of_lt, pow-suc, pow-le-pow_right, le-div_iff_mul-le, div-lt_iff_lt-mul}
use borrow.Author.Tests.{lt-ltb, le-ltb, ltb-true, ltb-false}
use lib.Dec.{ltb}
use lib.ListN.{length, take, drop, get_or, length-append}
use lib.Seq.{take-suc, drop-drop}
use Rattle.io.specs.Digits.{hex_digit_ascii, last_digits, IsDigitCount}
use Rattle.listening_lines.specs.Text.{decimal_by, decimal, hex, hex_bytes, Added}

-- lists that agree from a place on agree from every later one
drop_on : (a b : ℕ) (x y : List ℕ) → a ≤ b → drop a x ≡ drop a y → drop b x ≡ drop b y
drop_on a b x y h e =
    let k : a + (b - a) ≡ b = omega arith in
    ap (λ (n : ℕ). drop n x) (sym k) ∙ sym (drop-drop (b - a) a x) ∙ ap (drop (b - a)) e ∙ drop-drop (b - a) a y ∙ ap (λ (n : ℕ). drop n y) k

-- two texts, one behind the other
pub behind : {old new newer a b : List ℕ} {at r s : ℕ} → Added old at a r new → Added new r b s newer → Added old at (a ++ b) s newer
behind {old} {new} {newer} {a} {b} {at} {r} {s} x y = record {
  end = rw (length-append a b) (omega (arith, x.end, y.end));
  front = y.front ∙ rw x.front (simp append_assoc);
  rest = y.rest ∙ drop_on r s new old (omega (arith, y.end)) x.rest;
  room = y.room ∙ x.room;
}

-- ---- decimal digits

-- the digits that io puts are the definition's: as many as are needed
pub decimal-digits : (f k n : ℕ) → k ≤ f → n < 10 ^ suc k → (0 < k → 10 ^ k ≤ n) → last_digits 10 (suc k) n ≡ decimal_by (suc f) n
unfolding decimal_by
decimal-digits f zero n le lt lo = let h : n < 10 = omega arith in rw (mod-eq_of_lt {n = n} {m = 10} h, lt-ltb n 10) refl
decimal-digits zero (suc k) n le lt lo = absurd (omega arith)
decimal-digits (suc f) (suc k) n le lt lo =
    let p : 1 ≤ 10 ^ k = pow-le-pow_right {n = 10} (omega arith) {i = 0} {j = k} (omega arith) in
    let low : 10 ^ k * 10 ≤ n = rw pow-suc at (lo (omega arith)) in
    let high : n < 10 ^ suc k * 10 = rw pow-suc at lt in
    let h : 10 ≤ n = omega arith in
    let d : ltb (n % 10) 10 ≡ true = lt-ltb (n % 10) 10 (omega arith) in
    rw (le-ltb n 10 h, d, ← decimal-digits f k (n / 10) (omega arith) ((div-lt_iff_lt-mul {k = 10} {x = n} {y = 10 ^ suc k} (omega arith)).1 high) (λ z. (le-div_iff_mul-le {k = 10} {x = 10 ^ k} {y = n} (omega arith)).1 low)) refl

pub decimal_by_length : (k n : ℕ) → length (decimal_by k n) ≤ k
unfolding decimal_by
decimal_by_length zero n = omega arith
decimal_by_length (suc k) n = both (decimal_by_length k (n / 10)) (ltb n 10)
  where
    both : length (decimal_by k (n / 10)) ≤ k → (b : Bool) → length (cond b ((48 + n) ∷ []) (decimal_by k (n / 10) ++ ((48 + n % 10) ∷ []))) ≤ suc k
    both h true = omega arith
    both h false = rw (length-append (decimal_by k (n / 10)) ((48 + n % 10) ∷ [])) (omega arith)

pub decimal-length : (n : ℕ) → length (decimal n) ≤ 20
unfolding decimal
decimal-length n = decimal_by_length 20 n

-- ---- hexadecimal digits

pub digits-length : (b k n : ℕ) → length (last_digits b k n) ≡ k
digits-length b zero n = refl
digits-length b (suc k) n = rw (length-append (last_digits b k (n / b)) (hex_digit_ascii (n % b) ∷ []), digits-length b k (n / b)) (omega arith)

-- they are the definition's
pub digits-hex : (w n : ℕ) → last_digits 16 w n ≡ hex w n
unfolding hex
digits-hex zero n = refl
digits-hex (suc w) n = rw (digits-hex w (n / 16)) refl

pub hex-length : (w n : ℕ) → length (hex w n) ≡ w
hex-length w n = rw (← digits-hex w n) (digits-length 16 w n)

-- io puts as many as are asked for, where the number fits
pub as_wide : (w n r : ℕ) → n < 16 ^ w → 1 ≤ w → w ≤ 16 → IsDigitCount 16 (min (max w 1) 16) n r → r ≡ w
as_wide w n r lt a b h =
    let m : min (max w 1) 16 ≡ w = omega arith in
    both (ltb w r) refl (rw m at h)
  where
    both : (t : Bool) → ltb w r ≡ t → IsDigitCount 16 w n r → r ≡ w
    both false e g = omega (arith, ltb-false w r e, g.0)
    both true e g =
        let q : w < r = ltb-true w r e in
        omega (arith, g.2 q, pow-le-pow_right {n = 16} (omega arith) {i = w} {j = r - 1} (omega arith))

-- a u64 has at most 20 digits
pub at_most_20 : (n r : ℕ) → n < 18446744073709551616 → IsDigitCount 10 1 n r → r ≤ 20
at_most_20 n r lt h = both (ltb 20 r) refl
  where
    both : (t : Bool) → ltb 20 r ≡ t → r ≤ 20
    both false e = ltb-false 20 r e
    both true e =
        let q : 20 < r = ltb-true 20 r e in
        let p : 10 ^ 20 ≤ 10 ^ (r - 1) = pow-le-pow_right {n = 10} (omega arith) {i = 20} {j = r - 1} (omega arith) in
        let g : 10 ^ (r - 1) ≤ n = h.2 (omega arith) in
        absurd (omega arith)

pub decimal_of : (n r : ℕ) → n < 18446744073709551616 → IsDigitCount 10 1 n r → last_digits 10 r n ≡ decimal n
unfolding decimal
decimal_of n zero lt h = absurd (omega (arith, h.0))
decimal_of n (suc k) lt h =
    let e : suc k - 1 ≡ k = omega arith in
    decimal-digits 19 k n (omega (arith, at_most_20 n (suc k) lt h)) h.1 (λ (z : 0 < k). rw e at (h.2 (omega arith)))

-- ---- one text behind another

-- no text
pub nothing : (old : List ℕ) (at : ℕ) → Added old at [] at old
nothing old at = record { end = omega arith; front = sym (append-nil (take at old)); rest = refl; room = refl }

-- the same text, written otherwise
pub as_text : {old new a b : List ℕ} {at r : ℕ} → a ≡ b → Added old at a r new → Added old at b r new
as_text {old} {new} {a} {b} {at} {r} e x = rw e at x

pub hex-append : (a b : List ℕ) → hex_bytes (a ++ b) ≡ hex_bytes a ++ hex_bytes b
unfolding hex_bytes
hex-append [] b = refl
hex-append (x ∷ a) b = rw (hex-append a b) (sym (append_assoc (hex 2 x) (hex_bytes a) (hex_bytes b)))

pub hex_one : (x : ℕ) → hex_bytes (x ∷ []) ≡ hex 2 x
unfolding hex_bytes
hex_one x = append-nil (hex 2 x)

-- one byte more
pub hex_more : (l : List ℕ) (i : ℕ) → i < length l → hex_bytes (take i l) ++ hex 2 (get_or l i 0) ≡ hex_bytes (take (i + 1) l)
hex_more l i h = rw (add-one i, take-suc l i 0 h, hex-append (take i l) (get_or l i 0 ∷ []), hex_one (get_or l i 0)) refl
