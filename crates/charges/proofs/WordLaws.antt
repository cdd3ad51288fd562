-- Digits of a text that goes on. Assumes nothing.
use mathlib.Core.Path.{◌≡◌, refl, sym, ap, ◌∙◌}
use mathlib.Core.Bool.{Bool, true, false, ◌&&◌}
use mathlib.Core.List.{List, ◌∷◌}
use Prim.Native.Nat.{ℕ, ◌+◌, ◌-◌, ◌*◌, ◌≤◌, ◌<◌, min}
use native.Mathlib.Numerals.{add-one}
use native.Mathlib.Omega.{arith}
use borrow.Author.Tests.{ltb-true, ltb-false, lt-ltb, le-ltb}
use lib.Dec.{ltb}
use lib.ListN.{length, get_or, drop, length-drop}
use lib.Seq.{drop-cons, drop-length}
use Rattle.limits.proofs.Samples.{and_assoc, and_true}
use Rattle.charges.specs.Words.{is_digit, are_digits, is_decimal, most_number, number_from}

module _ (text : List ℕ) where
  next : (i : ℕ) → i < length text → drop i text ≡ get_or text i 0 ∷ drop (i + 1) text
  next i h = drop-cons text i 0 h ∙ ap (λ (k : ℕ). get_or text i 0 ∷ drop k text) (sym (add-one i))

  none_left : (i : ℕ) → i ≡ length text → drop i text ≡ drop (length text) text
  none_left i e = ap (λ (k : ℕ). drop k text) e

  pub digits-turn : (i : ℕ) (ok here w : Bool) → i < length text → here ≡ is_digit (get_or text i 0) → (ok && are_digits (drop i text)) ≡ w → ((ok && here) && are_digits (drop (i + 1) text)) ≡ w
  unfolding are_digits
  digits-turn i ok here w h e p =
      and_assoc ok here (are_digits (drop (i + 1) text))
      ∙ ap (λ (t : Bool). ok && (t && are_digits (drop (i + 1) text))) e
      ∙ sym (ap (λ (l : List ℕ). ok && are_digits l) (next i h)) ∙ p

  pub digits_end : (i : ℕ) (ok w : Bool) → i ≡ length text → (ok && are_digits (drop i text)) ≡ w → ok ≡ w
  unfolding are_digits
  digits_end i ok w e p = sym (and_true ok) ∙ ap (λ (l : List ℕ). ok && are_digits l) (sym (none_left i e ∙ drop-length text)) ∙ p

  pub number-turn : (i n m w : ℕ) → i < length text → m ≡ min (10 * n + (get_or text i 0 - 48)) most_number → number_from n (drop i text) ≡ w → number_from m (drop (i + 1) text) ≡ w
  unfolding number_from
  number-turn i n m w h e p = ap (λ (k : ℕ). number_from k (drop (i + 1) text)) e ∙ sym (ap (number_from n) (next i h)) ∙ p

  pub number_end : (i n w : ℕ) → i ≡ length text → number_from n (drop i text) ≡ w → n ≡ w
  unfolding number_from
  number_end i n w e p = ap (number_from n) (sym (none_left i e ∙ drop-length text)) ∙ p
