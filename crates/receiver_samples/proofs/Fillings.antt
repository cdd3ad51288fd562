-- Fillings: how a loop runs through them, and that the buffer holds what the ledger holds. Assumes nothing.
use mathlib.Core.Bool.{Bool, false, true}
use mathlib.Core.List.{List, [], ◌∷◌}
use mathlib.Core.Logic.{◌⊎◌, inl, inr, ⊎_elim}
use mathlib.Core.Path.{◌∙◌, ◌≡◌, refl, sym}
use Prim.Native.Nat.{◌+◌, ◌-◌, ◌<◌, ◌≤◌, suc, zero, ℕ}
use native.Mathlib.Nat.{min-le_left, not-suc-le-zero, suc-add, zero-add}
use native.Mathlib.Omega.{arith}
use lib.Dec.{eqb}
use lib.Ieee.{Float}
use lib.ListN.{drop, length, length-append, length-drop, take}
use lib.Seq.{drop-drop, drop-length, length-take-le, paste, take_at, take-nil, take-paste}
use borrow.Author.Tests.{eqb-false, eqb-true}
use Rattle.ledger.specs.Ledger.{Kind, Ledger, add, amount, capacity, half, halve}
use Rattle.receiver_samples.specs.Buffer.{Buffer, all_filled, filled, left_held, left_places, room, share}

either : (b : Bool) → (b ≡ true) ⊎ (b ≡ false)
either true = inl refl
either false = inr refl

-- ---- fillings of anything, by what one does and how many samples it takes

unfoldable pub runs : {S : Type 0} → (S → List Float → S) → (S → List Float → ℕ) → ℕ → S → List Float → S
runs step takes zero s xs = s
runs step takes (suc n) s [] = s
runs step takes (suc n) s (x ∷ xs) = runs step takes n (step s (x ∷ xs)) (drop (takes s (x ∷ xs)) (x ∷ xs))

module _ {S : Type 0} (step : S → List Float → S) (takes : S → List Float → ℕ) (Ok : S → Type 0)
    (moves : (s : S) (xs : List Float) → Ok s → 1 ≤ length xs → 1 ≤ takes s xs) (keeps : (s : S) (xs : List Float) → Ok s → Ok (step s xs)) where
  less : (s : S) (x : Float) (xs : List Float) (n : ℕ) → Ok s → length (x ∷ xs) ≤ suc n → length (drop (takes s (x ∷ xs)) (x ∷ xs)) ≤ n
  less s x xs n o k =
      let p = moves s (x ∷ xs) o (omega arith) in
      simp length-drop (omega arith)

  -- any number that is large enough does
  fuel : (n m : ℕ) (s : S) (xs : List Float) → Ok s → length xs ≤ n → length xs ≤ m → runs step takes n s xs ≡ runs step takes m s xs
  unfolding runs
  fuel zero zero s xs o hn hm = refl
  fuel zero (suc m) s [] o hn hm = refl
  fuel zero (suc m) s (x ∷ xs) o hn hm = absurd (not-suc-le-zero hn)
  fuel (suc n) zero s [] o hn hm = refl
  fuel (suc n) zero s (x ∷ xs) o hn hm = absurd (not-suc-le-zero hm)
  fuel (suc n) (suc m) s [] o hn hm = refl
  fuel (suc n) (suc m) s (x ∷ xs) o hn hm =
      fuel n m (step s (x ∷ xs)) (drop (takes s (x ∷ xs)) (x ∷ xs)) (keeps s (x ∷ xs) o) (less s x xs n o hn) (less s x xs m o hm)

  runs-step : (n : ℕ) (s : S) (xs : List Float) → Ok s → 1 ≤ length xs → length xs ≤ n
      → runs step takes n s xs ≡ runs step takes n (step s xs) (drop (takes s xs) xs)
  unfolding runs
  runs-step n s [] o k h = absurd (not-suc-le-zero k)
  runs-step zero s (x ∷ xs) o k h = absurd (not-suc-le-zero h)
  runs-step (suc n) s (x ∷ xs) o k h =
      let r = less s x xs n o h in
      fuel n (suc n) (step s (x ∷ xs)) (drop (takes s (x ∷ xs)) (x ∷ xs)) (keeps s (x ∷ xs) o) r (omega arith)

  -- a turn of the loop: what is left runs to the same end
  pub runs-turn : (n : ℕ) (s t w : S) (xs : List Float) (from k : ℕ) → Ok s → from < length xs → length xs ≤ n
      → t ≡ step s (drop from xs) → k ≡ takes s (drop from xs)
      → runs step takes n s (drop from xs) ≡ w → runs step takes n t (drop (from + k) xs) ≡ w
  runs-turn n s t w xs from k o h m e q p =
      rw (e, ← drop-drop k from xs, q)
      (sym (runs-step n s (drop from xs) o (simp length-drop (omega arith)) (simp length-drop (omega arith))) ∙ p)

-- nothing is left
pub runs_none : {S : Type 0} (step : S → List Float → S) (takes : S → List Float → ℕ) (n : ℕ) (s : S) (xs : List Float) (from : ℕ) → from ≡ length xs
    → runs step takes n s (drop from xs) ≡ s
unfolding runs
runs_none step takes zero s xs from e = refl
runs_none step takes (suc n) s xs from e = rw (e, drop-length xs) refl

pub runs-buffer : (rate n : ℕ) (b : Buffer) (xs : List Float) → runs (filled rate) (share rate) n b xs ≡ all_filled rate n b xs
unfolding runs all_filled
runs-buffer rate zero b xs = refl
runs-buffer rate (suc n) b [] = refl
runs-buffer rate (suc n) b (x ∷ xs) = runs-buffer rate n (filled rate b (x ∷ xs)) (drop (share rate b (x ∷ xs)) (x ∷ xs))

-- ---- the drop

module _ (rate h : ℕ) where
  pub left_less : 1 ≤ rate → h ≤ capacity rate → left_held rate h < capacity rate
  unfolding left_held
  left_less p k =
      ⊎_elim
      (λ e. rw e (omega arith))
      (λ e. let q = eqb-false h (capacity rate) e in rw e (omega arith))
      (either (eqb h (capacity rate)))

  pub left_length : (places : List Float) → capacity rate ≤ length places → length (left_places rate h places) ≡ length places
  unfolding left_places
  left_length places k =
      ⊎_elim
      (λ e.
      rw e
      (length-append (take (half rate) (drop (half rate) places)) (drop (half rate) places)
      ∙ omega (arith, length-drop (half rate) places, length-take-le (half rate) (drop (half rate) places) (simp length-drop (omega arith)))))
      (λ e. rw e refl)
      (either (eqb h (capacity rate)))

take-drop : {A : Type 0} (m n : ℕ) (l : List A) → take n (drop m l) ≡ drop m (take (m + n) l)
take-drop zero n l = rw zero-add refl
take-drop (suc m) n [] = rw (take-nil n, take-nil (suc m + n)) refl
take-drop (suc m) n (x ∷ l) = rw (suc-add m n) (take-drop m n l)

module _ {K : Kind} (rate h : ℕ) (places : List Float) (l : Ledger K) (fits : h ≤ capacity rate) (wide : capacity rate ≤ length places)
    (holds : take h places ≡ l.held) where
  pub held_length : length l.held ≡ h
  held_length = rw (← holds) (length-take-le h places (omega arith))

  -- what the buffer holds after the drop is what the ledger holds
  pub halve-holds : take (left_held rate h) (left_places rate h places) ≡ (halve rate l).held
  unfolding left_held left_places halve
  halve-holds =
      ⊎_elim
      (λ e.
      let q : h ≡ capacity rate = eqb-true h (capacity rate) e in
      let d : half rate + half rate ≡ h = omega arith in
      let n : length (take (half rate) (drop (half rate) places)) ≡ half rate
      = length-take-le (half rate) (drop (half rate) places) (simp length-drop (omega arith)) in
      rw (held_length, e)
      (take_at (take (half rate) (drop (half rate) places)) (drop (half rate) places) (half rate) n
      ∙ take-drop (half rate) (half rate) places
      ∙ rw (d, holds) refl))
      (λ e. rw held_length (rw e holds))
      (either (eqb h (capacity rate)))

  pub room_is : (xs : List Float) → room rate h xs ≡ amount rate l xs
  unfolding amount
  room_is xs = rw held_length refl

  -- and after a filling
  pub fill_holds : (xs : List Float) → take (h + room rate h xs) (paste places h xs (room rate h xs)) ≡ (add rate l xs).held
  unfolding add amount
  fill_holds xs =
      rw held_length
      (take-paste places h xs (room rate h xs) (omega arith) (min-le_left (length xs) (capacity rate - h)) ∙ rw holds refl)
