-- The bytes of a number and the number of bytes, for every width; and both as std computes them. Assumes nothing.
use mathlib.Core.Path.{◌≡◌, refl, sym, ap, ◌∙◌, subst}
use mathlib.Core.List.{List, [], ◌∷◌, ◌++◌, append_assoc}
use Prim.Native.Nat.{ℕ, zero, suc, ◌+◌, ◌-◌, ◌*◌, ◌/◌, ◌%◌, ◌^◌, ◌≤◌, ◌<◌}
use native.Mathlib.Nat.{pow-suc, one-le-pow, pow-le-pow_right, lt_of_lt_of_le, zero-lt-suc, div-div-eq-div-mul}
use native.Mathlib.Omega.{arith}
use lib.ListN.{length, get_or, take, drop, replicate}
use lib.Seq.{sets, sets-eq, drop-cons, drop-drop, get_or-drop, take_all, length-take-le}
use mir.Syntax.{w64}
use borrow.Rule.Slice.PartMut.{put_mid}
use Rattle.std.specs.Int.{to_le_bytes, from_le_bytes, bytes_low_first}
use Rattle.std.proofs.lemmas.List.{drop-replicate, length-append, length-replicate, length-drop}
use Rattle.endian.specs.Bytes.{bytes_of, number_of, number_at}

pub bytes-length : (k n : ℕ) → length (bytes_of k n) ≡ k
unfolding bytes_of
bytes-length zero n = refl
bytes-length (suc k) n = ap suc (bytes-length k (n / 256))

pub bytes_small : (k n i : ℕ) → get_or (bytes_of k n) i 0 < 256
unfolding bytes_of
bytes_small zero n i = omega arith
bytes_small (suc k) n zero = omega arith
bytes_small (suc k) n (suc i) = bytes_small k (n / 256) i

-- the bytes of a number give it back
pub number-bytes : (k n : ℕ) → n < 256 ^ k → number_of (bytes_of k n) ≡ n
unfolding bytes_of number_of
number-bytes zero n h = omega arith
number-bytes (suc k) n h =
    ap (λ (m : ℕ). n % 256 + 256 * m) (number-bytes k (n / 256) (less n (256 ^ k) (256 ^ suc k) (pow-suc 256 k) h)) ∙ whole n
  where
    less : (n p q : ℕ) → q ≡ p * 256 → n < q → n / 256 < p
    less n p q e h = omega arith

    whole : (n : ℕ) → n % 256 + 256 * (n / 256) ≡ n
    whole n = omega arith

-- ---- the number at a place

pub number_none : (l : List ℕ) (at : ℕ) → number_at 0 l at ≡ 0
unfolding number_at number_of
number_none l at = refl

pub number_step : (k : ℕ) (l : List ℕ) (at : ℕ) → at < length l → number_at (suc k) l at ≡ get_or l at 0 + 256 * number_at k l (suc at)
unfolding number_at number_of
number_step k l at h = ap (λ (r : List ℕ). number_of (take (suc k) r)) (drop-cons l at 0 h)

list_lt : (k : ℕ) (l : List ℕ) → ((i : ℕ) → get_or l i 0 < 256) → number_of (take k l) < 256 ^ k
unfolding number_of
list_lt zero l b = omega arith
list_lt (suc k) [] b = one-le-pow (suc k) 256 (zero-lt-suc 255)
list_lt (suc k) (x ∷ l) b = go x (number_of (take k l)) (256 ^ k) (256 ^ suc k) (pow-suc 256 k) (b 0) (list_lt k l (λ i. b (suc i)))
  where
    go : (x n p q : ℕ) → q ≡ p * 256 → x < 256 → n < p → x + 256 * n < q
    go x n p q e a h = omega arith

-- k bytes make a number below 256 ^ k
pub number_lt : (k : ℕ) (l : List ℕ) (at : ℕ) → ((i : ℕ) → get_or l i 0 < 256) → number_at k l at < 256 ^ k
unfolding number_at
number_lt k l at b = list_lt k (drop at l) (λ i. subst (λ (x : ℕ). x < 256) (sym (get_or-drop at l i 0)) (b (at + i)))

-- ---- as std writes and reads 8 bytes, of which the first k are those of a number of k bytes

bytes_low : (i k n : ℕ) → bytes_low_first (suc i) k n ≡ bytes_of k (n / 256 ^ suc i)
unfolding bytes_of
bytes_low i zero n = refl
bytes_low i (suc k) n = ap (λ (l : List ℕ). n / 256 ^ suc i % 256 ∷ l) (bytes_low (suc i) k n ∙ ap (bytes_of k) (next i n))
  where
    next : (i n : ℕ) → n / 256 ^ suc (suc i) ≡ n / 256 ^ suc i / 256
    next i n = ap (λ (p : ℕ). n / p) (pow-suc 256 (suc i)) ∙ sym (div-div-eq-div-mul n (256 ^ suc i) 256)

pub eight-bytes : (n : ℕ) → to_le_bytes w64 n ≡ bytes_of 8 n
unfolding bytes_of
eight-bytes n = ap (λ (l : List ℕ). n % 256 ∷ l) (bytes_low 0 7 n)

first-bytes : (k m n : ℕ) → k ≤ m → take k (bytes_of m n) ≡ bytes_of k n
unfolding bytes_of
first-bytes zero m n h = refl
first-bytes (suc k) zero n h = absurd (omega arith)
first-bytes (suc k) (suc m) n h = ap (λ (l : List ℕ). n % 256 ∷ l) (first-bytes k m (n / 256) (omega arith))

-- what stands in a list after the first k bytes were copied over k of its elements
pub written : (k n at : ℕ) (out vs : List ℕ) → k ≤ 8 → at + k ≤ length out → vs ≡ take k (to_le_bytes w64 n) → put_mid at (at + k - at) out vs ≡ sets out at (bytes_of k n)
written k n at out vs h r e = placed ∙ sym (append_assoc (take at out) (bytes_of k n) (drop (at + length (bytes_of k n)) out)) ∙ sym (sets-eq (bytes_of k n) out at (omega (arith, bytes-length k n)))
  where
    low : vs ≡ bytes_of k n
    low = e ∙ ap (take k) (eight-bytes n) ∙ first-bytes k 8 n h

    end : at + (at + k - at) ≡ at + length (bytes_of k n)
    end = omega (arith, bytes-length k n)

    placed : put_mid at (at + k - at) out vs ≡ take at out ++ (bytes_of k n ++ drop (at + length (bytes_of k n)) out)
    placed = rw (low, drop-drop, end)

number-zeros : (m : ℕ) → number_of (replicate m 0) ≡ 0
unfolding number_of
number-zeros zero = refl
number-zeros (suc m) = omega (arith, number-zeros m)

number_padded : (l : List ℕ) (m : ℕ) → number_of (l ++ replicate m 0) ≡ number_of l
unfolding number_of
number_padded [] m = number-zeros m
number_padded (b ∷ l) m = ap (λ (n : ℕ). b + 256 * n) (number_padded l m)

number_whole : (k : ℕ) (l : List ℕ) → length l ≤ k → number_at k l 0 ≡ number_of l
unfolding number_at
number_whole k l h = ap number_of (take_all k l h)

eight-read : (l : List ℕ) → length l ≡ 8 → from_le_bytes w64 l ≡ number_of l
eight-read l h = steps ∙ number_whole 8 l (omega arith)
  where
    steps : from_le_bytes w64 l ≡ number_at 8 l 0
    steps =
        omega (
          arith,
          number_step 7 l 0 (omega arith),
          number_step 6 l 1 (omega arith),
          number_step 5 l 2 (omega arith),
          number_step 4 l 3 (omega arith),
          number_step 3 l 4 (omega arith),
          number_step 2 l 5 (omega arith),
          number_step 1 l 6 (omega arith),
          number_step 0 l 7 (omega arith),
          number_none l 8,
        )

-- the number of w bytes that were copied over the first of 8 zeros
pub read : (w j k at : ℕ) (s vs : List ℕ) → w ≤ 8 → at + w ≤ length s → j ≡ w → k ≡ w → vs ≡ take (at + k - at) (drop at s) → from_le_bytes w64 (vs ++ drop j (replicate 8 0)) ≡ number_at w s at
unfolding number_at
read w j k at s vs h r ej ek e =
    ap (λ (l : List ℕ). from_le_bytes w64 (vs ++ l)) (drop-replicate j 8 0)
    ∙ eight-read (vs ++ replicate (8 - j) 0) (omega (arith, length-append vs (replicate (8 - j) 0), length-replicate {A = ℕ} (8 - j) 0, long))
    ∙ number_padded vs (8 - j)
    ∙ ap number_of first
  where
    first : vs ≡ take w (drop at s)
    first = e ∙ ap (λ (i : ℕ). take i (drop at s)) (omega arith)

    long : length vs ≡ w
    long = ap length first ∙ length-take-le w (drop at s) (omega (arith, length-drop at s))

-- ---- the loop that reads: from the last byte to the first, i bytes are left

module _ (k : ℕ) (s : List ℕ) (at i : ℕ) (I : 0 < i) (K : i ≤ k) where
  pub get-turn : at + k ≤ length s → number_at (k - i) s (at + i) * 256 + get_or s (at + (i - 1)) 0 ≡ number_at (k - (i - 1)) s (at + (i - 1))
  get-turn h =
      turned (number_at (k - i) s (at + i)) (get_or s (at + (i - 1)) 0)
      ∙ ap (λ (j : ℕ). get_or s (at + (i - 1)) 0 + 256 * number_at (k - i) s j) (place at i I)
      ∙ sym (number_step (k - i) s (at + (i - 1)) (omega arith))
      ∙ ap (λ (j : ℕ). number_at j s (at + (i - 1))) (more k i I K)
    where
      turned : (a b : ℕ) → a * 256 + b ≡ b + 256 * a
      turned a b = omega arith

      place : (at i : ℕ) → 0 < i → at + i ≡ suc (at + (i - 1))
      place at i h = omega arith

      more : (k i : ℕ) → 0 < i → i ≤ k → suc (k - i) ≡ k - (i - 1)
      more k i h l = omega arith

  -- one byte more still fits 64 bits
  pub get-room : k ≤ 8 → ((j : ℕ) → get_or s j 0 < 256) → number_at (k - i) s (at + i) < 2 ^ 56
  get-room E b = lt_of_lt_of_le (number_lt (k - i) s (at + i) b) (pow-le-pow_right (zero-lt-suc 255) {i = k - i} {j = 7} (omega arith))

pub get_start : (k : ℕ) (s : List ℕ) (at : ℕ) → 0 ≡ number_at (k - k) s (at + k)
get_start k s at = sym (ap (λ (j : ℕ). number_at j s (at + k)) (none k) ∙ number_none s (at + k))
  where
    none : (k : ℕ) → k - k ≡ 0
    none k = omega arith

pub get_end : (k : ℕ) (s : List ℕ) (at i : ℕ) → i ≡ 0 → number_at (k - i) s (at + i) ≡ number_at k s at
get_end k s at i e = ap (λ (j : ℕ). number_at (k - j) s (at + j)) e ∙ ap (λ (j : ℕ). number_at j s (at + 0)) (a k) ∙ ap (number_at k s) (b at)
  where
    a : (n : ℕ) → n - 0 ≡ n
    a n = omega arith

    b : (n : ℕ) → n + 0 ≡ n
    b n = omega arith
