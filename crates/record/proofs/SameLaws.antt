-- Records that are equal, a zero's sign aside: an equivalence, which equal bytes give, and so do the two zeros in a float's place. Assumes nothing.
use mathlib.Core.Path.{◌≡◌, refl, sym, ap, ◌∙◌, subst}
use mathlib.Core.Bool.{Bool, true, false}
use mathlib.Core.Logic.{◌⊎◌, inl, inr}
use mathlib.Core.List.{List, [], ◌∷◌}
use Prim.Native.Nat.{ℕ, suc, ◌+◌, ◌*◌, ◌^◌, ◌≤◌, ◌<◌}
use native.Mathlib.Omega.{arith}
use lib.Dec.{eqb}
use lib.ListN.{length, drop, get_or, set}
use lib.Seq.{sets, length-sets, set-set, set_comm, ext_get_or}
use borrow.Author.Tests.{eqb-true, eqb-false}
use Rattle.endian.specs.Bytes.{bytes_of, number_at}
use Rattle.endian.proofs.Numbers.{bytes-length}
use Rattle.endian.proofs.Stores.{number_put, number_after, number_before}
use Rattle.limits.specs.Limits.{record_size}
use Rattle.record.specs.Same.{unsigned, unsigned_at, time_places, unsigned_times, without_signs, SameRecord}

-- ---- an equivalence

pub same_refl : (a : List ℕ) → SameRecord a a
same_refl a = record { bytes = λ i h. refl }

pub same_sym : (a b : List ℕ) → SameRecord a b → SameRecord b a
same_sym a b r = record { bytes = λ i h. sym (r.bytes i h) }

pub same_trans : (a b c : List ℕ) → SameRecord a b → SameRecord b c → SameRecord a c
same_trans a b c r s = record { bytes = λ i h. r.bytes i h ∙ s.bytes i h }

-- ---- equal bytes

pub same_equal : (a b : List ℕ) → a ≡ b → SameRecord a b
same_equal a b e = subst (SameRecord a) e (same_refl a)

pub same_bytes : (a b : List ℕ) → length a ≡ record_size → length b ≡ record_size → ((i : ℕ) → i < record_size → get_or a i 0 ≡ get_or b i 0) → SameRecord a b
same_bytes a b n m e = same_equal a b (ext_get_or 0 a b (n ∙ sym m) (λ i h. e i (omega arith)))

same_plain : (a b : List ℕ) → without_signs a ≡ without_signs b → SameRecord a b
same_plain a b e = record { bytes = λ i h. ap (λ (l : List ℕ). get_or l i 0) e }

-- ---- stores at places apart, and at one place

-- n places from p on, and m from q on
abbrev Apart : ℕ → ℕ → ℕ → ℕ → Type 0
Apart p n q m = (p + n ≤ q) ⊎ (q + m ≤ p)

set_sets : (l : List ℕ) (i a j : ℕ) (vs : List ℕ) → Apart i 1 j (length vs) → set (sets l j vs) i a ≡ sets (set l i a) j vs
set_sets l i a j [] d = refl
set_sets l i a j (v ∷ vs) (inl h) =
    set_sets (set l j v) i a (suc j) vs (inl (omega arith)) ∙ ap (λ (x : List ℕ). sets x (suc j) vs) (set_comm l j i v a (λ e. omega arith))
set_sets l i a j (v ∷ vs) (inr h) =
    set_sets (set l j v) i a (suc j) vs (inr (omega arith)) ∙ ap (λ (x : List ℕ). sets x (suc j) vs) (set_comm l j i v a (λ e. omega arith))

sets_swap : (l : List ℕ) (p : ℕ) (vs : List ℕ) (q : ℕ) (ws : List ℕ) → Apart p (length vs) q (length ws) → sets (sets l p vs) q ws ≡ sets (sets l q ws) p vs
sets_swap l p vs q [] d = refl
sets_swap l p vs q (w ∷ ws) (inl h) =
    ap (λ (x : List ℕ). sets x (suc q) ws) (set_sets l q w p vs (inr h)) ∙ sets_swap (set l q w) p vs (suc q) ws (inl (omega arith))
sets_swap l p vs q (w ∷ ws) (inr h) =
    ap (λ (x : List ℕ). sets x (suc q) ws) (set_sets l q w p vs (inl (omega arith))) ∙ sets_swap (set l q w) p vs (suc q) ws (inr (omega arith))

sets_again : (l : List ℕ) (p : ℕ) (vs ws : List ℕ) → length vs ≡ length ws → sets (sets l p vs) p ws ≡ sets l p ws
sets_again l p [] [] e = refl
sets_again l p [] (w ∷ ws) e = absurd (omega (arith, e))
sets_again l p (v ∷ vs) [] e = absurd (omega (arith, e))
sets_again l p (v ∷ vs) (w ∷ ws) e =
    ap (λ (x : List ℕ). sets x (suc p) ws) (set_sets (set l p v) p w (suc p) vs (inl (omega arith)) ∙ ap (λ (x : List ℕ). sets x (suc p) vs) (set-set l p v w))
    ∙ sets_again (set l p w) (suc p) vs ws (omega (arith, e))

-- ---- a sign taken at one place

unsigned_here : (k p n : ℕ) (l : List ℕ) → p + k ≤ length l → n < 256 ^ k → unsigned_at k p (sets l p (bytes_of k n)) ≡ sets l p (bytes_of k (unsigned k n))
unfolding unsigned_at
unsigned_here k p n l h b =
    ap (λ (x : ℕ). sets (sets l p (bytes_of k n)) p (bytes_of k (unsigned k x))) (number_put k n l p h b)
    ∙ sets_again l p (bytes_of k n) (bytes_of k (unsigned k n)) (bytes-length k n ∙ sym (bytes-length k (unsigned k n)))

length-unsigned : (k p : ℕ) (l : List ℕ) → length (unsigned_at k p l) ≡ length l
unfolding unsigned_at
length-unsigned k p l = length-sets l p (bytes_of k (unsigned k (number_at k l p)))

unsigned-apart : (j q p : ℕ) (vs l : List ℕ) → Apart p (length vs) q j → unsigned_at j q (sets l p vs) ≡ sets (unsigned_at j q l) p vs
unfolding unsigned_at
unsigned-apart j q p vs l d =
    ap (λ (x : ℕ). sets (sets l p vs) q (bytes_of j (unsigned j x))) (number d)
    ∙ sets_swap l p vs q ws (subst (λ (x : ℕ). Apart p (length vs) q x) (sym (bytes-length j (unsigned j (number_at j l q)))) d)
  where
    ws : List ℕ
    ws = bytes_of j (unsigned j (number_at j l q))

    number : Apart p (length vs) q j → number_at j (sets l p vs) q ≡ number_at j l q
    number (inl h) = number_after j vs l p q h
    number (inr h) = number_before j vs l p q h

-- p is one of the places of binary64 fields, and the others lie apart from it
abbrev pub One : ℕ → List ℕ → Type 0
One p [] = ⊥
One p (q ∷ ps) = (p ≡ q) ⊎ (Apart p 8 q 8 × One p ps)

times_same : (p n m : ℕ) → n < 256 ^ 8 → m < 256 ^ 8 → unsigned 8 n ≡ unsigned 8 m → (ps l : List ℕ) → One p ps → p + 8 ≤ length l
    → unsigned_times ps (sets l p (bytes_of 8 n)) ≡ unsigned_times ps (sets l p (bytes_of 8 m))
unfolding unsigned_times
times_same p n m a b e [] l o h = absurd o
times_same p n m a b e (q ∷ ps) l (inl f) h =
    ap (unsigned_times ps)
    (subst (λ (x : ℕ). unsigned_at 8 x (sets l p (bytes_of 8 n)) ≡ unsigned_at 8 x (sets l p (bytes_of 8 m))) f
    (unsigned_here 8 p n l h a ∙ ap (λ (x : ℕ). sets l p (bytes_of 8 x)) e ∙ sym (unsigned_here 8 p m l h b)))
times_same p n m a b e (q ∷ ps) l (inr o) h =
    ap (unsigned_times ps) (apart n) ∙ times_same p n m a b e ps (unsigned_at 8 q l) o.1 (omega (arith, length-unsigned 8 q l)) ∙ sym (ap (unsigned_times ps) (apart m))
  where
    apart : (x : ℕ) → unsigned_at 8 q (sets l p (bytes_of 8 x)) ≡ sets (unsigned_at 8 q l) p (bytes_of 8 x)
    apart x = unsigned-apart 8 q p (bytes_of 8 x) l (subst (λ (y : ℕ). Apart p y q 8) (sym (bytes-length 8 x)) o.0)

-- ---- the two zeros

-- RSSI: +0 and -0
pub rssi-sign : (l : List ℕ) → 44 ≤ length l → SameRecord (sets l 40 (bytes_of 4 0)) (sets l 40 (bytes_of 4 (2 ^ 31)))
unfolding without_signs
rssi-sign l h =
    same_plain (sets l 40 (bytes_of 4 0)) (sets l 40 (bytes_of 4 (2 ^ 31)))
    (ap (unsigned_times time_places) (unsigned_here 4 40 0 l h (omega arith) ∙ sym (unsigned_here 4 40 (2 ^ 31) l h (omega arith))))

-- time, end and those of the spans
pub time-sign : (p : ℕ) (l : List ℕ) → One p time_places → 44 ≤ p → p + 8 ≤ length l → SameRecord (sets l p (bytes_of 8 0)) (sets l p (bytes_of 8 (2 ^ 63)))
unfolding without_signs
time-sign p l o k h =
    same_plain (sets l p (bytes_of 8 0)) (sets l p (bytes_of 8 (2 ^ 63)))
    (ap (unsigned_times time_places) (unsigned-apart 4 40 p (bytes_of 8 0) l (inr k))
    ∙ times_same p 0 (2 ^ 63) (omega arith) (omega arith) refl time_places (unsigned_at 4 40 l) o (omega (arith, length-unsigned 4 40 l))
    ∙ sym (ap (unsigned_times time_places) (unsigned-apart 4 40 p (bytes_of 8 (2 ^ 63)) l (inr k))))

here : (i j q : ℕ) (rest : List ℕ) → q ≡ 48 + 8 * j → j ≤ i → (suc j ≤ i → One (48 + 8 * i) rest) → One (48 + 8 * i) (q ∷ rest)
here i j q rest e k later = go (eqb i j) (eqb-true i j) (eqb-false i j)
  where
    go : (b : Bool) → (b ≡ true → i ≡ j) → (b ≡ false → i ≡ j → ⊥) → One (48 + 8 * i) (q ∷ rest)
    go true f g = inl (omega (arith, e, f refl))
    go false f g = let n : suc j ≤ i = omega (arith, g refl) in inr (inr (omega (arith, e)), later n)

pub time-places : (i : ℕ) → i < 8 → One (48 + 8 * i) time_places
time-places i h =
    here i 0 48 (drop 1 time_places) (omega arith) (omega arith) (λ k. here i 1 56 (drop 2 time_places) (omega arith) k (λ k. here i 2 64 (drop 3 time_places) (omega arith) k (λ k. here i 3 72 (drop 4 time_places) (omega arith) k
    (λ k. here i 4 80 (drop 5 time_places) (omega arith) k (λ k. here i 5 88 (drop 6 time_places) (omega arith) k (λ k. here i 6 96 (drop 7 time_places) (omega arith) k (λ k. here i 7 104 [] (omega arith) k (λ k. absurd (omega arith)))))))))
