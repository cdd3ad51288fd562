-- The turns of the loops over a word, and what a word and the rest behind it are. Assumes nothing.
use Rattle.std.specs.List.{count_by}
use Rattle.std.proofs.lemmas.List.Recursion.{is_count_by}
use mathlib.Core.Path.{◌≡◌, refl, sym, ap, ap₂, ◌∙◌}
use mathlib.Core.Bool.{Bool, true, false, cond, ◌&&◌}
use mathlib.Core.List.{List, [], ◌∷◌}
use Prim.Native.Nat.{ℕ, suc, ◌+◌, ◌-◌, ◌*◌, ◌/◌, ◌%◌, ◌≤◌, ◌<◌, min}
use native.Mathlib.Omega.{arith}
use native.Mathlib.Numerals.{add-one}
use lib.Dec.{ltb, leb, eqb}
use lib.ListN.{length, take, drop, get_or, drop_of_length-le, length-drop}
use lib.Seq.{drop-cons, take_all}
use borrow.Author.Tests.{eq-eqb, ne_eqb, ltb-true, leb-true}
use Rattle.uplink.specs.Line.{space, word, rest, spaces, digit_of, number_from, bytes_in}

pub here : (l : List ℕ) (i : ℕ) → i < length l → drop i l ≡ get_or l i 0 ∷ drop (i + 1) l
here l i h = drop-cons l i 0 h ∙ ap (λ (j : ℕ). get_or l i 0 ∷ drop j l) (sym (add-one i))

-- ---- a word and what stands behind it, by the word's length

pub word_is : (l : List ℕ) → take (length (word l)) l ≡ word l
unfolding word
word_is [] = refl
word_is (c ∷ l) = go (eqb c space) (word_is l)
  where
    go : (b : Bool) → take (length (word l)) l ≡ word l → take (length (cond b [] (c ∷ word l))) (c ∷ l) ≡ cond b [] (c ∷ word l)
    go true e = refl
    go false e = ap (λ (w : List ℕ). c ∷ w) e

pub rest_is : (l : List ℕ) → drop (suc (length (word l))) l ≡ rest l
unfolding word rest
rest_is [] = refl
rest_is (c ∷ l) = go (eqb c space) (rest_is l)
  where
    go : (b : Bool) → drop (suc (length (word l))) l ≡ rest l → drop (suc (length (cond b [] (c ∷ word l)))) (c ∷ l) ≡ cond b l (rest l)
    go true e = refl
    go false e = e

-- a word and what stands behind it are no longer than their line
pub word_fits : (l : List ℕ) → length (word l) ≤ length l
unfolding word
word_fits [] = omega arith
word_fits (c ∷ l) = go (eqb c space) (word_fits l)
  where
    go : (b : Bool) → length (word l) ≤ length l → length (cond b [] (c ∷ word l)) ≤ suc (length l)
    go true h = omega arith
    go false h = omega arith

pub rest_fits : (l : List ℕ) → length (rest l) ≤ length l
unfolding rest
rest_fits [] = omega arith
rest_fits (c ∷ l) = go (eqb c space) (rest_fits l)
  where
    go : (b : Bool) → length (rest l) ≤ length l → length (cond b l (rest l)) ≤ suc (length l)
    go true h = omega arith
    go false h = omega arith

-- a line before whose place i no space stands
pub record Cut (l : List ℕ) (i : ℕ) : Type 0 where
  pub at : i + length (word (drop i l)) ≡ length (word l)
  pub behind : rest (drop i l) ≡ rest l

pub cut_start : (l : List ℕ) → Cut l 0
cut_start l = record { at = omega arith; behind = refl }

module _ (l : List ℕ) (i : ℕ) (r : Cut l i) where
  pub cut_turn : i < length l → (get_or l i 0 ≡ space → ⊥) → Cut l (i + 1)
  unfolding word rest
  cut_turn h e =
      let c = get_or l i 0 in
      let w : word (drop i l) ≡ c ∷ word (drop (i + 1) l) = ap word (here l i h) ∙ ap (λ (b : Bool). cond b [] (c ∷ word (drop (i + 1) l))) (ne_eqb _ _ e) in
      let b : rest (drop i l) ≡ rest (drop (i + 1) l) = ap rest (here l i h) ∙ ap (λ (b : Bool). cond b (drop (i + 1) l) (rest (drop (i + 1) l))) (ne_eqb _ _ e) in
      record { at = omega (arith, r.at, ap length w); behind = sym b ∙ r.behind }

  pub cut_here : i < length l → get_or l i 0 ≡ space → (take i l ≡ word l) × (take (length l - (i + 1)) (drop (i + 1) l) ≡ rest l)
  unfolding word rest
  cut_here h e =
      let c = get_or l i 0 in
      let w : word (drop i l) ≡ [] = ap word (here l i h) ∙ ap (λ (b : Bool). cond b [] (c ∷ word (drop (i + 1) l))) (eq-eqb _ _ e) in
      let b : rest (drop i l) ≡ drop (i + 1) l = ap rest (here l i h) ∙ ap (λ (b : Bool). cond b (drop (i + 1) l) (rest (drop (i + 1) l))) (eq-eqb _ _ e) in
      let z : length (word (drop i l)) ≡ 0 = ap length w in
      let j : i ≡ length (word l) = omega (arith, r.at) in
      (ap (λ (n : ℕ). take n l) j ∙ word_is l, take_all (length l - (i + 1)) (drop (i + 1) l) (omega (arith, length-drop (i + 1) l)) ∙ sym b ∙ r.behind)

  pub cut_past : length l ≤ i → (l ≡ word l) × ([] ≡ rest l)
  unfolding rest
  cut_past h =
      let j : length l ≤ length (word l) = omega (arith, r.at, word_fits l, word_short h) in
      (sym (take_all (length (word l)) l j) ∙ word_is l, sym (ap rest (drop_of_length-le l {i = i} h)) ∙ r.behind)
    where
      word_short : length l ≤ i → length (word (drop i l)) ≡ 0
      word_short h = unfold word in ap (λ (m : List ℕ). length (word m)) (drop_of_length-le l {i = i} h)

pub spaces_counted : (l : List ℕ) → spaces l ≡ count_by (λ c. eqb c space) l
unfolding spaces
spaces_counted = is_count_by spaces (λ c. eqb c space) refl (λ c l. ap (λ (n : ℕ). cond (eqb c space) n (spaces l)) (let e : suc (spaces l) ≡ 1 + spaces l = omega arith in e))

-- ---- a digit

pub both : (a b : Bool) → (a && b) ≡ true → (a ≡ true) × (b ≡ true)
both true b e = (refl, e)
both false b e = absurd (let z : ◌≡◌ {A = ℕ} 0 1 = cc in omega arith)

module _ (c : ℕ) where
  within : (a b : ℕ) → (leb a c && ltb c b) ≡ true → (a ≤ c) × (c < b)
  within a b e = let t = both (leb a c) (ltb c b) e in (leb-true a c t.0, ltb-true c b t.1)

  pub from_0 : (leb 48 c && ltb c 58) ≡ true → 48 ≤ c
  from_0 e = (within 48 58 e).0

  pub from_a : (leb 97 c && ltb c 103) ≡ true → 87 ≤ c
  from_a e = omega (arith, (within 97 103 e).0)

  pub from_A : (leb 65 c && ltb c 71) ≡ true → 55 ≤ c
  from_A e = omega (arith, (within 65 71 e).0)

  pub is_decimal_lem : (leb 48 c && ltb c 58) ≡ true → (c - 48 ≡ digit_of c) × (c - 48 ≤ 16)
  unfolding digit_of
  is_decimal_lem e = (simp e, omega (arith, (within 48 58 e).1))

  pub is_lower : (leb 48 c && ltb c 58) ≡ false → (leb 97 c && ltb c 103) ≡ true → (c - 87 ≡ digit_of c) × (c - 87 ≤ 16)
  unfolding digit_of
  is_lower d e = (simp (d, e), omega (arith, (within 97 103 e).1))

  pub is_upper : (leb 48 c && ltb c 58) ≡ false → (leb 97 c && ltb c 103) ≡ false → (leb 65 c && ltb c 71) ≡ true → (c - 55 ≡ digit_of c) × (c - 55 ≤ 16)
  unfolding digit_of
  is_upper d f e = (simp (d, f, e), omega (arith, (within 65 71 e).1))

  pub is_other : (leb 48 c && ltb c 58) ≡ false → (leb 97 c && ltb c 103) ≡ false → (leb 65 c && ltb c 71) ≡ false → 16 ≡ digit_of c
  unfolding digit_of
  is_other d f e = simp (d, f, e)

-- ---- digits of a word

pub number_end : (base most n : ℕ) (l : List ℕ) (i : ℕ) → length l ≤ i → number_from base most n (drop i l) ≡ n
unfolding number_from
number_end base most n l i h = ap (number_from base most n) (drop_of_length-le l {i = i} h)

pub number-turn : (base most n : ℕ) (l : List ℕ) (i d x y : ℕ) → i < length l → d ≡ digit_of (get_or l i 0) → x ≡ n * base + d → y ≡ min x most
    → number_from base most y (drop (i + 1) l) ≡ number_from base most n (drop i l)
unfolding number_from
number-turn base most n l i d x y h v u m =
    ap (λ (z : ℕ). number_from base most z (drop (i + 1) l)) (m ∙ ap (λ (z : ℕ). min z most) (u ∙ ap (λ (z : ℕ). n * base + z) v))
    ∙ ap (number_from base most n) (sym (here l i h))

-- ---- two digits a byte

pub bytes-turn : (l : List ℕ) (i v : ℕ) → 2 * i + 1 < length l → v ≡ (digit_of (get_or l (2 * i) 0) * 16 + digit_of (get_or l (2 * i + 1) 0)) % 256
    → bytes_in (drop (2 * i) l) ≡ v ∷ bytes_in (drop (2 * (i + 1)) l)
unfolding bytes_in
bytes-turn l i v h e =
    let a = get_or l (2 * i) 0 in
    let b = get_or l (2 * i + 1) 0 in
    let j : 2 * i + 1 + 1 ≡ 2 * (i + 1) = omega arith in
    ap bytes_in (here l (2 * i) (omega arith) ∙ ap (λ (w : List ℕ). a ∷ w) (here l (2 * i + 1) h))
    ∙ ap₂ (λ (x m : ℕ). x ∷ bytes_in (drop m l)) (sym e) j

pub bytes_short : (l : List ℕ) → length l ≤ 1 → bytes_in l ≡ []
unfolding bytes_in
bytes_short [] h = refl
bytes_short (a ∷ []) h = refl
bytes_short (a ∷ b ∷ l) h = absurd (omega arith)

pub bytes_count : (l : List ℕ) → length (bytes_in l) ≡ length l / 2
unfolding bytes_in
bytes_count [] = omega arith
bytes_count (a ∷ []) = omega arith
bytes_count (a ∷ b ∷ l) = omega (arith, bytes_count l)
