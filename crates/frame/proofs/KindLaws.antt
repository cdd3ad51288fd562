-- The frame types in numbers, and the search of their table. Assumes nothing.
use Rattle.std.proofs.Common.{None, Some}
use mathlib.Core.Path.{◌≡◌, refl, sym, ap, ◌∙◌}
use mathlib.Core.Bool.{Bool, true, false, cond, ◌&&◌}
use mathlib.Core.List.{List, [], ◌∷◌, ◌++◌, map}
use Prim.Native.Nat.{ℕ, zero, suc, ◌+◌, ◌-◌, ◌*◌, ◌/◌, ◌%◌, ◌≤◌, ◌<◌}
use native.Mathlib.Omega.{arith}
use native.Mathlib.Numerals.{add-one}
use lib.Dec.{eqb, leb}
use lib.ListN.{length, drop, get_or, get_or-append, get_or-map, drop_of_length-le}
use lib.Seq.{drop-cons, get_or-append-add}
use borrow.Author.Tests.{eq-eqb, ne_eqb, leb-true}
use Rattle.limits.proofs.Samples.{and_left, and_right}
use Rattle.coding.specs.Bits.{digits, value}
use Rattle.frame.specs.Kinds.{alternating, preamble, sync_bits, control, plain, kinds_of, kinds, blank_kind, kind_of}
use Rattle.frame.specs.declared.kinds.FrameKind.{FrameKind}

-- the Rust's numbers
abbrev pub rust_types : List ℕ
rust_types =
    0xaf67 ∷ 0xa06b ∷ 0xa08d ∷ 0xa35f ∷ 0xa611 ∷ 0xa94c
    ∷ 0xafc9 ∷ 0xa6e0 ∷ 0xa0d2 ∷ 0xa598 ∷ 0xa6bf ∷ 0xa971
    ∷ 0xb1be ∷ 0xa034 ∷ 0xa302 ∷ 0xa5a3 ∷ 0xa72c ∷ 0xa997 ∷ []

-- the number of the 16 bits that announce a kind
abbrev pub word_of : FrameKind → ℕ
word_of k = value (sync_bits k)

-- the Rust's numbers follow from the specification's table
pub rust_types_lem : map word_of kinds ≡ rust_types
unfolding sync_bits preamble alternating digits value
rust_types_lem = refl

any_default : (l : List ℕ) (i d e : ℕ) → i < length l → get_or l i d ≡ get_or l i e
any_default [] i d e h = absurd (omega arith)
any_default (x ∷ l) zero d e h = refl
any_default (x ∷ l) (suc i) d e h = any_default l i d e (omega arith)

pub type_at : (i : ℕ) → i < 18 → word_of (get_or kinds i blank_kind) ≡ get_or rust_types i 0
type_at i h =
    sym (get_or-map word_of kinds i blank_kind) ∙ ap (λ (l : List ℕ). get_or l i (word_of blank_kind)) rust_types_lem ∙ any_default rust_types i (word_of blank_kind) 0 h

-- ---- the table by rank and place

abbrev pub row : ℕ → ℕ → FrameKind
row r m = cond (eqb m 0) (control r) (plain r (m - 1))

of_rank_lem : (r m : ℕ) → m < 6 → get_or (kinds_of r) m blank_kind ≡ row r m
of_rank_lem r zero h = refl
of_rank_lem r (suc zero) h = refl
of_rank_lem r (suc (suc zero)) h = refl
of_rank_lem r (suc (suc (suc zero))) h = refl
of_rank_lem r (suc (suc (suc (suc zero)))) h = refl
of_rank_lem r (suc (suc (suc (suc (suc zero))))) h = refl
of_rank_lem r (suc (suc (suc (suc (suc (suc m)))))) h = absurd (omega arith)

by_rank : (r m : ℕ) → r < 3 → m < 6 → get_or kinds (6 * r + m) blank_kind ≡ get_or (kinds_of r) m blank_kind
by_rank zero m g h =
    ap (λ (i : ℕ). get_or kinds i blank_kind) (let e : 6 * 0 + m ≡ m = omega arith in e) ∙ get_or-append (kinds_of 0) (kinds_of 1 ++ kinds_of 2) blank_kind m h
by_rank (suc zero) m g h = get_or-append-add (kinds_of 0) (kinds_of 1 ++ kinds_of 2) m blank_kind ∙ get_or-append (kinds_of 1) (kinds_of 2) blank_kind m h
by_rank (suc (suc zero)) m g h =
    ap (λ (i : ℕ). get_or kinds i blank_kind) (let e : 6 * 2 + m ≡ 6 + (6 + m) = omega arith in e)
    ∙ get_or-append-add (kinds_of 0) (kinds_of 1 ++ kinds_of 2) (6 + m) blank_kind ∙ get_or-append-add (kinds_of 1) (kinds_of 2) m blank_kind
by_rank (suc (suc (suc r))) m g h = absurd (omega arith)

pub kind_is : (i : ℕ) → i < 18 → row (i / 6) (i % 6) ≡ get_or kinds i blank_kind
kind_is i h =
    let r : i / 6 < 3 = omega arith in
    let m : i % 6 < 6 = omega arith in
    let e : 6 * (i / 6) + i % 6 ≡ i = omega arith in
    sym (of_rank_lem (i / 6) (i % 6) m) ∙ sym (by_rank (i / 6) (i % 6) r m) ∙ ap (λ (j : ℕ). get_or kinds j blank_kind) e

pub row-control : (r m : ℕ) → m ≡ 0 → control r ≡ row r m
row-control r m e = ap (row r) (sym e)

pub row_plain : (r m : ℕ) → (m ≡ 0 → ⊥) → plain r (m - 1) ≡ row r m
row_plain r m e = ap (λ (b : Bool). cond b (control r) (plain r (m - 1))) (sym (ne_eqb m 0 e))

-- ---- the search, place by place

module _ (ft i : ℕ) (h : i < 18) where
  split : kind_of ft (drop i kinds)
      ≡ cond (eqb (word_of (get_or kinds i blank_kind)) ft) (Some (get_or kinds i blank_kind)) (kind_of ft (drop (suc i) kinds))
  unfolding kind_of
  split = ap (kind_of ft) (drop-cons kinds i blank_kind h)

  pub kind_here : word_of (get_or kinds i blank_kind) ≡ ft → Some (get_or kinds i blank_kind) ≡ kind_of ft (drop i kinds)
  kind_here e =
      sym (split ∙ ap (λ (b : Bool). cond b (Some (get_or kinds i blank_kind)) (kind_of ft (drop (suc i) kinds))) (eq-eqb (word_of (get_or kinds i blank_kind)) ft e))

  pub kind-later : (word_of (get_or kinds i blank_kind) ≡ ft → ⊥) → kind_of ft (drop (i + 1) kinds) ≡ kind_of ft (drop i kinds)
  kind-later e =
      ap (λ (j : ℕ). kind_of ft (drop j kinds)) (add-one i)
      ∙ sym (split ∙ ap (λ (b : Bool). cond b (Some (get_or kinds i blank_kind)) (kind_of ft (drop (suc i) kinds))) (ne_eqb (word_of (get_or kinds i blank_kind)) ft e))

pub no_kind : (ft i : ℕ) → 18 ≤ i → None ≡ kind_of ft (drop i kinds)
unfolding kind_of
no_kind ft i h = sym (ap (kind_of ft) (drop_of_length-le kinds {i = i} h))

-- ---- a kind that is found is one of the table

abbrev pub good_kind : FrameKind → Bool
good_kind k = leb k.rank 2 && leb k.class 4

unfoldable all_good : List FrameKind → Bool
all_good [] = true
all_good (k ∷ ks) = good_kind k && all_good ks

kinds-good : all_good kinds ≡ true
unfolding all_good
kinds-good = refl

good_in : (ft : ℕ) (l : List FrameKind) (k : FrameKind) → all_good l ≡ true → kind_of ft l ≡ Some k → good_kind k ≡ true
unfolding kind_of all_good
good_in ft [] k a e = absurd (let z : ◌≡◌ {A = ℕ} 0 1 = cc in omega arith)
good_in ft (x ∷ l) k a e = go (eqb (word_of x) ft) (good_kind x) (all_good l) a refl refl e (good_in ft l k)
  where
    go : (b g r : Bool) → g && r ≡ true → g ≡ good_kind x → r ≡ all_good l → cond b (Some x) (kind_of ft l) ≡ Some k
        → (all_good l ≡ true → kind_of ft l ≡ Some k → good_kind k ≡ true) → good_kind k ≡ true
    go true true r a f h e i = let z : x ≡ k = cc in ap good_kind (sym z) ∙ sym f
    go false true r a f h e i = i (sym h ∙ a) e
    go true false r a f h e i = absurd (let z : false ≡ true = a in let y : ◌≡◌ {A = ℕ} 0 1 = cc in omega arith)
    go false false r a f h e i = absurd (let z : false ≡ true = a in let y : ◌≡◌ {A = ℕ} 0 1 = cc in omega arith)

pub found_rank : (ft : ℕ) (k : FrameKind) → kind_of ft kinds ≡ Some k → k.rank ≤ 2
found_rank ft k e = leb-true k.rank 2 (and_left (leb k.rank 2) (leb k.class 4) (good_in ft kinds k kinds-good e))

pub found_class : (ft : ℕ) (k : FrameKind) → kind_of ft kinds ≡ Some k → k.class ≤ 4
found_class ft k e = leb-true k.class 4 (and_right (leb k.rank 2) (leb k.class 4) (good_in ft kinds k kinds-good e))
