-- Where the decoder finds the frame type of a repetition: at 20, for every kind of the table. Assumes nothing.
use Rattle.std.proofs.Common.{Option, None, Some}
use Rattle.std.specs.Option.{is_none}
use mathlib.Core.Path.{◌≡◌, refl, sym, ap, ap₂, ◌∙◌}
use mathlib.Core.Bool.{Bool, true, false, cond, ◌&&◌}
use mathlib.Core.List.{List, ◌++◌, map, append_assoc}
use Prim.Native.Nat.{ℕ, zero, suc, ◌+◌, ◌-◌, ◌*◌, ◌/◌, ◌%◌, ◌^◌, ◌≤◌, ◌<◌}
use native.Mathlib.Omega.{arith}
use lib.ListN.{length, take, drop, get_or, length-append, get_or-map, length-drop}
use lib.Seq.{take_at, drop_at, take-append-le, drop-append-le, drop-drop}
use lib.Dec.{ltb}
use borrow.Author.Tests.{ltb-true, ltb-false, le-leb}
use Rattle.limits.proofs.Samples.{and_left, and_right}
use Rattle.coding.specs.Bits.{digits, value, bytes_bits, to_bytes}
use Rattle.coding.specs.Convolution.{fresh, convolved, deconvolved}
use Rattle.coding.proofs.ByteLists.{length-bytes-bits, bytes_back}
use Rattle.coding.proofs.Codes.{length-convolved, deconvolve-undone}
use Rattle.coding.proofs.Digits.{length_digits}
use Rattle.coding.proofs.Values.{value-lt}
use Rattle.frame.specs.Kinds.{alternating, preamble, sync_size, sync_bits, type_of, plain, kinds, blank_kind, kind_of}
use Rattle.frame.specs.Sizes.{body_bytes}
use Rattle.frame.specs.Fields.{crc_right, frame_from}
use Rattle.frame.specs.Repairs.{repaired}
use Rattle.frame.specs.Decode.{is_right, parse_body, decode_body, search_from, decode_uplink}
use Rattle.frame.specs.declared.kinds.FrameKind.{FrameKind}
use Rattle.frame.proofs.KindLaws.{rust_types, word_of, type_at, row, row_plain, kind_is}
use Rattle.frame.proofs.SearchLaws.{search-found, search-later, decode_right}
use Rattle.writer.specs.Uplink.{lead_size, lead, repetition_of}
use Rattle.writer.specs.RoundTrip.{Quiet}

-- ---- the parts of a repetition

abbrev pub repetition : FrameKind → List ℕ → List Bool
repetition kind bytes = repetition_of kind (bytes_bits bytes)

pub length-lead : length lead ≡ 20
unfolding lead alternating
length-lead = refl

pub length-sync : (k : FrameKind) → length (sync_bits k) ≡ sync_size
unfolding sync_bits preamble alternating
length-sync k = omega (arith, length_digits 13 (type_of k))

module _ (kind : FrameKind) (bytes : List ℕ) where
  body : List Bool
  body = convolved kind.rank fresh (bytes_bits bytes)

  after_lead : drop lead_size (repetition kind bytes) ≡ sync_bits kind ++ body
  unfolding repetition_of body
  after_lead = drop_at lead (sync_bits kind ++ body) lead_size length-lead

  pub type_there : take sync_size (drop lead_size (repetition kind bytes)) ≡ sync_bits kind
  type_there = ap (take sync_size) after_lead ∙ take_at (sync_bits kind) body sync_size (length-sync kind)

  pub body_there : drop (lead_size + sync_size) (repetition kind bytes) ≡ convolved kind.rank fresh (bytes_bits bytes)
  unfolding body
  body_there =
      sym (drop-drop sync_size lead_size (repetition kind bytes))
      ∙ ap (drop sync_size) after_lead ∙ drop_at (sync_bits kind) body sync_size (length-sync kind)

  pub long-enough : lead_size + sync_size ≤ length (repetition kind bytes)
  unfolding repetition_of
  long-enough = omega (arith, length-lead, length-sync kind, length-append lead (sync_bits kind ++ convolved kind.rank fresh (bytes_bits bytes)), length-append (sync_bits kind) (convolved kind.rank fresh (bytes_bits bytes)))

-- ---- starts that show no type are passed over

pub passed_over : (k n start : ℕ) (l : List Bool) → start + k + sync_size ≤ length l → Quiet (start + k) l → search_from n (start + k) l ≡ search_from (k + n) start l
passed_over zero n start l h q =
    ap₂ (λ (m s : ℕ). search_from m s l) (let e : n ≡ zero + n = omega arith in e) (let e : start + zero ≡ start = omega arith in e)
passed_over (suc k) n start l h q =
    let e : start + suc k ≡ start + 1 + k = omega arith in
    let m : suc (k + n) ≡ suc k + n = omega arith in
    ap (λ (s : ℕ). search_from n s l) e
    ∙ passed_over k n (start + 1) l (omega arith) (λ s j. q s (omega arith))
    ∙ search-later (k + n) start l (omega arith) (kind_of (value (take sync_size (drop start l))) kinds) refl (q start (omega arith))
    ∙ ap (λ (j : ℕ). search_from j start l) m

-- ---- the table: the number of each kind's bits finds that kind

all_named : map (λ (k : FrameKind). kind_of (word_of k) kinds) kinds ≡ map Some kinds
unfolding kind_of sync_bits preamble alternating digits value
all_named = refl

pub named : (i : ℕ) → kind_of (word_of (get_or kinds i blank_kind)) kinds ≡ Some (get_or kinds i blank_kind)
named i =
    sym (get_or-map (λ (k : FrameKind). kind_of (word_of k) kinds) kinds i blank_kind)
    ∙ ap₂ (λ (l : List (Option FrameKind)) (d : Option FrameKind). get_or l i d) all_named blank-named
    ∙ get_or-map Some kinds i blank_kind
  where
    blank-named : kind_of (word_of blank_kind) kinds ≡ Some blank_kind
    blank-named = unfold kind_of in unfold sync_bits in unfold preamble in unfold alternating in unfold digits in unfold value in refl

-- a data frame's place in the table
pub place_of : (r c : ℕ) → c ≤ 4 → r ≤ 2 → plain r c ≡ get_or kinds (6 * r + suc c) blank_kind
place_of r c h k =
    let q : (6 * r + suc c) / 6 ≡ r = omega arith in
    let m : (6 * r + suc c) % 6 ≡ suc c = omega arith in
    let p : suc c - 1 ≡ c = omega arith in
    ap (plain r) (sym p) ∙ row_plain r (suc c) (λ e. omega arith) ∙ ap₂ row (sym q) (sym m) ∙ kind_is (6 * r + suc c) (omega arith)

-- ---- no start under 20 shows a type, whatever the kind and the bytes: one test over the table

none_is : (x : Option FrameKind) → is_none x ≡ true → x ≡ None
none_is None e = refl
none_is (Some k) e = absurd (let z : ◌≡◌ {A = ℕ} 0 1 = cc in omega arith)

unfoldable every_below : (ℕ → Bool) → ℕ → Bool
every_below p zero = true
every_below p (suc n) = p n && every_below p n

below_at : (p : ℕ → Bool) (n k : ℕ) → every_below p n ≡ true → k < n → p k ≡ true
unfolding every_below
below_at p zero k e h = absurd (omega arith)
below_at p (suc n) k e h = go (ltb k n) (ltb-true k n) (ltb-false k n) (below_at p n k (and_right (p n) (every_below p n) e))
  where
    go : (t : Bool) → (t ≡ true → k < n) → (t ≡ false → n ≤ k) → (k < n → p k ≡ true) → p k ≡ true
    go true f g r = r (f refl)
    go false f g r = let j : n ≤ k = g refl in let i : k ≡ n = omega arith in ap p i ∙ and_left (p n) (every_below p n) e

-- what a start under 20 shows: 16 of the preamble and the type
abbrev shown : FrameKind → ℕ → Option FrameKind
shown k s = kind_of (value (take sync_size (drop s (lead ++ sync_bits k)))) kinds

unfoldable quiet_front : FrameKind → Bool
quiet_front k = every_below (λ (s : ℕ). is_none (shown k s)) lead_size

fronts_quiet : every_below (λ (i : ℕ). quiet_front (get_or kinds i blank_kind)) 18 ≡ true
unfolding every_below quiet_front lead sync_bits preamble alternating digits value kind_of
fronts_quiet = refl

front_only : (kind : FrameKind) (bytes : List ℕ) (s : ℕ) → s < lead_size → take sync_size (drop s (repetition kind bytes)) ≡ take sync_size (drop s (lead ++ sync_bits kind))
unfolding repetition_of
front_only kind bytes s h =
    let front = lead ++ sync_bits kind in
    let tail = convolved kind.rank fresh (bytes_bits bytes) in
    let n : length front ≡ 36 = omega (arith, length-append lead (sync_bits kind), length-lead, length-sync kind) in
    ap (λ (l : List Bool). take sync_size (drop s l)) (sym (append_assoc lead (sync_bits kind) tail))
    ∙ ap (take sync_size) (drop-append-le s front tail (omega arith))
    ∙ take-append-le sync_size (drop s front) tail (omega (arith, length-drop s front))

pub quiet : (i : ℕ) (bytes : List ℕ) → i < 18 → Quiet lead_size (repetition (get_or kinds i blank_kind) bytes)
unfolding quiet_front
quiet i bytes h s k =
    let kind = get_or kinds i blank_kind in
    ap (λ (l : List Bool). kind_of (value l) kinds) (front_only kind bytes s k)
    ∙ none_is (shown kind s)
    (below_at (λ (j : ℕ). is_none (shown kind j)) lead_size s (below_at (λ (j : ℕ). quiet_front (get_or kinds j blank_kind)) 18 i fronts_quiet h) k)

-- ---- so the body is decoded by its own kind

pub type_found : (i : ℕ) (bytes : List ℕ) → Quiet lead_size (repetition (get_or kinds i blank_kind) bytes)
    → decode_uplink (repetition (get_or kinds i blank_kind) bytes)
    ≡ decode_body (get_or kinds i blank_kind) (convolved (get_or kinds i blank_kind).rank fresh (bytes_bits bytes))
unfolding decode_uplink
type_found i bytes q =
    let kind = get_or kinds i blank_kind in
    let l = repetition kind bytes in
    let h : lead_size + sync_size ≤ length l = long-enough kind bytes in
    sym (passed_over 12 3 8 l h q)
    ∙ sym (search-found 2 lead_size l h (kind_of (value (take sync_size (drop lead_size l))) kinds) refl kind
    (ap (λ (x : List Bool). kind_of (value x) kinds) (type_there kind bytes) ∙ named i))
    ∙ ap (decode_body kind) (body_there kind bytes)

-- ---- and its bytes come back

module _ (kind : FrameKind) (bytes : List ℕ) (e : length bytes ≡ body_bytes kind.class) (small : (i : ℕ) → get_or bytes i 0 < 256) where
  sent : List Bool
  sent = convolved kind.rank fresh (bytes_bits bytes)

  parsed : parse_body kind None sent ≡ Some (frame_from kind None bytes)
  unfolding parse_body repaired sent
  parsed =
      let n = body_bytes kind.class in
      let long : 8 * n ≤ length sent = omega (arith, length-convolved kind.rank fresh (bytes_bits bytes), length-bytes-bits bytes) in
      ap (λ (b : Bool). cond b (Some (frame_from kind None (to_bytes n (deconvolved kind.rank fresh sent)))) None) (le-leb (8 * n) (length sent) long)
      ∙ ap (λ (bs : List ℕ). Some (frame_from kind None bs))
      (ap₂ to_bytes (sym e) (deconvolve-undone kind.rank fresh (bytes_bits bytes)) ∙ bytes_back bytes small)

  pub body_read : crc_right (body_bytes kind.class) bytes ≡ true → decode_body kind (convolved kind.rank fresh (bytes_bits bytes)) ≡ Some (frame_from kind None bytes)
  unfolding sent frame_from
  body_read ok = sym (decode_right kind sent (ap is_right parsed ∙ ok)) ∙ parsed

-- ---- the Rust's number of a data frame's bits

pub type_is : (r c : ℕ) → r ≤ 2 → c ≤ 4 → get_or rust_types (6 * r + c + 1) 0 ≡ word_of (plain r c)
type_is r c h k =
    let e : 6 * r + c + 1 ≡ 6 * r + suc c = omega arith in
    ap (λ (i : ℕ). get_or rust_types i 0) e ∙ sym (type_at (6 * r + suc c) (omega arith)) ∙ ap word_of (sym (place_of r c k h))

pub type_lt : (k : FrameKind) → word_of k < 65536
type_lt k = omega (arith, value-lt (sync_bits k), ap (λ (n : ℕ). 2 ^ n) (length-sync k))
