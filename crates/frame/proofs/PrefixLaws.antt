-- Which bits decoding reads: no repair past a frame's bits matters, and none past the 215th bit is read. Assumes nothing.
use Rattle.std.proofs.Common.{Option, None, Some}
use mathlib.Core.Path.{◌≡◌, refl, sym, ap, ap₂, ◌∙◌}
use mathlib.Core.Bool.{Bool, true, false, not, cond}
use mathlib.Core.List.{List, [], ◌∷◌, ◌++◌}
use Prim.Native.Nat.{ℕ, zero, suc, ◌+◌, ◌-◌, ◌*◌, ◌≤◌, ◌<◌, min}
use native.Mathlib.Omega.{arith}
use lib.Dec.{leb, ltb}
use lib.ListN.{length, take, drop, get_or, length-drop}
use lib.Seq.{take-take, take-append-add, length-take-le, take_all, get_or-take}
use borrow.Author.Tests.{le-leb, leb-true, leb-false, lt-ltb, ltb-true}
use Rattle.coding.specs.Bits.{value}
use Rattle.frame.specs.Kinds.{sync_size, kinds, kind_of}
use Rattle.frame.specs.Sizes.{body_bytes}
use Rattle.frame.specs.Fields.{frame_from}
use Rattle.frame.specs.Repairs.{replaced, repaired, repairs, first_of}
use Rattle.frame.specs.Decode.{is_right, parse_body, passes, mends, first_repair, decode_body, decide_at, first_start, starts, search_from, decode_uplink}
use Rattle.frame.specs.Plain.{right_bits}
use Rattle.frame.specs.Splices.{placed}
use Rattle.frame.specs.declared.kinds.FrameKind.{FrameKind}
use Rattle.frame.specs.declared.Repair.{Repair}
use Rattle.frame.specs.declared.Repair.TheVariants.{Inserted, Deleted, Flipped}
use Rattle.frame.proofs.KindLaws.{found_class}
use Rattle.frame.proofs.SpliceLaws.{length-replaced, take-replaced}
use Rattle.frame.proofs.SizeLaws.{body_most}
use Rattle.frame.proofs.FieldLaws.{drop-take, bytes_same, right_same, passes_is}
use Rattle.frame.proofs.RepairLaws.{first_below, agree, none_passes, first_few}

-- ---- repairs past a frame's bits

module _ (kind : FrameKind) where
  -- a frame's bits
  abbrev pub total : ℕ
  total = 8 * body_bytes kind.class

  module _ (l : List Bool) (e : passes kind l None ≡ false) where
    past : total ≤ length l → (how : Option Repair) (at : ℕ) (middle : List Bool) (skip : ℕ) → repaired how l ≡ replaced at middle skip l → skip ≤ 1 → total ≤ at → at < length l
        → passes kind l how ≡ false
    unfolding repaired
    past a how at middle skip f s t u =
        passes_is kind how l ∙ ap (right_bits kind.rank (body_bytes kind.class)) f
        ∙ right_same kind.rank (body_bytes kind.class) (replaced at middle skip l) l (omega (arith, length-replaced at middle skip l (omega arith))) a
        (take-replaced at middle skip l (omega arith) total t)
        ∙ sym (passes_is kind None l) ∙ e

    later : total ≤ length l → first_of (mends kind l) (repairs (length l - total) (0 + total)) ≡ None
    unfolding repaired
    later a =
        agree (mends kind l) (λ how. false) (length l - total) (0 + total)
        (λ j b c. (
          past a (Some (Inserted true j)) j (true ∷ []) 0 refl (omega arith) (omega arith) (omega arith),
          past a (Some (Inserted false j)) j (false ∷ []) 0 refl (omega arith) (omega arith) (omega arith),
          past a (Some (Deleted j)) j [] 1 refl (omega arith) (omega arith) (omega arith),
          past a (Some (Flipped j)) j (not (get_or l j false) ∷ []) 1 refl (omega arith) (omega arith) (omega arith),
        ))
        ∙ none_passes (length l - total) (0 + total)

    pub first-within : total ≤ length l → first_repair kind l ≡ first_of (mends kind l) (repairs total 0)
    unfolding first_repair
    first-within a =
        ap (λ (n : ℕ). first_of (mends kind l) (repairs n 0)) (let z : length l ≡ total + (length l - total) = omega arith in z)
        ∙ first_few (mends kind l) total (length l - total) 0 (later a)

    -- the places that the code tries
    pub first-least : (end : ℕ) → end ≡ min (length l) total → first_repair kind l ≡ first_of (mends kind l) (repairs end 0)
    unfolding first_repair
    first-least end f = go (leb (length l) total) (leb-true (length l) total) (leb-false (length l) total)
      where
        go : (b : Bool) → (b ≡ true → length l ≤ total) → (b ≡ false → total < length l) → first_repair kind l ≡ first_of (mends kind l) (repairs end 0)
        go true g h = let k = g refl in ap (λ (n : ℕ). first_of (mends kind l) (repairs n 0)) (let e : length l ≡ end = omega arith in e)
        go false g h = let k = h refl in first-within (omega arith) ∙ ap (λ (n : ℕ). first_of (mends kind l) (repairs n 0)) (let e : total ≡ end = omega arith in e)

  -- ---- a body and its first n bits

  parse_same : (how : Option Repair) (l m : List Bool) → total ≤ length (repaired how l) → total ≤ length (repaired how m) → take total (repaired how l) ≡ take total (repaired how m)
      → parse_body kind how l ≡ parse_body kind how m
  unfolding parse_body
  parse_same how l m a b e =
      ap₂ (λ (t : Bool) (x : List ℕ). cond t (Some (frame_from kind how x)) None)
      (le-leb total (length (repaired how l)) a ∙ sym (le-leb total (length (repaired how m)) b))
      (bytes_same kind.rank (body_bytes kind.class) (repaired how l) (repaired how m) e)

  module _ (n : ℕ) (l : List Bool) (b : total < n) (c : n ≤ length l) where
    length_cut : length (take n l) ≡ n
    length_cut = length-take-le n l c

    replaced-take : (at : ℕ) (middle : List Bool) (skip : ℕ) → at + skip ≤ n
        → replaced at middle skip (take n l) ≡ take (at + (length middle + (n - (at + skip)))) (replaced at middle skip l)
    unfolding replaced
    replaced-take at middle skip h =
        let r = drop (at + skip) l in
        let j = n - (at + skip) in
        let e : length (take at l) ≡ at = length-take-le at l (omega arith) in
        ap₂ (λ (x y : List Bool). x ++ (middle ++ y)) (take-take at n l (omega arith)) (drop-take (at + skip) n l)
        ∙ ap (λ (x : List Bool). take at l ++ x) (sym (take-append-add middle r j))
        ∙ sym (ap (λ (i : ℕ). take (i + (length middle + j)) (take at l ++ (middle ++ r))) (sym e) ∙ take-append-add (take at l) (middle ++ r) (length middle + j))

    cut : (how : Option Repair) (at : ℕ) (middle : List Bool) (skip : ℕ) → repaired how (take n l) ≡ replaced at middle skip (take n l) → repaired how l ≡ replaced at middle skip l
        → skip ≤ 1 → at < total → parse_body kind how (take n l) ≡ parse_body kind how l
    cut how at middle skip f g s t =
        parse_same how (take n l) l
        (omega (arith, ap length f, length-replaced at middle skip (take n l) (omega (arith, length_cut)), length_cut))
        (omega (arith, ap length g, length-replaced at middle skip l (omega arith)))
        (ap (take total) (f ∙ replaced-take at middle skip (omega arith))
        ∙ take-take total (at + (length middle + (n - (at + skip)))) (replaced at middle skip l) (omega arith) ∙ ap (take total) (sym g))

    parse-cut : (how : Option Repair) → placed how total ≡ true → parse_body kind how (take n l) ≡ parse_body kind how l
    unfolding repaired placed
    parse-cut None h = parse_same None (take n l) l (omega (arith, length_cut)) (omega arith) (take-take total n l (omega arith))
    parse-cut (Some (Inserted x at)) h = cut (Some (Inserted x at)) at (x ∷ []) 0 refl refl (omega arith) (ltb-true at total h)
    parse-cut (Some (Deleted at)) h = cut (Some (Deleted at)) at [] 1 refl refl (omega arith) (ltb-true at total h)
    parse-cut (Some (Flipped at)) h =
        let k = ltb-true at total h in
        cut (Some (Flipped at)) at (not (get_or l at false) ∷ []) 1
        (ap (λ (x : Bool). replaced at (not x ∷ []) 1 (take n l)) (get_or-take n l at false (omega arith))) refl (omega arith) k

    passes-cut : (how : Option Repair) → placed how total ≡ true → passes kind (take n l) how ≡ passes kind l how
    passes-cut how h = ap is_right (parse-cut how h)

    first-cut : passes kind l None ≡ false → first_repair kind (take n l) ≡ first_repair kind l
    unfolding placed
    first-cut e =
        first-within (take n l) (passes-cut None refl ∙ e) (omega (arith, length_cut))
        ∙ agree (mends kind (take n l)) (mends kind l) total 0
        (λ j u v. (
          passes-cut (Some (Inserted true j)) (in_reach j v),
          passes-cut (Some (Inserted false j)) (in_reach j v),
          passes-cut (Some (Deleted j)) (in_reach j v),
          passes-cut (Some (Flipped j)) (in_reach j v),
        ))
        ∙ sym (first-within l e (omega arith))
      where
        in_reach : (j : ℕ) → j < 0 + total → ltb j total ≡ true
        in_reach j v = lt-ltb j total (omega arith)

    decode-cut : decode_body kind (take n l) ≡ decode_body kind l
    unfolding decode_body placed
    decode-cut = go (passes kind l None) refl
      where
        chosen : Bool → List Bool → Option Repair
        chosen t m = cond t None (first_repair kind m)

        go : (t : Bool) → passes kind l None ≡ t → parse_body kind (chosen (passes kind (take n l) None) (take n l)) (take n l) ≡ parse_body kind (chosen (passes kind l None) l) l
        go true e =
            ap (λ (t : Bool). parse_body kind (chosen t (take n l)) (take n l)) (passes-cut None refl ∙ e) ∙ parse-cut None refl
            ∙ sym (ap (λ (t : Bool). parse_body kind (chosen t l) l) e)
        go false e =
            ap (λ (t : Bool). parse_body kind (chosen t (take n l)) (take n l)) (passes-cut None refl ∙ e)
            ∙ ap (λ (h : Option Repair). parse_body kind h (take n l)) (first-cut e)
            ∙ parse-cut (first_repair kind l) (ap (λ (h : Option Repair). placed h total) (first-within l e (omega arith)) ∙ first_below (mends kind l) total)
            ∙ sym (ap (λ (t : Bool). parse_body kind (chosen t l) l) e)

-- ---- the starts

search_cut : (m start n : ℕ) (l : List Bool) → start + m ≤ 23 → 215 ≤ n → n ≤ length l → search_from m start (take n l) ≡ search_from m start l
unfolding search_from
search_cut zero start n l h a b = refl
search_cut (suc m) start n l h a b =
    let e : length (take n l) ≡ n = length-take-le n l b in
    let w : take sync_size (drop start (take n l)) ≡ take sync_size (drop start l) =
    ap (take sync_size) (drop-take start n l) ∙ take-take sync_size (n - start) (drop start l) (omega arith) in
    rw (le-leb (start + sync_size) (length (take n l)) (omega arith), le-leb (start + sync_size) (length l) (omega arith), w)
    (go (kind_of (value (take sync_size (drop start l))) kinds) refl (search_cut m (suc start) n l (omega arith) a b))
  where
    go : (x : Option FrameKind) → kind_of (value (take sync_size (drop start l))) kinds ≡ x → search_from m (suc start) (take n l) ≡ search_from m (suc start) l
        → decide_at x (drop (start + sync_size) (take n l)) (search_from m (suc start) (take n l)) ≡ decide_at x (drop (start + sync_size) l) (search_from m (suc start) l)
    go None f r = r
    go (Some kind) f r =
        ap (decode_body kind) (drop-take (start + sync_size) n l)
        ∙ decode-cut kind (n - (start + sync_size)) (drop (start + sync_size) l)
        (omega (arith, body_most kind.class (found_class (value (take sync_size (drop start l))) kind f))) (omega (arith, length-drop (start + sync_size) l))

-- 01: 'decoding reads none past the 215th'
abbrev pub bits_read : ℕ
bits_read = 215

pub decode_prefix : (n : ℕ) (l : List Bool) → bits_read ≤ n → decode_uplink (take n l) ≡ decode_uplink l
unfolding decode_uplink
decode_prefix n l h = go (leb n (length l)) (leb-true n (length l)) (leb-false n (length l))
  where
    go : (b : Bool) → (b ≡ true → n ≤ length l) → (b ≡ false → length l < n) → search_from starts first_start (take n l) ≡ search_from starts first_start l
    go true f g = search_cut starts first_start n l (omega arith) h (f refl)
    go false f g = let k = g refl in ap (search_from starts first_start) (take_all n l (omega arith))
