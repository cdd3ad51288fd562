-- The bits of a body with a splice, by index, and the splice of each repair. Assumes nothing.
use Rattle.std.proofs.Common.{Some, Bor}
use mathlib.Core.Path.{◌≡◌, refl, sym, ap, ◌∙◌}
use mathlib.Core.Bool.{Bool, true, false, not}
use mathlib.Core.List.{List, [], ◌∷◌, ◌++◌, map}
use Prim.Native.Nat.{ℕ, zero, suc, ◌+◌, ◌-◌, ◌≤◌, ◌<◌}
use native.Mathlib.Omega.{arith}
use lib.ListN.{length, take, drop, get_or, replicate, length-append, length-drop, length-replicate, get_or-replicate, get_or-append, get_or-map}
use lib.Seq.{length-take-le, get_or-append-add, get_or-drop, get_or-take, take-take, take-append-le, drop-append-add, drop-drop}
use borrow.Author.Tests.{ltb-true, lt-ltb}
use Rattle.coding.specs.Bits.{odd, bit_of, are_bits}
use Rattle.coding.proofs.BitLaws.{odd-bit, bit_at, length-map-odd}
use Rattle.frame.specs.Repairs.{replaced, repaired}
use Rattle.frame.specs.Sizes.{most_bytes}
use Rattle.frame.specs.Splices.{spliced, placed, place, keeping}
use Rattle.frame.specs.Bodies.{bits_of, IsOf}
use Rattle.frame.specs.declared.bodies.Body.{Body}
use Rattle.frame.specs.declared.Repair.{Repair}
use Rattle.frame.specs.declared.Repair.TheVariants.{Inserted, Deleted, Flipped}
use Rattle.frame.specs.declared.splices.Splice.{Splice}
use Rattle.frame.specs.declared.splices.Spliced.{Spliced}

-- ---- a list in which `middle` replaces `skip` bits at `at`

module _ (at : ℕ) (middle : List Bool) (skip : ℕ) (l : List Bool) (h : at + skip ≤ length l) where
  pub length-replaced : length (replaced at middle skip l) ≡ length l + length middle - skip
  unfolding replaced
  length-replaced =
      omega (
        arith,
        length-append (take at l) (middle ++ drop (at + skip) l),
        length-append middle (drop (at + skip) l),
        length-drop (at + skip) l,
        length-take-le at l (omega arith),
      )

  pub replaced_before : (j : ℕ) → j < at → get_or (replaced at middle skip l) j false ≡ get_or l j false
  unfolding replaced
  replaced_before j k =
      get_or-append (take at l) (middle ++ drop (at + skip) l) false j (omega (arith, length-take-le at l (omega arith))) ∙ get_or-take at l j false k

  after : (j : ℕ) → at ≤ j → get_or (replaced at middle skip l) j false ≡ get_or (middle ++ drop (at + skip) l) (j - at) false
  unfolding replaced
  after j k =
      let e : length (take at l) + (j - at) ≡ j = omega (arith, length-take-le at l (omega arith)) in
      ap (λ (i : ℕ). get_or (take at l ++ (middle ++ drop (at + skip) l)) i false) (sym e)
      ∙ get_or-append-add (take at l) (middle ++ drop (at + skip) l) (j - at) false

  pub replaced_in : (j : ℕ) → at ≤ j → j < at + length middle → get_or (replaced at middle skip l) j false ≡ get_or middle (j - at) false
  replaced_in j k m = after j k ∙ get_or-append middle (drop (at + skip) l) false (j - at) (omega arith)

  pub replaced_after : (j : ℕ) → at + length middle ≤ j → get_or (replaced at middle skip l) j false ≡ get_or l (j - length middle + skip) false
  replaced_after j k =
      let e : length middle + (j - at - length middle) ≡ j - at = omega arith in
      let f : at + skip + (j - at - length middle) ≡ j - length middle + skip = omega arith in
      after j (omega arith) ∙ ap (λ (i : ℕ). get_or (middle ++ drop (at + skip) l) i false) (sym e)
      ∙ get_or-append-add middle (drop (at + skip) l) (j - at - length middle) false
      ∙ get_or-drop (at + skip) l (j - at - length middle) false ∙ ap (λ (i : ℕ). get_or l i false) f

  pub take-replaced : (n : ℕ) → n ≤ at → take n (replaced at middle skip l) ≡ take n l
  unfolding replaced
  take-replaced n k =
      take-append-le n (take at l) (middle ++ drop (at + skip) l) (omega (arith, length-take-le at l (omega arith))) ∙ take-take n at l k

  pub drop-replaced : (n : ℕ) → at + length middle ≤ n → drop n (replaced at middle skip l) ≡ drop (n - length middle + skip) l
  unfolding replaced
  drop-replaced n k =
      let m = n - at - length middle in
      let e : n ≡ length (take at l) + (length middle + m) = omega (arith, length-take-le at l (omega arith)) in
      ap (λ (i : ℕ). drop i (take at l ++ (middle ++ drop (at + skip) l))) e
      ∙ drop-append-add (take at l) (middle ++ drop (at + skip) l) (length middle + m) ∙ drop-append-add middle (drop (at + skip) l) m
      ∙ drop-drop m (at + skip) l ∙ ap (λ (i : ℕ). drop i l) (let z : at + skip + m ≡ n - length middle + skip = omega arith in z)

-- ---- a body with a splice

module _ (v : Spliced) where
  abbrev bits : List ℕ
  bits = v.bits.now

  abbrev s : Splice
  s = v.splice

  in_bits : s.at + s.skip ≤ length (map odd bits)
  in_bits = omega (arith, v.inside, length-map-odd bits)

  abbrev middle : List Bool
  middle = replicate s.put (odd s.bit)

  pub length-spliced : length (bits_of v) ≡ length bits + s.put - s.skip
  unfolding spliced
  length-spliced =
      omega (arith, length-replaced s.at middle s.skip (map odd bits) in_bits, length-map-odd bits, length-replicate s.put (odd s.bit))

  pub spliced_before : (j : ℕ) → j < s.at → get_or (bits_of v) j false ≡ get_or (map odd bits) j false
  unfolding spliced
  spliced_before = replaced_before s.at middle s.skip (map odd bits) in_bits

  pub spliced_in : (j : ℕ) → s.at ≤ j → j < s.at + s.put → get_or (bits_of v) j false ≡ odd s.bit
  unfolding spliced
  spliced_in j h k =
      replaced_in s.at middle s.skip (map odd bits) in_bits j h (omega (arith, length-replicate s.put (odd s.bit)))
      ∙ get_or-replicate s.put (j - s.at) (odd s.bit) false (omega arith)

  pub spliced_after : (j : ℕ) → s.at + s.put ≤ j → get_or (bits_of v) j false ≡ get_or (map odd bits) (j - s.put + s.skip) false
  unfolding spliced
  spliced_after j h =
      replaced_after s.at middle s.skip (map odd bits) in_bits j (omega (arith, length-replicate s.put (odd s.bit)))
      ∙ ap (λ (n : ℕ). get_or (map odd bits) (j - n + s.skip) false) (length-replicate s.put (odd s.bit))

  -- what lies before a splice, and what after it
  pub take-spliced : (n : ℕ) → n ≤ s.at → take n (bits_of v) ≡ take n (map odd bits)
  unfolding spliced
  take-spliced = take-replaced s.at middle s.skip (map odd bits) in_bits

  pub drop-spliced : (n : ℕ) → s.at + s.put ≤ n → drop n (bits_of v) ≡ drop (n - s.put + s.skip) (map odd bits)
  unfolding spliced
  drop-spliced n h =
      let e = length-replicate s.put (odd s.bit) in
      drop-replaced s.at middle s.skip (map odd bits) in_bits n (omega (arith, e)) ∙ ap (λ (k : ℕ). drop (n - k + s.skip) (map odd bits)) e

-- nothing more is asked of bits than that they are bits, nor of a splice than that it lies in them: they may be as many as memory holds, of any rank and any size of a frame
pub any_spliced : (bits : Bor (List ℕ)) (rank size : ℕ) (splice : Splice) → are_bits bits.now ≡ true → 2 ≤ size → size ≤ most_bytes
    → splice.bit < 2 → splice.put ≤ 1 → splice.skip ≤ 1 → splice.at + splice.skip ≤ length bits.now → Spliced
any_spliced bits rank size splice valid some most bit put skip inside =
    record { bits = bits; rank = rank; size = size; splice = splice; valid = valid; some = some; most = most; bit = bit; put = put; skip = skip; inside = inside }

-- ---- the splice of a repair

pub odd_not : (b : ℕ) → b < 2 → odd (1 - b) ≡ not (odd b)
odd_not zero h = refl
odd_not (suc zero) h = refl
odd_not (suc (suc b)) h = absurd (omega arith)

pub placed_in : (how : Repair) (n : ℕ) → placed (Some how) n ≡ true → place how < n
unfolding placed
placed_in (Inserted b i) n h = ltb-true i n h
placed_in (Deleted i) n h = ltb-true i n h
placed_in (Flipped i) n h = ltb-true i n h

pub in_placed : (how : Repair) (n : ℕ) → place how < n → placed (Some how) n ≡ true
unfolding placed
in_placed (Inserted b i) n h = lt-ltb i n h
in_placed (Deleted i) n h = lt-ltb i n h
in_placed (Flipped i) n h = lt-ltb i n h

pub kept : (l : List Bool) → spliced keeping l ≡ l
unfolding spliced replaced
kept l = refl

-- the bits of a body with a splice, from the body itself
module _ (b : Body) (v : Spliced) (e : IsOf v b) where
  pub bits_are : (l : List Bool) → spliced v.splice (map odd b.bits.now) ≡ l → bits_of v ≡ l
  bits_are l m = ap (λ (x : List ℕ). spliced v.splice (map odd x)) e.0 ∙ m

  pub bits_kept : v.splice ≡ keeping → bits_of v ≡ map odd b.bits.now
  bits_kept m = bits_are (map odd b.bits.now) (ap (λ (s : Splice). spliced s (map odd b.bits.now)) m ∙ kept (map odd b.bits.now))

pub inserts : (l : List Bool) (i : ℕ) (b : Bool) (r : ℕ) → r ≡ bit_of b
    → spliced (record { at = i; put = 1; bit = r; skip = 0 }) l ≡ repaired (Some (Inserted b i)) l
unfolding spliced repaired
inserts l i b r f = ap (λ (x : Bool). replaced i (x ∷ []) 0 l) (ap odd f ∙ odd-bit b)

pub deletes : (l : List Bool) (i : ℕ) → spliced (record { at = i; put = 0; bit = 0; skip = 1 }) l ≡ repaired (Some (Deleted i)) l
unfolding spliced repaired
deletes l i = refl

pub flips : (body : List ℕ) (i : ℕ) → are_bits body ≡ true
    → spliced (record { at = i; put = 1; bit = 1 - get_or body i 0; skip = 1 }) (map odd body) ≡ repaired (Some (Flipped i)) (map odd body)
unfolding spliced repaired
flips body i b =
    ap (λ (x : Bool). replaced i (x ∷ []) 1 (map odd body)) (odd_not (get_or body i 0) (bit_at body i b) ∙ ap not (sym (get_or-map odd body i 0)))
