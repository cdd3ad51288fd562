-- Readings looked at block by block: what the blocks so far and the next one say of the list. Assumes nothing.
use Rattle.std.proofs.Common.{◌≡◌, ℕ, ◌+◌, ◌-◌, ◌<◌, ◌≤◌, Bool, true, false, not, ◌&&◌, ltb, List, length, get_or, take, drop, refl, sym, ap, ◌∙◌, subst, arith, ltb-false, ltb-true, length-take-le, length-drop}
use Rattle.std.specs.Prelude.{IfSome}
use Rattle.std.specs.Bool.{then_some}
use Rattle.std.specs.Option.{is_some}
use lib.Bits.{bit_or}
use lib.Seq.{take-add}
use lib.Ieee.{is_nan}
use Rattle.std.proofs.lemmas.List.{drop-map, take-map, get_or-drop, get_or-take, take-append-drop, take_rest, length-map}
use Rattle.std.proofs.lemmas.List.Folds.{list_all-append}
use Rattle.frequency_lists.specs.declared.Reading.{Reading}
use Rattle.frequency_lists.specs.Lists.{Reaches, ReachesAll, all_numbers, ats}
use Rattle.frequency_lists.proofs.Reach.{Reached, reaches_left, reaches_right}

-- the readings from the place a up to the place b
abbrev pub block : ℕ → ℕ → List Reading → List Reading
block a b l = take (b - a) (drop a l)

module _ (l : List Reading) (a b : ℕ) (L : a ≤ b) (M : b ≤ length l) where
  block_at : (j : ℕ) → a ≤ j → j < b → get_or (ats (block a b l)) (j - a) 0 ≡ get_or (ats l) j 0
  block_at j h k =
      let m : a + (j - a) ≡ j = omega arith in
      ap (λ (z : List ℕ). get_or z (j - a) 0) (sym (take-map (λ (x : Reading). x.at) (b - a) (drop a l)))
      ∙ get_or-take (b - a) (ats (drop a l)) (j - a) 0 (omega arith)
      ∙ ap (λ (z : List ℕ). get_or z (j - a) 0) (sym (drop-map (λ (x : Reading). x.at) a l))
      ∙ get_or-drop a (ats l) (j - a) 0
      ∙ ap (λ (k : ℕ). get_or (ats l) k 0) m

  block_length : length (ats (block a b l)) ≡ b - a
  block_length = let d = length-drop a l in length-map (block a b l) (λ (x : Reading). x.at) ∙ length-take-le (b - a) (drop a l) (omega arith)

  -- the bits of the blocks so far and of the next one
  pub reach_block : (low r s : ℕ) → Reached low r (ats l) a → ReachesAll low s (ats (block a b l)) → Reached low (bit_or r s) (ats l) b
  reach_block low r s f g j h = go (ltb j a) (ltb-true j a) (ltb-false j a)
    where
      go : (t : Bool) → (t ≡ true → j < a) → (t ≡ false → a ≤ j) → Reaches low (bit_or r s) (get_or (ats l) j 0)
      go true p q = reaches_left low r s (get_or (ats l) j 0) (f j (p refl))
      go false p q =
          let i = q refl in
          let n = block_length in
          reaches_right low r s (get_or (ats l) j 0) (subst (λ (z : ℕ). Reaches low s z) (block_at j i h) (g (j - a) (omega arith)))

  both : all_numbers (take b l) ≡ (all_numbers (take a l) && all_numbers (block a b l))
  both =
      let m : b ≡ a + (b - a) = omega arith in
      ap (λ (n : ℕ). all_numbers (take n l)) m ∙ ap all_numbers (take-add a (b - a) l) ∙ list_all-append (λ (x : Reading). not (is_nan x.hz)) (take a l) (block a b l)

  -- they are numbers so far, and those of the next block too
  pub numbers_block : all_numbers (take a l) ≡ true → all_numbers (block a b l) ≡ true → all_numbers (take b l) ≡ true
  numbers_block e f = both ∙ rw (e, f) refl

  -- or one of that block is a NaN
  pub numbers_not : all_numbers (take a l) ≡ true → all_numbers (block a b l) ≡ false → false ≡ all_numbers l
  numbers_not e f =
      let h : all_numbers (take b l) ≡ false = both ∙ rw (e, f) refl in
      sym (ap all_numbers (sym (take-append-drop b l)) ∙ list_all-append (λ (x : Reading). not (is_nan x.hz)) (take b l) (drop b l) ∙ rw h refl)

-- what is left behind the blocks decides
pub numbers_rest : (l : List Reading) (a : ℕ) → all_numbers (take a l) ≡ true → all_numbers (block a (length l) l) ≡ all_numbers l
numbers_rest l a e =
    ap all_numbers (take_rest l a) ∙ sym (ap all_numbers (sym (take-append-drop a l)) ∙ list_all-append (λ (x : Reading). not (is_nan x.hz)) (take a l) (drop a l) ∙ rw e refl)

-- ---- an answer that a test lets pass
pub passes_some : {A : Type 0} (t : Bool) (x : A) → is_some (then_some t x) ≡ t
passes_some true x = refl
passes_some false x = refl

pub if_passes : {A : Type 0} (P : A → Type 0) (t : Bool) (x : A) → P x → IfSome (then_some t x) P
if_passes P true x h = h
if_passes P false x h = tt
