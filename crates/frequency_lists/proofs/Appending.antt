-- Readings put behind the others, one by one: what is still to be put, on what is there, makes the whole. Assumes nothing.
use Rattle.std.proofs.Common.{◌≡◌, ℕ, ◌+◌, ◌*◌, ◌<◌, ◌≤◌, Bool, true, false, cond, not, ◌&&◌, List, [], ◌∷◌, length, get_or, drop, sym, refl, ap, ◌∙◌, add-one, arith, drop_of_length-le, drop-cons}
use lib.Seq.{sets, length-sets}
use lib.Ieee.{Float}
use Rattle.cfo.specs.Cfo as Cfo
use Rattle.frequency_lists.specs.declared.Reading.{Reading}
use Rattle.frequency_lists.specs.Marks.{put}
use Rattle.frequency_signal.specs.Seconds.{settling}
use Rattle.frequency_lists.specs.Lists.{readings_from}

pub record Left {A : Type 0} (all rest : List A) (count w : ℕ) (l cur : List A) : Type 0 where
  pub next : w + length rest ≡ count + length all
  pub list : sets cur w rest ≡ sets l count all

module _ {A : Type 0} where
  list_turn : (t : Bool) (x : A) (rest cur nxt : List A) (w r : ℕ) → r ≡ cond t (w + 1) w → nxt ≡ put t cur w x → sets nxt r rest ≡ sets cur w (cond t (x ∷ rest) rest)
  list_turn true x rest cur nxt w r e p = rw (e, p, add-one w) refl
  list_turn false x rest cur nxt w r e p = rw (e, p) refl

  count_turn : (t : Bool) (x : A) (rest : List A) (w r : ℕ) → r ≡ cond t (w + 1) w → r + length rest ≡ w + length (cond t (x ∷ rest) rest)
  count_turn true x rest w r e = omega (arith, e)
  count_turn false x rest w r e = omega (arith, e)

  pub left_turn : (all l : List A) (count : ℕ) (t : Bool) (x : A) (rest : List A) (w r : ℕ) (cur nxt : List A) → Left all (cond t (x ∷ rest) rest) count w l cur
      → r ≡ cond t (w + 1) w → nxt ≡ put t cur w x → Left all rest count r l nxt
  left_turn all l count t x rest w r cur nxt p e q = record { next = count_turn t x rest w r e ∙ p.next; list = list_turn t x rest cur nxt w r e q ∙ p.list }

-- one value
flip : (b : Bool) (u v : List Reading) → cond b u v ≡ cond (not b) v u
flip true u v = refl
flip false u v = refl

module _ (rate : ℕ) (step : Float) (more : Bool) (tuned f line : ℕ) (raw : List ℕ) where
  abbrev pub from_at : ℕ → List Reading
  from_at k = readings_from rate step more tuned f (line + 8 * k) (drop k raw)

  abbrev pub reading : ℕ → Reading
  reading k = record { at = line + 8 * k; lo = f; hz = Cfo.reading_hz f (get_or raw k 0) step }

  pub value-turn : (k : ℕ) → k < length raw → from_at k ≡ cond (not (settling rate tuned (line + 8 * k) && more)) (reading k ∷ from_at (k + 1)) (from_at (k + 1))
  unfolding readings_from
  value-turn k h =
      let e : line + 8 * k + 8 ≡ line + 8 * (k + 1) = omega arith in
      rw (drop-cons raw k 0 h, e, add-one k) (flip (settling rate tuned (line + 8 * k) && more) _ _)

  pub value_end : (k : ℕ) → length raw ≤ k → from_at k ≡ []
  unfolding readings_from
  value_end k h = rw (drop_of_length-le raw {i = k} h) refl

pub next-upto : (t : Bool) (w r : ℕ) → r ≡ cond t (w + 1) w → r ≤ w + 1
next-upto true w r e = omega (arith, e)
next-upto false w r e = omega (arith, e)
