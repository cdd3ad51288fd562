-- Laws of specs/Heard.antt. Assumes nothing.
use Rattle.std.proofs.Common.{◌≡◌, ℕ, ◌+◌, ◌<◌, ◌≤◌, Bool, true, false, List, [], ◌∷◌, length, get_or, drop, refl, ◌∙◌, add-one, arith, drop_of_length-le, drop-cons, Option, None, Some, cond}
use lib.Ieee.{Float, nan, binary64, lt, add}
use Rattle.frequency_signal.specs.declared.Signal.{Signal}
use Rattle.frequency_signal.specs.Order.{Index}
use Rattle.frequency_signal.specs.Heard.{above_db, known, loud, soft, hear, heard}

pub later : (n : ℕ) (s : Option ℕ) → Index n s → Index (n + 1) s
later n None h = tt
later n (Some s) h = omega arith

module _ (rate : ℕ) (s : Signal) (v : Float) where
  pub hear-n : (hear rate s v).n ≡ s.n + 1
  unfolding hear loud soft
  hear-n = go (lt (add binary64 (known s.floor v) above_db) v)
    where
      go : (t : Bool) → (cond t (loud rate s (known s.floor v)) (soft rate s (known s.floor v) v)).n ≡ s.n + 1
      go true = refl
      go false = refl

  pub hear-index : Index s.n s.last_signal → Index (hear rate s v).n (hear rate s v).last_signal
  unfolding hear loud soft
  hear-index h = go (lt (add binary64 (known s.floor v) above_db) v)
    where
      go : (t : Bool) → Index (cond t (loud rate s (known s.floor v)) (soft rate s (known s.floor v) v)).n (cond t (loud rate s (known s.floor v)) (soft rate s (known s.floor v) v)).last_signal
      go true = omega arith
      go false = later s.n s.last_signal h

pub heard-turn : (rate : ℕ) (s t w : Signal) (l : List Float) (i : ℕ) → i < length l → t ≡ hear rate s (get_or l i nan) → heard rate s (drop i l) ≡ w → heard rate t (drop (i + 1) l) ≡ w
unfolding heard
heard-turn rate s t w l i h e p = rw (e, add-one i) (rw (drop-cons l i nan h) at p)

pub heard_end : (rate : ℕ) (s : Signal) (l : List Float) (i : ℕ) → length l ≤ i → heard rate s (drop i l) ≡ s
unfolding heard
heard_end rate s l i h = rw (drop_of_length-le l {i = i} h) refl

pub heard-n : (rate : ℕ) (s : Signal) (l : List Float) → (heard rate s l).n ≡ s.n + length l
unfolding heard
heard-n rate s [] = omega arith
heard-n rate s (v ∷ l) = let e = hear-n rate s v in heard-n rate (hear rate s v) l ∙ omega arith
