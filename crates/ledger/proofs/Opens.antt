-- Laws of the open messages, whatever is kept of them: how many, and that no two are alike.
use mathlib.Core.Path.{◌≡◌, refl}
use mathlib.Core.Logic.{⊎_elim}
use mathlib.Core.List.{List, [], ◌∷◌}
use mathlib.Core.Bool.{Bool, true, false, not, cond}
use Prim.Native.Nat.{suc, ◌≤◌}
use native.Mathlib.Omega.{arith}
use lib.ListN.{length}
use lib.Ieee.{Float}
use borrow.Author.Tests.{not-true}
use Rattle.ledger.specs.Frames.{Key, same, Frame, key_of}
use Rattle.ledger.specs.Ledger.{Kind, join, flush, ready, chosen, others}
use Rattle.ledger.specs.Causes.{entry_fits, waits, unlike, all_fit}
use Rattle.ledger.proofs.Basics.{either, or_false, and_true, differ}
use Rattle.ledger.proofs.Entries.{FrameFits}
use Rattle.ledger.proofs.OpenKinds.{Lawful, opened-fits, joined-fits}

-- ---- those that pass a test, and the others

module _ {A : Type 0} (p : A → Bool) where
  pub chosen_yes : (m : A) (l : List A) → p m ≡ true → chosen p (m ∷ l) ≡ m ∷ chosen p l
  unfolding chosen
  chosen_yes m l e = rw e refl

  pub chosen_no : (m : A) (l : List A) → p m ≡ false → chosen p (m ∷ l) ≡ chosen p l
  unfolding chosen
  chosen_no m l e = rw e refl

  pub others_yes : (m : A) (l : List A) → p m ≡ true → others p (m ∷ l) ≡ others p l
  unfolding others
  others_yes m l e = rw e refl

  pub others_no : (m : A) (l : List A) → p m ≡ false → others p (m ∷ l) ≡ m ∷ others p l
  unfolding others
  others_no m l e = rw e refl

  pub chosen-length : (l : List A) → length (chosen p l) ≤ length l
  unfolding chosen
  chosen-length [] = omega arith
  chosen-length (m ∷ l) = ⊎_elim (λ e. rw e (omega (arith, chosen-length l))) (λ e. rw e (omega (arith, chosen-length l))) (either (p m))

  pub others-length : (l : List A) → length (others p l) ≤ length l
  unfolding others
  others-length [] = omega arith
  others-length (m ∷ l) = ⊎_elim (λ e. rw e (omega (arith, others-length l))) (λ e. rw e (omega (arith, others-length l))) (either (p m))

module _ (K : Kind) where
  -- a flush leaves none
  pub others_all : (t : Float) (l : List K.Open) → others (ready K flush t) l ≡ []
  unfolding others ready
  others_all t [] = refl
  others_all t (m ∷ l) = others_all t l

  -- ---- a frame joins

  pub join_at : (f : Frame) (m : K.Open) (l : List K.Open) → same (K.key m) (key_of f) ≡ true → join K f (m ∷ l) ≡ K.joined m f ∷ l
  unfolding join
  join_at f m l e = rw e refl

  pub join_past : (f : Frame) (m : K.Open) (l : List K.Open) → same (K.key m) (key_of f) ≡ false → join K f (m ∷ l) ≡ m ∷ join K f l
  unfolding join
  join_past f m l e = rw e refl

  join-length : (f : Frame) (l : List K.Open) → length (join K f l) ≤ suc (length l)
  unfolding join
  join-length f [] = omega arith
  join-length f (m ∷ l) = ⊎_elim (λ e. rw e (omega arith)) (λ e. rw e (omega (arith, join-length f l))) (either (same (K.key m) (key_of f)))

  pub waiting_one : (f : Frame) (c : Bool) (l : List K.Open) → length (cond c (join K f l) l) ≤ suc (length l)
  waiting_one f true l = join-length f l
  waiting_one f false l = omega arith

  -- ---- what a list says of its first

  fit-cons : (m : K.Open) (l : List K.Open) → entry_fits (K.entry m) ≡ true → all_fit K l ≡ true → all_fit K (m ∷ l) ≡ true
  unfolding all_fit
  fit-cons m l p q = rw p q

  fit-head : (m : K.Open) (l : List K.Open) → all_fit K (m ∷ l) ≡ true → (entry_fits (K.entry m) ≡ true) × (all_fit K l ≡ true)
  unfolding all_fit
  fit-head m l e = and_true (entry_fits (K.entry m)) (all_fit K l) e

  waits-cons : (k : Key) (m : K.Open) (l : List K.Open) → same (K.key m) k ≡ false → waits K k l ≡ false → waits K k (m ∷ l) ≡ false
  unfolding waits
  waits-cons k m l p q = rw p q

  waits-head : (k : Key) (m : K.Open) (l : List K.Open) → waits K k (m ∷ l) ≡ false → (same (K.key m) k ≡ false) × (waits K k l ≡ false)
  unfolding waits
  waits-head k m l e = or_false (same (K.key m) k) (waits K k l) e

  unlike-cons : (m : K.Open) (l : List K.Open) → waits K (K.key m) l ≡ false → unlike K l ≡ true → unlike K (m ∷ l) ≡ true
  unfolding unlike
  unlike-cons m l p q = rw p q

  unlike-head : (m : K.Open) (l : List K.Open) → unlike K (m ∷ l) ≡ true → (waits K (K.key m) l ≡ false) × (unlike K l ≡ true)
  unfolding unlike
  unlike-head m l e =
      let o = and_true (not (waits K (K.key m) l)) (unlike K l) e in
      (not-true (waits K (K.key m) l) o.0, o.1)

  -- ---- ranks

  join-fit : Lawful K → (f : Frame) (l : List K.Open) → FrameFits f → all_fit K l ≡ true → all_fit K (join K f l) ≡ true
  unfolding join
  join-fit laws f [] h w = fit-cons (K.opened f) [] (opened-fits K laws f h) w
  join-fit laws f (m ∷ l) h w =
      let q = fit-head m l w in
      ⊎_elim
      (λ e. rw (join_at f m l e) (fit-cons (K.joined m f) l (joined-fits K laws m f h q.0) q.1))
      (λ e. rw (join_past f m l e) (fit-cons m (join K f l) q.0 (join-fit laws f l h q.1)))
      (either (same (K.key m) (key_of f)))

  others-fit : (p : K.Open → Bool) (l : List K.Open) → all_fit K l ≡ true → all_fit K (others p l) ≡ true
  unfolding others
  others-fit p [] w = w
  others-fit p (m ∷ l) w =
      let q = fit-head m l w in
      ⊎_elim
      (λ e. rw (others_yes p m l e) (others-fit p l q.1))
      (λ e. rw (others_no p m l e) (fit-cons m (others p l) q.0 (others-fit p l q.1)))
      (either (p m))

  -- ---- no two alike

  -- one more frame with another key
  waits-join : Lawful K → (k : Key) (f : Frame) (l : List K.Open) → same (key_of f) k ≡ false → waits K k l ≡ false → waits K k (join K f l) ≡ false
  unfolding join
  waits-join laws k f [] h e = waits-cons k (K.opened f) [] (rw (laws.opened-key f) h) e
  waits-join laws k f (m ∷ l) h e =
      let o = waits-head k m l e in
      ⊎_elim
      (λ g. rw (join_at f m l g) (waits-cons k (K.joined m f) l (rw (laws.joined_key m f) o.0) o.1))
      (λ g. rw (join_past f m l g) (waits-cons k m (join K f l) o.0 (waits-join laws k f l h o.1)))
      (either (same (K.key m) (key_of f)))

  unlike-join : Lawful K → (f : Frame) (l : List K.Open) → unlike K l ≡ true → unlike K (join K f l) ≡ true
  unfolding join waits
  unlike-join laws f [] e = unlike-cons (K.opened f) [] refl e
  unlike-join laws f (m ∷ l) e =
      let o = unlike-head m l e in
      ⊎_elim
      (λ g. rw (join_at f m l g) (unlike-cons (K.joined m f) l (rw (laws.joined_key m f) o.0) o.1))
      (λ g. rw (join_past f m l g) (unlike-cons m (join K f l) (waits-join laws (K.key m) f l (differ (K.key m) (key_of f) g) o.0) (unlike-join laws f l o.1)))
      (either (same (K.key m) (key_of f)))

  waits-others : (p : K.Open → Bool) (k : Key) (l : List K.Open) → waits K k l ≡ false → waits K k (others p l) ≡ false
  unfolding others
  waits-others p k [] e = e
  waits-others p k (m ∷ l) e =
      let o = waits-head k m l e in
      ⊎_elim
      (λ g. rw (others_yes p m l g) (waits-others p k l o.1))
      (λ g. rw (others_no p m l g) (waits-cons k m (others p l) o.0 (waits-others p k l o.1)))
      (either (p m))

  unlike-others : (p : K.Open → Bool) (l : List K.Open) → unlike K l ≡ true → unlike K (others p l) ≡ true
  unfolding others
  unlike-others p [] e = e
  unlike-others p (m ∷ l) e =
      let o = unlike-head m l e in
      ⊎_elim
      (λ g. rw (others_yes p m l g) (unlike-others p l o.1))
      (λ g. rw (others_no p m l g) (unlike-cons m (others p l) (waits-others p (K.key m) l o.0) (unlike-others p l o.1)))
      (either (p m))

  -- ---- both

  abbrev pub Tidy : List K.Open → Type 0
  Tidy l = (all_fit K l ≡ true) × (unlike K l ≡ true)

  pub join-tidy : Lawful K → (f : Frame) (l : List K.Open) → FrameFits f → Tidy l → Tidy (join K f l)
  join-tidy laws f l h w = (join-fit laws f l h w.0, unlike-join laws f l w.1)

  pub others-tidy : (p : K.Open → Bool) (l : List K.Open) → Tidy l → Tidy (others p l)
  others-tidy p l w = (others-fit p l w.0, unlike-others p l w.1)
