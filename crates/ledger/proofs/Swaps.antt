-- Two open messages that stand in either order, and what joining and closing make of them.
use mathlib.Core.Path.{◌≡◌, refl, ap}
use mathlib.Core.Logic.{⊎_elim}
use mathlib.Core.List.Perm
use mathlib.Core.List.{List, [], ◌∷◌, ◌++◌, Perm}
use mathlib.Core.Bool.{Bool, true, false, not}
use Rattle.ledger.specs.Frames.{Key, same, Frame, key_of}
use Rattle.ledger.specs.Ledger.{Kind, join, chosen, others}
use Rattle.ledger.specs.EitherOrder.{joins}
use Rattle.ledger.proofs.Basics.{either, same_true, differ}
use Rattle.ledger.proofs.OpenKinds.{Lawful}
use Rattle.ledger.proofs.Opens.{chosen_yes, chosen_no, join_at, join_past}

-- equal, or two neighbours of different keys stand the other way round
pub data Swapped (K : Kind) : List K.Open → List K.Open → Type 0 where
  equal : {l : List K.Open} → Swapped K l l
  here : {p q : K.Open} {l : List K.Open} → same (K.key p) (K.key q) ≡ false → Swapped K (p ∷ q ∷ l) (q ∷ p ∷ l)
  there : {m : K.Open} {u v : List K.Open} → Swapped K u v → Swapped K (m ∷ u) (m ∷ v)

-- a key that is k is none that differs from k
other_key : (k a b : Key) → same a b ≡ false → same k a ≡ true → same k b ≡ false
other_key k a b h e = rw (same_true k a e) h

module _ (K : Kind) (laws : Lawful K) where
  pub join-either : (a b : Frame) (w : List K.Open) → same (key_of a) (key_of b) ≡ false → Swapped K (join K b (join K a w)) (join K a (join K b w))
  unfolding join
  join-either a b [] h =
      let p : same (K.key (K.opened a)) (key_of b) ≡ false = rw (laws.opened-key a) h in
      let q : same (K.key (K.opened b)) (key_of a) ≡ false = rw (laws.opened-key b) (differ (key_of a) (key_of b) h) in
      let k : same (K.key (K.opened a)) (K.key (K.opened b)) ≡ false = rw (laws.opened-key b) p in
      rw (join_past K b (K.opened a) [] p, join_past K a (K.opened b) [] q) (here k)
  join-either a b (m ∷ l) h =
      ⊎_elim
      (λ e. let f = other_key (K.key m) (key_of a) (key_of b) h e in
      let g : same (K.key (K.joined m a)) (key_of b) ≡ false = rw (laws.joined_key m a) f in
      rw (join_at K a m l e, join_past K b m l f, join_past K b (K.joined m a) l g, join_at K a m (join K b l) e) equal)
      (λ e. ⊎_elim
      (λ f. let g : same (K.key (K.joined m b)) (key_of a) ≡ false = rw (laws.joined_key m b) e in
      rw (join_past K a m l e, join_at K b m l f, join_at K b m (join K a l) f, join_past K a (K.joined m b) l g) equal)
      (λ f. rw (join_past K a m l e, join_past K b m l f, join_past K b m (join K a l) f, join_past K a m (join K b l) e) (there (join-either a b l h)))
      (either (same (K.key m) (key_of b))))
      (either (same (K.key m) (key_of a)))

  pub join-swapped : (f : Frame) {u v : List K.Open} → Swapped K u v → Swapped K (join K f u) (join K f v)
  join-swapped f equal = equal
  join-swapped f (here {p} {q} {l} h) =
      ⊎_elim
      (λ e. let g : same (K.key q) (key_of f) ≡ false = rw (← same_true (K.key p) (key_of f) e) (differ (K.key p) (K.key q) h) in
      let k : same (K.key (K.joined p f)) (K.key q) ≡ false = rw (laws.joined_key p f) h in
      rw (join_at K f p (q ∷ l) e, join_past K f q (p ∷ l) g, join_at K f p l e) (here k))
      (λ e. ⊎_elim
      (λ g. let k : same (K.key p) (K.key (K.joined q f)) ≡ false = rw (laws.joined_key q f) h in
      rw (join_past K f p (q ∷ l) e, join_at K f q l g, join_at K f q (p ∷ l) g) (here k))
      (λ g. rw (join_past K f p (q ∷ l) e, join_past K f q l g, join_past K f q (p ∷ l) g, join_past K f p l e) (here h))
      (either (same (K.key q) (key_of f))))
      (either (same (K.key p) (key_of f)))
  join-swapped f (there {m} {u} {v} s) =
      ⊎_elim
      (λ e. rw (join_at K f m u e, join_at K f m v e) (there s))
      (λ e. rw (join_past K f m u e, join_past K f m v e) (there (join-swapped f s)))
      (either (same (K.key m) (key_of f)))

  pub joins-swapped : (fs : List Frame) {u v : List K.Open} → Swapped K u v → Swapped K (joins K fs u) (joins K fs v)
  unfolding joins
  joins-swapped [] s = s
  joins-swapped (f ∷ fs) s = joins-swapped fs (join-swapped f s)

  -- frames that join, two of them in either order
  pub joins-either : (before behind : List Frame) (a b : Frame) (w : List K.Open) → same (key_of a) (key_of b) ≡ false
      → Swapped K (joins K (before ++ a ∷ b ∷ behind) w) (joins K (before ++ b ∷ a ∷ behind) w)
  unfolding joins
  joins-either [] behind a b w h = joins-swapped behind (join-either a b w h)
  joins-either (f ∷ before) behind a b w h = joins-either before behind a b (join K f w) h

module _ {K : Kind} (p : K.Open → Bool) where
  pub chosen-swapped : {u v : List K.Open} → Swapped K u v → Perm (chosen p u) (chosen p v)
  chosen-swapped (equal {l}) = Perm.refl (chosen p l)
  chosen-swapped (here {p = x} {q = y} {l = l} h) =
      ⊎_elim
      (λ e. ⊎_elim
      (λ f. rw (chosen_yes p x (y ∷ l) e, chosen_yes p y l f, chosen_yes p y (x ∷ l) f, chosen_yes p x l e) (Perm.swap y x (chosen p l)))
      (λ f. rw (chosen_yes p x (y ∷ l) e, chosen_no p y l f, chosen_no p y (x ∷ l) f, chosen_yes p x l e) (Perm.refl (x ∷ chosen p l)))
      (either (p y)))
      (λ e. ⊎_elim
      (λ f. rw (chosen_no p x (y ∷ l) e, chosen_yes p y l f, chosen_yes p y (x ∷ l) f, chosen_no p x l e) (Perm.refl (y ∷ chosen p l)))
      (λ f. rw (chosen_no p x (y ∷ l) e, chosen_no p y l f, chosen_no p y (x ∷ l) f, chosen_no p x l e) (Perm.refl (chosen p l)))
      (either (p y)))
      (either (p x))
  chosen-swapped (there {m} {u} {v} s) =
      ⊎_elim
      (λ e. rw (chosen_yes p m u e, chosen_yes p m v e) (Perm.cons m (chosen-swapped s)))
      (λ e. rw (chosen_no p m u e, chosen_no p m v e) (chosen-swapped s))
      (either (p m))

-- what is not chosen is chosen by the other answer
others-chosen : {A : Type 0} (p : A → Bool) (l : List A) → others p l ≡ chosen (λ m. not (p m)) l
unfolding others chosen
others-chosen p [] = refl
others-chosen {A} p (m ∷ l) = ⊎_elim (λ e. rw e (others-chosen p l)) (λ e. rw e (ap (λ (t : List A). m ∷ t) (others-chosen p l))) (either (p m))

pub others-swapped : {K : Kind} (p : K.Open → Bool) {u v : List K.Open} → Swapped K u v → Perm (others p u) (others p v)
others-swapped p {u} {v} s = rw (others-chosen p u, others-chosen p v) (chosen-swapped (λ m. not (p m)) s)
