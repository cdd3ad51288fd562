-- Laws of the open messages: the frames that wait under a key.
use mathlib.Core.Path.{◌≡◌, refl, sym, ap, ◌∙◌}
use mathlib.Core.Logic.{⊎_elim}
use mathlib.Core.List.{List, [], ◌∷◌, ◌++◌, map}
use mathlib.Core.Bool.{Bool, true, false, ◌||◌, cond, or-true}
use Rattle.ledger.specs.Frames.{Key, same, Frame, key_of}
use Rattle.ledger.specs.Ledger.{Message, message_key, by_frames, join, chosen, others}
use Rattle.ledger.specs.Demand3.{SeenFrame, written}
use Rattle.ledger.specs.History.{see_frame}
use Rattle.ledger.proofs.Basics.{either, clash, or_false, same_true, same_refl, differ, nothing_of, map-join}
use Rattle.ledger.proofs.Opens.{chosen_yes, chosen_no, others_yes, others_no, join_at, join_past}
use Rattle.ledger.proofs.Notes.{seen_frames, note-key, notes}

-- the frames of the open message with the key k
unfoldable pub view : Key → List Message → List SeenFrame
view k [] = []
view k (m ∷ l) = cond (same (message_key m) k) (seen_frames m) (view k l)

-- no two open messages are alike in device and counter
abbrev pub Distinct : List Message → Type 0
Distinct [] = Unit
Distinct (m ∷ l) = (view (message_key m) l ≡ []) × Distinct l

pub view_at : (k : Key) (m : Message) (l : List Message) → same (message_key m) k ≡ true → view k (m ∷ l) ≡ seen_frames m
unfolding view
view_at k m l e = rw e refl

pub view_past : (k : Key) (m : Message) (l : List Message) → same (message_key m) k ≡ false → view k (m ∷ l) ≡ view k l
unfolding view
view_past k m l e = rw e refl

-- ---- a frame joins

pub view-joined : (f : Frame) (l : List Message) → view (key_of f) (join by_frames f l) ≡ view (key_of f) l ++ (see_frame f ∷ [])
unfolding join view
view-joined f [] = rw (same_refl (key_of f)) refl
view-joined f (m ∷ l) =
    ⊎_elim
    (λ e. rw (join_at by_frames f m l e, view_at (key_of f) (record { first = m.first; more = m.more ++ (f ∷ []) }) l e, view_at (key_of f) m l e)
    (ap (λ (t : List SeenFrame). see_frame m.first ∷ t) (map-join see_frame m.more (f ∷ []))))
    (λ e. rw (join_past by_frames f m l e, view_past (key_of f) m (join by_frames f l) e, view_past (key_of f) m l e) (view-joined f l))
    (either (same (message_key m) (key_of f)))

pub view_other : (k : Key) (f : Frame) (l : List Message) → same (key_of f) k ≡ false → view k (join by_frames f l) ≡ view k l
unfolding join view
view_other k f [] h = rw h refl
view_other k f (m ∷ l) h =
    ⊎_elim
    (λ e. let g : same (message_key m) k ≡ false = rw (same_true (message_key m) (key_of f) e) h in
    rw (join_at by_frames f m l e, view_past k (record { first = m.first; more = m.more ++ (f ∷ []) }) l g, view_past k m l g) refl)
    (λ e. rw (join_past by_frames f m l e, view_other k f l h) refl)
    (either (same (message_key m) (key_of f)))

pub distinct-join : (f : Frame) (l : List Message) → Distinct l → Distinct (join by_frames f l)
unfolding join view
distinct-join f [] h = (refl, tt)
distinct-join f (m ∷ l) h =
    ⊎_elim
    (λ e. rw (join_at by_frames f m l e) h)
    (λ e. rw (join_past by_frames f m l e) (view_other (message_key m) f l (differ (message_key m) (key_of f) e) ∙ h.0, distinct-join f l h.1))
    (either (same (message_key m) (key_of f)))

-- ---- messages are written

pub written-note : (k : Key) (m : Message) (l : List Message) → written k (notes (m ∷ l)) ≡ same (message_key m) k || written k (notes l)
unfolding written
written-note k m l = rw (note-key m) refl

module _ (p : Message → Bool) where
  -- what a list without k has none of
  pub without : (k : Key) (m : Message) (l : List Message) → view k (m ∷ l) ≡ [] → (same (message_key m) k ≡ false) × (view k l ≡ [])
  without k m l h =
      ⊎_elim
      (λ e. nothing_of (see_frame m.first) (map see_frame m.more) (sym (view_at k m l e) ∙ h))
      (λ e. (e, sym (view_past k m l e) ∙ h))
      (either (same (message_key m) k))

  pub others-without : (k : Key) (l : List Message) → view k l ≡ [] → view k (others p l) ≡ []
  unfolding others view
  others-without k [] h = refl
  others-without k (m ∷ l) h =
      let w = without k m l h in
      ⊎_elim
      (λ e. rw (others_yes p m l e) (others-without k l w.1))
      (λ e. rw (others_no p m l e, view_past k m (others p l) w.0) (others-without k l w.1))
      (either (p m))

  pub chosen-without : (k : Key) (l : List Message) → view k l ≡ [] → written k (notes (chosen p l)) ≡ false
  unfolding chosen written
  chosen-without k [] h = refl
  chosen-without k (m ∷ l) h =
      let w = without k m l h in
      ⊎_elim
      (λ e. rw (chosen_yes p m l e, written-note k m (chosen p l), w.0) (chosen-without k l w.1))
      (λ e. rw (chosen_no p m l e) (chosen-without k l w.1))
      (either (p m))

  pub distinct-others : (l : List Message) → Distinct l → Distinct (others p l)
  unfolding others
  distinct-others [] h = tt
  distinct-others (m ∷ l) h =
      ⊎_elim
      (λ e. rw (others_yes p m l e) (distinct-others l h.1))
      (λ e. rw (others_no p m l e) (others-without (message_key m) l h.0, distinct-others l h.1))
      (either (p m))

  -- what waits under k afterwards: nothing where its message was written, and else what waited
  pub view-spent : (k : Key) (l : List Message) → Distinct l → written k (notes (chosen p l)) ≡ true → view k (others p l) ≡ []
  unfolding chosen others written
  view-spent k [] h w = clash false w refl
  view-spent k (m ∷ l) h w =
      ⊎_elim
      (λ e. rw (others_yes p m l e) (⊎_elim
      (λ f. others-without k l (rw (same_true (message_key m) k f) at h.0))
      (λ f. let v : same (message_key m) k || written k (notes (chosen p l)) ≡ true = rw (chosen_yes p m l e, written-note k m (chosen p l)) at w in view-spent k l h.1 (rw f at v))
      (either (same (message_key m) k))))
      (λ e. let v : written k (notes (chosen p l)) ≡ true = rw (chosen_no p m l e) at w in
      rw (others_no p m l e) (⊎_elim
      (λ f. clash (written k (notes (chosen p l))) v (chosen-without k l (rw (same_true (message_key m) k f) at h.0)))
      (λ f. view_past k m (others p l) f ∙ view-spent k l h.1 v)
      (either (same (message_key m) k))))
      (either (p m))

  pub view_kept : (k : Key) (l : List Message) → written k (notes (chosen p l)) ≡ false → view k (others p l) ≡ view k l
  unfolding chosen others written
  view_kept k [] w = refl
  view_kept k (m ∷ l) w =
      ⊎_elim
      (λ e. let o = or_false (same (message_key m) k) (written k (notes (chosen p l))) (rw (chosen_yes p m l e, written-note k m (chosen p l)) at w) in
      rw (others_yes p m l e, view_past k m l o.0) (view_kept k l o.1))
      (λ e. let v : written k (notes (chosen p l)) ≡ false = rw (chosen_no p m l e) at w in
      rw (others_no p m l e) (⊎_elim
      (λ f. view_at k m (others p l) f ∙ sym (view_at k m l f))
      (λ f. view_past k m (others p l) f ∙ view_kept k l v ∙ sym (view_past k m l f))
      (either (same (message_key m) k))))
      (either (p m))

  -- a message that is written: it is what waited under its key, none with its key goes before it, and it was due
  pub chosen_at : (l ms ns : List Message) (m : Message) → Distinct l → chosen p l ≡ ms ++ m ∷ ns
      → (written (message_key m) (notes ms) ≡ false) × (view (message_key m) l ≡ seen_frames m) × (p m ≡ true)
  unfolding chosen written
  chosen_at [] [] ns m h e = nothing_of m ns (sym e)
  chosen_at [] (q ∷ ms) ns m h e = nothing_of q (ms ++ m ∷ ns) (sym e)
  chosen_at (n ∷ l) ms ns m h e =
      ⊎_elim
      (λ f. taken (λ ms b. chosen_at l ms ns m h.1 b) ms (sym (chosen_yes p n l f) ∙ e) f)
      (λ f. let i = chosen_at l ms ns m h.1 (sym (chosen_no p n l f) ∙ e) in (i.0, view_past (message_key m) n l (apart i.1) ∙ i.1, i.2))
      (either (p n))
    where
      apart : view (message_key m) l ≡ seen_frames m → same (message_key n) (message_key m) ≡ false
      apart v =
          ⊎_elim
          (λ f. nothing_of (see_frame m.first) (map see_frame m.more) (sym v ∙ (rw (same_true (message_key n) (message_key m) f) at h.0)))
          (λ f. f)
          (either (same (message_key n) (message_key m)))

      taken : ((ms : List Message) → chosen p l ≡ ms ++ m ∷ ns → (written (message_key m) (notes ms) ≡ false) × (view (message_key m) l ≡ seen_frames m) × (p m ≡ true))
          → (ms : List Message) → n ∷ chosen p l ≡ ms ++ m ∷ ns → p n ≡ true
          → (written (message_key m) (notes ms) ≡ false) × (view (message_key m) (n ∷ l) ≡ seen_frames m) × (p m ≡ true)
      taken go [] e f =
          let q : n ≡ m = cc in
          (refl, view_at (message_key m) n l (rw q (same_refl (message_key m))) ∙ ap seen_frames q, rw q at f)
      taken go (q ∷ ms) e f =
          let a : n ≡ q = cc in
          let b : chosen p l ≡ ms ++ m ∷ ns = cc in
          let i = go ms b in
          let s = apart i.1 in
          (rw (written-note (message_key m) q ms, rw a at s) i.0, view_past (message_key m) n l s ∙ i.1, i.2)

  -- and conversely: what waits under k is written where it is due
  pub chosen_has : (k : Key) (l : List Message) → (view k l ≡ [] → ⊥) → ((m : Message) → view k l ≡ seen_frames m → p m ≡ true)
      → written k (notes (chosen p l)) ≡ true
  unfolding view
  chosen_has k [] h r = absurd (h refl)
  chosen_has k (m ∷ l) h r =
      ⊎_elim
      (λ f. rw (chosen_yes p m l (r m (view_at k m l f)), written-note k m (chosen p l), f) refl)
      (λ f. let i = chosen_has k l (λ e. h (view_past k m l f ∙ e)) (λ n v. r n (view_past k m l f ∙ v)) in
      ⊎_elim
      (λ g. rw (chosen_yes p m l g, written-note k m (chosen p l), i) (or-true (same (message_key m) k)))
      (λ g. rw (chosen_no p m l g) i)
      (either (p m)))
      (either (same (message_key m) k))
