-- Laws of the records: who is written, and whose frames are whose.
use mathlib.Core.Path.{◌≡◌, refl, sym, ap, ◌∙◌}
use mathlib.Core.Logic.{⊎_elim}
use mathlib.Core.List.{List, [], ◌∷◌, ◌++◌}
use mathlib.Core.Bool.{Bool, true, false, not, ◌&&◌, ◌||◌, cond, or-true, or_assoc, and-false}
use borrow.Author.Tests.{not-true}
use Rattle.ledger.specs.Frames.{Key, same}
use Rattle.ledger.specs.Demand3.{SeenFrame, SeenMessage, Seen, frame, message, written, Belongs, mine}
use Rattle.ledger.proofs.Basics.{either, clash, and_true, same_true, same_refl, nothing_of}

pub written-join : (k : Key) (a b : List Seen) → written k (a ++ b) ≡ written k a || written k b
unfolding written
written-join k [] b = refl
written-join k (frame f ∷ a) b = written-join k a b
written-join k (message m ∷ a) b = rw (written-join k a b) (sym (or_assoc (same m.key k) (written k a) (written k b)))

-- what comes behind does not write k: the frames before it stay the next message's
pub mine-join : (k : Key) (a b : List Seen) → written k b ≡ false → mine k (a ++ b) ≡ mine k a ++ mine k b
unfolding mine
mine-join k [] b e = refl
mine-join k (message m ∷ a) b e = mine-join k a b e
mine-join k (frame f ∷ a) b e =
    let w : written k (a ++ b) ≡ written k a = written-join k a b ∙ rw e (or_right (written k a)) in
    rw (w, mine-join k a b e) (push-in (f.right && (same f.key k && not (written k a))) f (mine k a) (mine k b))
  where
    or_right : (x : Bool) → x || false ≡ x
    or_right true = refl
    or_right false = refl

    push-in : (x : Bool) (f : SeenFrame) (s t : List SeenFrame) → cond x (f ∷ (s ++ t)) (s ++ t) ≡ cond x (f ∷ s) s ++ t
    push-in true f s t = refl
    push-in false f s t = refl

-- what comes behind writes k: the frames before it are spent
pub mine-cut : (k : Key) (a b : List Seen) → written k b ≡ true → mine k (a ++ b) ≡ mine k b
unfolding mine
mine-cut k [] b e = refl
mine-cut k (message m ∷ a) b e = mine-cut k a b e
mine-cut k (frame f ∷ a) b e =
    rw (written-join k a b, e, or-true (written k a), and-false (same f.key k), and-false f.right) (mine-cut k a b e)

mine_yes : (k : Key) (rs : List Seen) (x : SeenFrame) → x.right ≡ true → same x.key k ≡ true → written k rs ≡ false → mine k (frame x ∷ rs) ≡ x ∷ mine k rs
unfolding mine
mine_yes k rs x r s w = rw (r, s, w) refl

mine_no : (k : Key) (rs : List Seen) (x : SeenFrame) → x.right && (same x.key k && not (written k rs)) ≡ false → mine k (frame x ∷ rs) ≡ mine k rs
unfolding mine
mine_no k rs x e = rw e refl

-- where nothing waits any more, a frame with a right CRC has been written
pub spent : (before behind : List Seen) (x : SeenFrame) → x.right ≡ true → mine x.key (before ++ frame x ∷ behind) ≡ [] → written x.key behind ≡ true
unfolding mine written
spent before behind x r e =
    ⊎_elim (λ f. f)
    (λ f. has (mine-join x.key before (frame x ∷ behind) f) f)
    (either (written x.key behind))
  where
    has : mine x.key (before ++ frame x ∷ behind) ≡ mine x.key before ++ mine x.key (frame x ∷ behind) → written x.key behind ≡ false
        → written x.key behind ≡ true
    has p f =
        let q : mine x.key (frame x ∷ behind) ≡ x ∷ mine x.key behind = mine_yes x.key behind x r (same_refl x.key) f in
        none (mine x.key before) (sym (rw q at p) ∙ e)
      where
        none : (l : List SeenFrame) → l ++ (x ∷ mine x.key behind) ≡ [] → written x.key behind ≡ true
        none [] h = nothing_of x (mine x.key behind) h
        none (y ∷ l) h = nothing_of y (l ++ (x ∷ mine x.key behind)) h

-- the first message with the key k
pub first_written : (k : Key) (rs : List Seen) → written k rs ≡ true
    → (between : List Seen) × (m : SeenMessage) × (rest : List Seen) × (rs ≡ between ++ message m ∷ rest) × (m.key ≡ k) × (written k between ≡ false)
unfolding written
first_written k [] e = clash false e refl
first_written k (frame f ∷ rs) e =
    let i = first_written k rs e in
    (frame f ∷ i.0, i.1, i.2, ap (λ (t : List Seen). frame f ∷ t) i.3, i.4, i.5)
first_written k (message m ∷ rs) e =
    ⊎_elim
    (λ f. ([], m, rs, refl, same_true m.key k f, refl))
    (λ f. let i = first_written k rs (rw f at e) in
    (message m ∷ i.0, i.1, i.2, ap (λ (t : List Seen). message m ∷ t) i.3, i.4, rw (f, i.5) refl))
    (either (same m.key k))

-- ---- `mine` is what belongs

pub mine_has : (a b : List Seen) (x : SeenFrame) (m : SeenMessage) → Belongs x b m → mine m.key (a ++ frame x ∷ b) ≡ mine m.key a ++ x ∷ mine m.key b
unfolding mine written
mine_has a b x m h =
    let n : written m.key b ≡ false = rw h.alike h.first in
    let q : mine m.key (frame x ∷ b) ≡ x ∷ mine m.key b = mine_yes m.key b x h.right (rw h.alike (same_refl x.key)) n in
    mine-join m.key a (frame x ∷ b) n ∙ ap (λ (t : List SeenFrame). mine m.key a ++ t) q

pub mine_lacks : (a b : List Seen) (x : SeenFrame) (m : SeenMessage) → (Belongs x b m → ⊥) → mine m.key (a ++ frame x ∷ b) ≡ mine m.key (a ++ b)
unfolding mine written
mine_lacks [] b x m h =
    ⊎_elim
    (λ e. let p = and_true x.right (same x.key m.key && not (written m.key b)) e in
    let q = and_true (same x.key m.key) (not (written m.key b)) p.1 in
    let k = same_true x.key m.key q.0 in
    absurd (h (record { right = p.0; alike = sym k; first = rw k (not-true (written m.key b) q.1) })))
    (λ e. mine_no m.key b x e)
    (either (x.right && (same x.key m.key && not (written m.key b))))
mine_lacks (message n ∷ a) b x m h = mine_lacks a b x m h
mine_lacks (frame f ∷ a) b x m h =
    let w : written m.key (a ++ frame x ∷ b) ≡ written m.key (a ++ b) = written-join m.key a (frame x ∷ b) ∙ sym (written-join m.key a b) in
    rw (w, mine_lacks a b x m h) refl
