-- The starts of the frames among records.
use mathlib.Core.Path.{◌≡◌, refl, sym, ap, ◌∙◌}
use mathlib.Core.Logic.{◌⊎◌, inl, inr, ⊎_elim}
use mathlib.Core.List.{List, [], ◌∷◌, ◌++◌, map, append_assoc, append-nil}
use mathlib.Core.Bool.{true}
use Prim.Native.Nat.{ℕ, ◌+◌, ◌*◌, ◌≤◌}
use native.Mathlib.Omega.{arith}
use lib.Dec.{leb}
use borrow.Author.Tests.{leb-true, leb-false}
use Rattle.ledger.specs.Frames.{Frame, start_of}
use Rattle.ledger.specs.Ledger.{Message, dist, spaced}
use Rattle.ledger.specs.Demand3.{SeenFrame, Seen, frame, message}
use Rattle.ledger.specs.History.{see_frame}
use Rattle.ledger.proofs.Basics.{either}
use Rattle.ledger.proofs.Spacing.{near_none, spaced_at}
use Rattle.ledger.proofs.Notes.{heard_seen, notes}

unfoldable pub starts_in : List Seen → List ℕ
starts_in [] = []
starts_in (frame x ∷ rs) = x.start ∷ starts_in rs
starts_in (message m ∷ rs) = starts_in rs

pub starts-join : (a b : List Seen) → starts_in (a ++ b) ≡ starts_in a ++ starts_in b
unfolding starts_in
starts-join [] b = refl
starts-join (frame x ∷ a) b = ap (λ (t : List ℕ). x.start ∷ t) (starts-join a b)
starts-join (message m ∷ a) b = starts-join a b

starts-heard : (fs : List Frame) → starts_in (heard_seen fs) ≡ map start_of fs
unfolding starts_in see_frame
starts-heard [] = refl
starts-heard (f ∷ fs) = ap (λ (t : List ℕ). start_of f ∷ t) (starts-heard fs)

starts-notes : (ms : List Message) → starts_in (notes ms) ≡ []
unfolding starts_in
starts-notes [] = refl
starts-notes (m ∷ ms) = starts-notes ms

-- the starts of a call's records
pub starts-call : (rs : List Seen) (fs : List Frame) (ms : List Message) → starts_in (rs ++ (heard_seen fs ++ notes ms)) ≡ starts_in rs ++ map start_of fs
starts-call rs fs ms =
    starts-join rs (heard_seen fs ++ notes ms)
    ∙ ap (λ (t : List ℕ). starts_in rs ++ t)
    (starts-join (heard_seen fs) (notes ms) ∙ rw (starts-heard fs, starts-notes ms) (append-nil (map start_of fs)))

-- two frames among spaced records
pub spaced-apart : (rate : ℕ) (a b c : List Seen) (x y : SeenFrame) → spaced rate [] (starts_in (a ++ frame x ∷ (b ++ frame y ∷ c))) ≡ true
    → (10 * x.start + 3 * rate ≤ 10 * y.start) ⊎ (10 * y.start + 3 * rate ≤ 10 * x.start)
unfolding starts_in
spaced-apart rate a b c x y e =
    let p = starts_in a in
    let q = starts_in b in
    let s : starts_in (a ++ frame x ∷ (b ++ frame y ∷ c)) ≡ (p ++ x.start ∷ q) ++ y.start ∷ starts_in c =
    starts-join a (frame x ∷ (b ++ frame y ∷ c))
    ∙ ap (λ (t : List ℕ). p ++ x.start ∷ t) (starts-join b (frame y ∷ c))
    ∙ sym (append_assoc p (x.start ∷ q) (y.start ∷ starts_in c)) in
    two x.start y.start (near_none rate p q x.start y.start (spaced_at rate [] (p ++ x.start ∷ q) (starts_in c) y.start (rw s at e)))
  where
    two : (i j : ℕ) → 3 * rate ≤ 10 * dist i j → (10 * i + 3 * rate ≤ 10 * j) ⊎ (10 * j + 3 * rate ≤ 10 * i)
    two i j h =
        ⊎_elim
        (λ g. let w = leb-true i j g in inl (omega arith))
        (λ g. let w = leb-false i j g in inr (omega arith))
        (either (leb i j))
