-- The ledger's test of what is to be written says what the demand says.
use mathlib.Core.Path.{◌≡◌, refl, sym, ap, ◌∙◌}
use mathlib.Core.Logic.{◌⊎◌, inl, inr}
use mathlib.Core.List.{List, [], ◌∷◌, ◌++◌, map}
use mathlib.Core.Bool.{Bool, true, false, ◌&&◌, ◌||◌, or-true}
use Prim.Native.Nat.{ℕ}
use native.Mathlib.Omega.{arith}
use lib.Ieee.{Float, binary64, lt, sub}
use Rattle.ledger.specs.Frames.{Frame, time_of}
use Rattle.ledger.specs.Merge.{quiet_s}
use Rattle.ledger.specs.Ledger.{Message, frames, ranked, latest, complete, by_frames, Call, push, flush, ready}
use Rattle.ledger.specs.Demand3.{SeenFrame, Has, Last, ten_s}
use Rattle.ledger.specs.History.{see_frame}
use Rattle.ledger.proofs.Basics.{nothing_of}
use Rattle.ledger.proofs.Notes.{seen_frames, message_has, has_message}

-- ---- the frame that joined last

last_is : (f : Frame) (l : List Frame) → Last (see_frame (latest f l)) (see_frame f ∷ map see_frame l)
unfolding latest
last_is f [] = ([], refl)
last_is f (g ∷ l) = let i = last_is g l in (see_frame f ∷ i.0, ap (λ (t : List SeenFrame). see_frame f ∷ t) i.1)

not_nil : {X : Type 0} (b : List SeenFrame) (y : SeenFrame) → ◌≡◌ {A = List SeenFrame} (b ++ (y ∷ [])) [] → X
not_nil [] y e = nothing_of y [] e
not_nil (z ∷ b) y e = nothing_of z (b ++ (y ∷ [])) e

last_same : (a b : List SeenFrame) (x y : SeenFrame) → a ++ (x ∷ []) ≡ b ++ (y ∷ []) → x ≡ y
last_same [] [] x y e = cc
last_same [] (z ∷ b) x y e = let q : b ++ (y ∷ []) ≡ [] = cc in not_nil b y q
last_same (z ∷ a) [] x y e = let q : a ++ (x ∷ []) ≡ [] = cc in not_nil a x q
last_same (z ∷ a) (w ∷ b) x y e = let q : a ++ (x ∷ []) ≡ b ++ (y ∷ []) = cc in last_same a b x y q

-- ---- `Due`, for a call and a time

abbrev pub DueAt : Call → Float → List SeenFrame → Type 0
DueAt c t fs = (c ≡ flush) ⊎ ((Has 0 fs × Has 1 fs × Has 2 fs) ⊎ ((x : SeenFrame) × Last x fs × (lt ten_s (sub binary64 t x.time) ≡ true)))

pub ready-due : (c : Call) (t : Float) (m : Message) → ready by_frames c t m ≡ true → DueAt c t (seen_frames m)
unfolding ready complete see_frame
ready-due flush t m e = inl refl
ready-due (push xs) t m e = inr (either_way (ranked 0 (frames m)) (ranked 1 (frames m)) (ranked 2 (frames m)) refl refl refl e)
  where
    either_way : (a b c : Bool) → ranked 0 (frames m) ≡ a → ranked 1 (frames m) ≡ b → ranked 2 (frames m) ≡ c
        → (a && (b && c)) || lt quiet_s (sub binary64 t (time_of (latest m.first m.more))) ≡ true
        → (Has 0 (seen_frames m) × Has 1 (seen_frames m) × Has 2 (seen_frames m))
        ⊎ ((x : SeenFrame) × Last x (seen_frames m) × (lt ten_s (sub binary64 t x.time) ≡ true))
    either_way true true true p q r e = inl (message_has 0 m p, message_has 1 m q, message_has 2 m r)
    either_way true true false p q r e = inr (see_frame (latest m.first m.more), last_is m.first m.more, e)
    either_way true false c p q r e = inr (see_frame (latest m.first m.more), last_is m.first m.more, e)
    either_way false b c p q r e = inr (see_frame (latest m.first m.more), last_is m.first m.more, e)

pub due-ready : (c : Call) (t : Float) (m : Message) → DueAt c t (seen_frames m) → ready by_frames c t m ≡ true
unfolding ready complete see_frame
due-ready flush t m h = refl
due-ready (push xs) t m (inl e) = let z : ◌≡◌ {A = ℕ} 0 1 = cc in absurd (omega arith)
due-ready (push xs) t m (inr (inl h)) = rw (has_message 0 m h.0, has_message 1 m h.1, has_message 2 m h.2) refl
due-ready (push xs) t m (inr (inr h)) =
    let i = last_is m.first m.more in
    let q : h.0 ≡ see_frame (latest m.first m.more) = last_same h.1.0 i.0 h.0 (see_frame (latest m.first m.more)) (sym h.1.1 ∙ i.1) in
    let e : lt quiet_s (sub binary64 t (time_of (latest m.first m.more))) ≡ true = sym (ap (λ (x : SeenFrame). lt quiet_s (sub binary64 t x.time)) q) ∙ h.2 in
    rw e (or-true (ranked 0 (frames m) && (ranked 1 (frames m) && ranked 2 (frames m))))
