-- frame1's direct path takes the median of the register values that count. Assumes nothing.
use Rattle.std.proofs.Common.{Option, None, Some}
use mathlib.Core.Path.{◌≡◌, refl, sym, ap, ◌∙◌, subst}
use mathlib.Core.Bool.{Bool, true, false, cond}
use mathlib.Core.List.{List, [], ◌∷◌, map}
use Prim.Native.Nat.{ℕ, ◌≤◌}
use native.Mathlib.Omega.{arith}
use borrow.Author.Tests.{leb-true, eqb-true}
use lib.Dec.{leb, eqb}
use Rattle.std.proofs.lemmas.Option.{none-some}
use lib.ListN.{length, length-map}
use lib.Ieee.{Float}
use Rattle.cfo.specs.Cfo.{round_hz}
use Rattle.frequency_lists.specs.declared.Reading.{Reading}
use Rattle.frequency_lists.specs.Lists.{last_or}
use Rattle.frequency_lists.specs.Marks.{retained}
use Rattle.frequency_measure.specs.Measured.{fewest, measured, median, inside, first_of, past_of, near, frame_of, frame_frequency, direct, of_rank}
use Rattle.frequency_measure.specs.declared.FrameFrequency.{FrameFrequency}
use Rattle.record.specs.declared.FrameSpan.{FrameSpan}
use Rattle.register_error.specs.Bound.{RawReading, reading_of, in_frame, against_last, frame1_readings, Answers}
use Rattle.register_error.proofs.Medians.{hz}

-- all against lo
abbrev pub Against : ℕ → List RawReading → Type 0
Against lo [] = Unit
Against lo (r ∷ l) = (r.lo ≡ lo) × Against lo l

-- a measured frame is the median of five register values or more, all against its receiver frequency
abbrev Taken : (Option FrameFrequency) → List RawReading → Type 0
Taken None l = Unit
Taken (Some f) l = (f.hz ≡ median (map hz l)) × (5 ≤ length l) × Against f.lo l

against_kept : (lo : ℕ) (l : List RawReading) → Against lo (retained (map (λ (r : RawReading). eqb r.lo lo) l) l)
unfolding retained
against_kept lo [] = tt
against_kept lo (x ∷ l) = go (eqb x.lo lo) (eqb-true x.lo lo) (against_kept lo l)
  where
    go : (b : Bool) → (b ≡ true → x.lo ≡ lo) → Against lo (retained (map (λ (r : RawReading). eqb r.lo lo) l) l) → Against lo (retained (b ∷ map (λ (r : RawReading). eqb r.lo lo) l) (x ∷ l))
    go true f h = (f refl, h)
    go false f h = h

-- ---- lists of readings by their register values

kept : (q : Reading → Bool) (l : List RawReading) → retained (map q (map reading_of l)) (map reading_of l) ≡ map reading_of (retained (map (λ (r : RawReading). q (reading_of r)) l) l)
unfolding retained
kept q [] = refl
kept q (x ∷ l) = go (q (reading_of x)) (kept q l)
  where
    go : (b : Bool) → retained (map q (map reading_of l)) (map reading_of l) ≡ map reading_of (retained (map (λ (r : RawReading). q (reading_of r)) l) l)
        → retained (b ∷ map q (map reading_of l)) (reading_of x ∷ map reading_of l) ≡ map reading_of (retained (b ∷ map (λ (r : RawReading). q (reading_of r)) l) (x ∷ l))
    go true e = ap (λ (z : List Reading). reading_of x ∷ z) e
    go false e = e

los : (l : List RawReading) → map (λ (y : Reading). y.lo) (map reading_of l) ≡ map (λ (r : RawReading). r.lo) l
los [] = refl
los (x ∷ l) = ap (λ (z : List ℕ). x.lo ∷ z) (los l)

hzs : (l : List RawReading) → map (λ (y : Reading). y.hz) (map reading_of l) ≡ map hz l
hzs [] = refl
hzs (x ∷ l) = ap (λ (z : List Float). hz x ∷ z) (hzs l)

-- ---- a frame

picked : (l : List Float) (m : List RawReading) (lo : ℕ) → l ≡ map hz m → Against lo m → Taken (cond (leb fewest (length l)) (Some (measured (median l) lo)) None) m
picked l m lo e h = go (leb fewest (length l)) (leb-true fewest (length l))
  where
    go : (t : Bool) → (t ≡ true → fewest ≤ length l) → Taken (cond t (Some (measured (median l) lo)) None) m
    go true f = (ap median e, subst (λ (n : ℕ). 5 ≤ n) (ap length e ∙ length-map m hz) (f refl), h)
    go false f = tt

of_taken : (l : List RawReading) → Taken (frame_of (map reading_of l)) (against_last l)
unfolding frame_of against_last
of_taken [] = tt
of_taken (x ∷ l) = picked _ _ _ same (subst (λ (n : ℕ). Against n (retained (map (λ (r : RawReading). eqb r.lo last) (x ∷ l)) (x ∷ l))) (sym (ap (last_or x.lo) (los l))) (against_kept last (x ∷ l)))
  where
    last : ℕ
    last = last_or x.lo (map (λ (r : RawReading). r.lo) l)

    at_last : ℕ → List Float
    at_last n = map (λ (y : Reading). y.hz) (retained (map (λ (y : Reading). eqb y.lo n) (map reading_of (x ∷ l))) (map reading_of (x ∷ l)))

    same : at_last (last_or x.lo (map (λ (y : Reading). y.lo) (map reading_of l))) ≡ map hz (retained (map (λ (r : RawReading). eqb r.lo last) (x ∷ l)) (x ∷ l))
    same =
        ap at_last (ap (last_or x.lo) (los l))
        ∙ ap (map (λ (y : Reading). y.hz)) (kept (λ (y : Reading). eqb y.lo last) (x ∷ l))
        ∙ hzs (retained (map (λ (r : RawReading). eqb r.lo last) (x ∷ l)) (x ∷ l))

frame-taken : (rate : ℕ) (f : FrameSpan) (l : List RawReading) → Taken (frame_frequency rate (map reading_of l) f.time f.end) (against_last (in_frame rate f l))
unfolding frame_frequency in_frame
frame-taken rate f l =
    subst (λ (z : List Reading). Taken (frame_of z) (against_last (in_frame rate f l))) (sym (kept (λ (y : Reading). inside (first_of rate f.time) (past_of rate f.end) y.at) l))
    (of_taken (in_frame rate f l))

rank-taken : (rate : ℕ) (spans : List FrameSpan) (l : List RawReading) → Taken (of_rank rate (map reading_of l) spans 0) (frame1_readings rate spans l)
unfolding of_rank frame1_readings
rank-taken rate [] l = tt
rank-taken rate (f ∷ spans) l = go (eqb f.rank 0) (frame_frequency rate (map reading_of l) f.time f.end) (of_rank rate (map reading_of l) spans 0) (frame-taken rate f l) (rank-taken rate spans l)
  where
    go : (t : Bool) (a b : (Option FrameFrequency)) → Taken a (against_last (in_frame rate f l)) → Taken b (frame1_readings rate spans l) → Taken (cond t a b) (cond t (against_last (in_frame rate f l)) (frame1_readings rate spans l))
    go true a b h k = h
    go false a b h k = k

-- ---- frame 1

-- what an answer tells of the readings that count
pub record Told (l : List RawReading) (a : ℕ) : Type 0 where
  pub lo : ℕ
  pub against : Against lo l
  pub some : 5 ≤ length l
  pub close : near (median (map hz l)) lo ≡ true
  pub is : round_hz (median (map hz l)) ≡ a

direct-taken : (m : (Option FrameFrequency)) (l : List RawReading) (a : ℕ) → Taken m l → direct m ≡ Some a → Told l a
unfolding direct
direct-taken None l a h e = absurd (none-some a e)
direct-taken (Some f) l a k e = go (near f.hz f.lo) refl e
  where
    go : (t : Bool) → near f.hz f.lo ≡ t → cond t (Some (round_hz f.hz)) None ≡ Some a → Told l a
    go true n e = record { lo = f.lo; against = k.2; some = k.1; close = ap (λ (x : Float). near x f.lo) (sym k.0) ∙ n; is = ap round_hz (sym k.0) ∙ cc }
    go false n e = absurd (none-some a e)

pub answer_is : (rate : ℕ) (l : List RawReading) (spans : List FrameSpan) (downlink : Bool) (a : ℕ) → Answers rate l spans downlink a → Told (frame1_readings rate spans l) a
answer_is rate l spans downlink a h = direct-taken (of_rank rate (map reading_of l) spans 0) (frame1_readings rate spans l) a (rank-taken rate spans l) (sym h.path ∙ h.answer)
