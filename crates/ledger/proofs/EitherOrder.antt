-- Frames of two messages join in either order: the claim of specs/EitherOrder, from any ledger.
use Rattle.std.proofs.Common.{Option, None, Some}
use mathlib.Core.Path.{◌≡◌, refl, ap, ◌∙◌}
use mathlib.Core.Logic.{⊎_elim}
use mathlib.Core.List.Perm
use mathlib.Core.List.{List, [], ◌∷◌, ◌++◌}
use mathlib.Core.Bool.{Bool, true, false, cond}
use Prim.Native.Nat.{ℕ, zero, suc, ◌+◌, ◌*◌}
use lib.ListN.{length, drop}
use lib.Dec.{leb, eqb}
use lib.Ieee.{Float}
use Rattle.ledger.specs.Types.{DecodedFrame, Burst}
use Rattle.ledger.specs.Frames.{Frame, frame_at, right_crc}
use Rattle.ledger.specs.Ledger.{Kind, by_frames, by_entry, Demod, capacity, tail, seconds, Ledger, join, Call, push, flush, ready, hear, remember, takes, take_one, take_each, forget, scan, halve, amount, add, scanned, due, fill, fills, start_call, scans, now, closed, messages, event_of}
use Rattle.ledger.specs.Records.{record_of}
use Rattle.ledger.specs.EitherOrder.{joining, joins, with_open, SameMessages, EitherOrder}
use Rattle.ledger.proofs.Basics.{either}
use Rattle.ledger.proofs.OpenKinds.{Lawful, frames_lawful, entries_lawful}
use Rattle.ledger.proofs.Swaps.{Swapped, joins-either, chosen-swapped, others-swapped}

-- ---- frames that join, one more

joining_snoc : (fs : List Frame) (f : Frame) → joining (fs ++ (f ∷ [])) ≡ joining fs ++ cond (right_crc f) (f ∷ []) []
unfolding joining
joining_snoc [] f = refl
joining_snoc (g ∷ fs) f =
    ⊎_elim
    (λ e. rw e (ap (λ (t : List Frame). g ∷ t) (joining_snoc fs f)))
    (λ e. rw e (joining_snoc fs f))
    (either (right_crc g))

joins_snoc : (K : Kind) (fs : List Frame) (f : Frame) (c : Bool) (w : List K.Open) → joins K (fs ++ cond c (f ∷ []) []) w ≡ cond c (join K f (joins K fs w)) (joins K fs w)
unfolding joins
joins_snoc K [] f true w = refl
joins_snoc K [] f false w = refl
joins_snoc K (g ∷ fs) f c w = joins_snoc K fs f c (join K g w)

-- ---- a call, whatever is open before it

module _ {K : Kind} (w : List K.Open) where
  -- the ledger l in a call that found the messages w open
  abbrev from : Ledger K → Ledger K
  from l = with_open l (joins K (joining l.heard) w)

  hear_from : (l : Ledger K) (s : ℕ) (o : Option DecodedFrame) → hear (remember (from l) s) s o ≡ from (hear (remember l s) s o)
  unfolding hear remember
  hear_from l s None = refl
  hear_from l s (Some x) =
      rw (joining_snoc l.heard (frame_at s x), joins_snoc K (joining l.heard) (frame_at s x) (right_crc (frame_at s x)) w) refl

  module _ (rate : ℕ) (d : Demod) where
    one_from : (wait : ℕ) (l : Ledger K) (b : Burst) → take_one rate d wait (from l) b ≡ from (take_one rate d wait l b)
    unfolding take_one takes
    one_from wait l b =
        ⊎_elim
        (λ e. rw e (hear_from l (l.base + b.start) (d.decode l.held (seconds rate l.base) b)))
        (λ e. rw e refl)
        (either (takes rate wait l b))

    each_from : (wait : ℕ) (l : Ledger K) (bs : List Burst) → take_each rate d wait (from l) bs ≡ from (take_each rate d wait l bs)
    unfolding take_each
    each_from wait l [] = refl
    each_from wait l (b ∷ bs) = ap (λ (k : Ledger K). take_each rate d wait k bs) (one_from wait l b) ∙ each_from wait (take_one rate d wait l b) bs

    scan-from : (wait : ℕ) (l : Ledger K) → scan rate d wait (from l) ≡ from (scan rate d wait l)
    unfolding scan forget
    scan-from wait l = ap (forget rate) (each_from wait l (d.bursts l.held))

    due-from : (l : Ledger K) → due rate d (from l) ≡ from (due rate d l)
    unfolding due scanned
    due-from l = ⊎_elim (λ e. rw e (scan-from (tail rate) (scanned l))) (λ e. rw e refl) (either (leb rate (2 * l.unscanned)))

    halve-from : (l : Ledger K) → halve rate (from l) ≡ from (halve rate l)
    unfolding halve
    halve-from l = ⊎_elim (λ e. rw e refl) (λ e. rw e refl) (either (eqb (length l.held) (capacity rate)))

    add-from : (l : Ledger K) (xs : List Float) → add rate (from l) xs ≡ from (add rate l xs)
    unfolding add amount
    add-from l xs = refl

    fill-from : (l : Ledger K) (xs : List Float) → fill rate d (from l) xs ≡ from (fill rate d l xs)
    unfolding fill
    fill-from l xs =
        ap (due rate d) (ap (λ (k : Ledger K). add rate k xs) (halve-from l) ∙ add-from (halve rate l) xs) ∙ due-from (add rate (halve rate l) xs)

    amount-from : (l : Ledger K) (xs : List Float) → amount rate (halve rate (from l)) xs ≡ amount rate (halve rate l) xs
    unfolding amount
    amount-from l xs = ap (λ (k : Ledger K). amount rate k xs) (halve-from l)

    fills-from : (n : ℕ) (l : Ledger K) (xs : List Float) → fills rate d n (from l) xs ≡ from (fills rate d n l xs)
    unfolding fills
    fills-from zero l xs = refl
    fills-from (suc n) l [] = refl
    fills-from (suc n) l (x ∷ xs) =
        rw (fill-from l (x ∷ xs), amount-from l (x ∷ xs)) (fills-from n (fill rate d l (x ∷ xs)) (drop (amount rate (halve rate l) (x ∷ xs)) (x ∷ xs)))

    pub scans-from : (l : Ledger K) (c : Call) → scans rate d (with_open l w) c ≡ with_open (scans rate d l c) (joins K (joining (scans rate d l c).heard) w)
    unfolding scans start_call joins joining
    scans-from l (push xs) = fills-from (length xs) (start_call l) xs
    scans-from l flush = scan-from 0 (start_call l)

-- ---- the claim

module _ (K : Kind) (laws : Lawful K) (rate : ℕ) (d : Demod) where
  same_messages : (c : Call) (s : Ledger K) {u v : List K.Open} → Swapped K u v → SameMessages rate c (with_open s u) (with_open s v)
  unfolding closed messages now
  same_messages c s h =
      let t = now rate s in
      let w = chosen-swapped (ready K c t) h in
      record { waiting = others-swapped (ready K c t) h; written = w; records = λ mark. Perm.map (record_of mark) (Perm.map (event_of K) w) }

  pub either_order : EitherOrder K rate d
  either_order =
      record {
        in_turn = λ l c w. scans-from w rate d l c;
        either_order = λ l c before behind a b e h.
            let s = scans rate d l c in
            let i : s ≡ with_open s (joins K (before ++ a ∷ b ∷ behind) l.waiting) = scans-from l.waiting rate d l c ∙ ap (λ (fs : List Frame). with_open s (joins K fs l.waiting)) e in
            rw i (same_messages c s (joins-either K laws before behind a b l.waiting h));
      }

pub frames-either : (rate : ℕ) (d : Demod) → EitherOrder by_frames rate d
frames-either rate d = either_order by_frames frames_lawful rate d

pub entries-either : (rate : ℕ) (d : Demod) → EitherOrder by_entry rate d
entries-either rate d = either_order by_entry entries_lawful rate d
