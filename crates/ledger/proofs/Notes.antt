-- What a client sees of an open message: its frames, and the message once it is written.
use mathlib.Core.Path.{◌≡◌, refl, sym, ap, ◌∙◌}
use mathlib.Core.Logic.{inl, inr, ⊎_elim}
use mathlib.Core.List.{List, [], ◌∷◌, ◌++◌, map, map-map}
use mathlib.Core.Bool.{Bool, true, false, cond, or-true}
use Prim.Native.Nat.{ℕ, zero, suc, ◌+◌, ◌/◌, ◌%◌, ◌^◌, ◌≤◌}
use native.Mathlib.Omega.{arith}
use lib.Dec.{eqb}
use borrow.Author.Tests.{eqb-true, eq-eqb}
use Rattle.ledger.specs.Types.{FrameSpan}
use Rattle.ledger.specs.Frames.{Key, Frame, rank_of}
use Rattle.ledger.specs.Merge.{entry_key, has, finished}
use Rattle.ledger.specs.Ledger.{Message, frames, message_key, summary, ranked, by_frames, Ledger, Call, messages, of_frame, event_of, events}
use Rattle.ledger.specs.Demand3.{SeenFrame, SeenMessage, Seen, frame, message, written, mine, Has, bit_of, MadeOf}
use Rattle.ledger.specs.History.{see_frame, mask_of, see_message, see}
use Rattle.ledger.proofs.Basics.{either, clash, map-join}
use Rattle.ledger.proofs.Entries.{summary-key, summary-time, summary_start, summary-rssi, RanksFit, summary-ranks}
use Rattle.ledger.proofs.Loud.{loudest_has, loudest-above}

abbrev pub seen_frames : Message → List SeenFrame
seen_frames m = see_frame m.first ∷ map see_frame m.more

unfoldable pub note_of : Message → SeenMessage
note_of m = see_message (finished (summary m))

pub note-key : (m : Message) → (note_of m).key ≡ message_key m
unfolding note_of see_message finished entry_key
note-key m = summary-key m

-- ---- the records of a call

abbrev pub heard_seen : List Frame → List Seen
heard_seen fs = map (λ (f : Frame). frame (see_frame f)) fs

abbrev pub notes : List Message → List Seen
notes ms = map (λ (m : Message). message (note_of m)) ms

pub seen-events : (rate : ℕ) (c : Call) (l : Ledger by_frames) → map see (events rate c l) ≡ heard_seen l.heard ++ notes (messages rate c l)
unfolding see note_of
seen-events rate c l =
    map-join see (map of_frame l.heard) (map (event_of by_frames) (messages rate c l))
    ∙ rw (map-map see of_frame l.heard, map-map see (event_of by_frames) (messages rate c l)) refl

-- they hold no message, or no frame
pub written-heard : (k : Key) (fs : List Frame) → written k (heard_seen fs) ≡ false
unfolding written
written-heard k [] = refl
written-heard k (f ∷ fs) = written-heard k fs

pub mine-notes : (k : Key) (ms : List Message) → mine k (notes ms) ≡ []
unfolding mine
mine-notes k [] = refl
mine-notes k (m ∷ ms) = mine-notes k ms

-- ---- ranks

ranked_has : (r : ℕ) (l : List Frame) → ranked r l ≡ true → Has r (map see_frame l)
unfolding ranked see_frame
ranked_has r [] e = clash false e refl
ranked_has r (f ∷ l) e =
    ⊎_elim
    (λ g. (see_frame f, inl refl, eqb-true (rank_of f) r g))
    (λ g. let i = ranked_has r l (rw g at e) in (i.0, inr i.1, i.2))
    (either (eqb (rank_of f) r))

has_ranked : (r : ℕ) (l : List Frame) → Has r (map see_frame l) → ranked r l ≡ true
unfolding ranked see_frame
has_ranked r [] h = absurd h.1
has_ranked r (f ∷ l) h =
    ⊎_elim
    (λ q. let p : rank_of f ≡ r = sym (ap (λ (s : SeenFrame). s.rank) q) ∙ h.2 in rw (eq-eqb (rank_of f) r p) refl)
    (λ q. rw (has_ranked r l (h.0, q, h.2)) (or-true (eqb (rank_of f) r)))
    h.1

pub message_has : (r : ℕ) (m : Message) → ranked r (frames m) ≡ true → Has r (seen_frames m)
message_has r m e = ranked_has r (frames m) e

pub has_message : (r : ℕ) (m : Message) → Has r (seen_frames m) → ranked r (frames m) ≡ true
has_message r m h = has_ranked r (frames m) h

-- the bits of a mask
mask-bit : (r : ℕ) (l : List FrameSpan) → r ≤ 2 → bit_of r (mask_of l) ≡ cond (has r l) 1 0
unfolding mask_of
mask-bit zero l h = bits (has 0 l) (has 1 l) (has 2 l)
  where
    bits : (a b c : Bool) → ◌≡◌ {A = ℕ} ((cond a 1 0 + (cond b 2 0 + cond c 4 0)) / 2 ^ 0 % 2) (cond a 1 0)
    bits true true true = refl
    bits true true false = refl
    bits true false true = refl
    bits true false false = refl
    bits false true true = refl
    bits false true false = refl
    bits false false true = refl
    bits false false false = refl
mask-bit (suc zero) l h = bits (has 0 l) (has 1 l) (has 2 l)
  where
    bits : (a b c : Bool) → ◌≡◌ {A = ℕ} ((cond a 1 0 + (cond b 2 0 + cond c 4 0)) / 2 ^ 1 % 2) (cond b 1 0)
    bits true true true = refl
    bits true true false = refl
    bits true false true = refl
    bits true false false = refl
    bits false true true = refl
    bits false true false = refl
    bits false false true = refl
    bits false false false = refl
mask-bit (suc (suc zero)) l h = bits (has 0 l) (has 1 l) (has 2 l)
  where
    bits : (a b c : Bool) → ◌≡◌ {A = ℕ} ((cond a 1 0 + (cond b 2 0 + cond c 4 0)) / 2 ^ 2 % 2) (cond c 1 0)
    bits true true true = refl
    bits true true false = refl
    bits true false true = refl
    bits true false false = refl
    bits false true true = refl
    bits false true false = refl
    bits false false true = refl
    bits false false false = refl
mask-bit (suc (suc (suc r))) l h = absurd (omega arith)

mask-small : (l : List FrameSpan) → mask_of l ≤ 7
unfolding mask_of
mask-small l = small (has 0 l) (has 1 l) (has 2 l)
  where
    small : (a b c : Bool) → cond a 1 0 + (cond b 2 0 + cond c 4 0) ≤ 7
    small true true true = omega arith
    small true true false = omega arith
    small true false true = omega arith
    small true false false = omega arith
    small false true true = omega arith
    small false true false = omega arith
    small false false true = omega arith
    small false false false = omega arith

set-bit : (b : Bool) → ◌≡◌ {A = ℕ} (cond b 1 0) 1 → b ≡ true
set-bit true e = refl
set-bit false e = absurd (omega arith)

-- ---- a message is made of its frames

pub note_made : (m : Message) → RanksFit (frames m) → MadeOf (seen_frames m) (note_of m)
unfolding note_of see_message finished see_frame
note_made m w =
    let bit : (r : ℕ) → r ≤ 2 → bit_of r (note_of m).mask ≡ cond (ranked r (frames m)) 1 0 =
    λ r h. mask-bit r (summary m).message.spans h ∙ ap (λ (t : Bool). cond t 1 0) (summary-ranks r m h w) in
    record {
      one = (see_frame m.first, map see_frame m.more, refl, summary-time m, summary_start m);
      ranks = λ r h. (
        (λ q. bit r h ∙ ap (λ (t : Bool). cond t 1 0) (has_message r m q)),
        (λ q. message_has r m (set-bit (ranked r (frames m)) (sym (bit r h) ∙ q))),
      );
      no_more = mask-small (summary m).message.spans;
      one_has = let i = loudest_has m.first m.more in (i.0, i.1, summary-rssi m ∙ i.2);
      none_above = λ x h. rw (summary-rssi m) (loudest-above m.first m.more x h);
    }
