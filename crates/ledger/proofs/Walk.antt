-- What the ledger keeps true of the records so far: every message is made of what belongs to it, and what waits under a key is what the next message with that
-- key would have.
use Rattle.std.proofs.Common.{Option, None, Some}
use mathlib.Core.Path.{◌≡◌, refl, sym, ap, ◌∙◌}
use mathlib.Core.Logic.{⊎_elim}
use mathlib.Core.List.{List, [], ◌∷◌, ◌++◌, append_assoc, append-nil}
use mathlib.Core.Bool.{Bool, true, false, ◌&&◌, cond}
use Prim.Native.Nat.{ℕ, zero, suc, ◌+◌, ◌*◌}
use lib.ListN.{length, drop}
use lib.Dec.{leb, eqb}
use lib.Ieee.{Float}
use Rattle.ledger.specs.Types.{DecodedFrame, Burst}
use Rattle.ledger.specs.Frames.{Key, same, Frame, frame_at, key_of, right_crc}
use Rattle.ledger.specs.Ledger.{Message, frames, message_key, by_frames, Demod, capacity, tail, seconds, Ledger, join, Call, push, flush, chosen, others, hear, remember, takes, take_one, take_each, forget, scan, halve, amount, add, scanned, due, fill, fills, start_call, scans}
use Rattle.ledger.specs.Demand3.{SeenFrame, Seen, frame, message, written, mine, MadeOf}
use Rattle.ledger.specs.History.{see_frame}
use Rattle.ledger.proofs.Basics.{either, same_true, map-join}
use Rattle.ledger.proofs.Entries.{RanksFit}
use Rattle.ledger.proofs.Ranks.{AllRanked, chosen-ranked}
use Rattle.ledger.proofs.Records.{mine-join, mine-cut}
use Rattle.ledger.proofs.Notes.{seen_frames, note_of, note-key, heard_seen, notes, written-heard, mine-notes, note_made}
use Rattle.ledger.proofs.Waiting.{view, Distinct, view-joined, view_other, distinct-join, view-spent, view_kept, chosen_at}

-- the record r behind the records rs
abbrev pub Good : List Seen → Seen → Type 0
Good rs (frame x) = Unit
Good rs (message m) = MadeOf (mine m.key rs) m

-- the same of each of a list
abbrev pub Each : List Seen → List Seen → Type 0
Each rs [] = Unit
Each rs (r ∷ more) = Good rs r × Each (rs ++ (r ∷ [])) more

pub each_join : (rs a b : List Seen) → Each rs a → Each (rs ++ a) b → Each rs (a ++ b)
each_join rs [] b p q = rw append-nil at q
each_join rs (r ∷ a) b p q = (p.0, each_join (rs ++ (r ∷ [])) a b p.1 (rw (append_assoc rs (r ∷ []) a) q))

pub each_at : (rs a b : List Seen) (r : Seen) → Each rs (a ++ r ∷ b) → Good (rs ++ a) r
each_at rs [] b r p = rw (append-nil rs) p.0
each_at rs (x ∷ a) b r p = rw (← append_assoc rs (x ∷ []) a) (each_at (rs ++ (x ∷ [])) a b r p.1)

pub frames-good : (rs : List Seen) (fs : List Frame) → Each rs (heard_seen fs)
frames-good rs [] = tt
frames-good rs (f ∷ fs) = (tt, frames-good (rs ++ (frame (see_frame f) ∷ [])) fs)

-- the records rs so far, and the ledger
pub record Keeps (rs : List Seen) (l : Ledger by_frames) : Type 0 where
  pub views : (k : Key) → view k l.waiting ≡ mine k rs
  pub once : Distinct l.waiting

-- within a call, rs being the records before it
abbrev pub Within : List Seen → Ledger by_frames → Type 0
Within rs l = Keeps (rs ++ heard_seen l.heard) l

-- ---- a burst

-- one more frame
mine_one : (k : Key) (f : Frame) → mine k (frame (see_frame f) ∷ []) ≡ cond (right_crc f) (cond (same (key_of f) k) (see_frame f ∷ []) []) []
unfolding mine written see_frame
mine_one k f = split (right_crc f) (same (key_of f) k)
  where
    split : (a b : Bool) → cond (a && (b && true)) (see_frame f ∷ []) [] ≡ cond a (cond b (see_frame f ∷ []) []) []
    split false b = refl
    split true false = refl
    split true true = refl

view_one : (k : Key) (f : Frame) (c : Bool) (l : List Message) → view k (cond c (join by_frames f l) l) ≡ view k l ++ cond c (cond (same (key_of f) k) (see_frame f ∷ []) []) []
view_one k f false l = sym (append-nil (view k l))
view_one k f true l =
    ⊎_elim
    (λ s. let v : view k (join by_frames f l) ≡ view k l ++ (see_frame f ∷ []) = rw (← same_true (key_of f) k s) (view-joined f l) in rw s v)
    (λ s. rw s (view_other k f l s ∙ sym (append-nil (view k l))))
    (either (same (key_of f) k))

once_one : (f : Frame) (c : Bool) (l : List Message) → Distinct l → Distinct (cond c (join by_frames f l) l)
once_one f false l h = h
once_one f true l h = distinct-join f l h

hear-within : (rs : List Seen) (l : Ledger by_frames) (s : ℕ) (o : Option DecodedFrame) → Within rs l → Within rs (hear (remember l s) s o)
unfolding hear remember
hear-within rs l s None w = record { views = w.views; once = w.once }
hear-within rs l s (Some x) w =
    let f = frame_at s x in
    let h = rs ++ heard_seen l.heard in
    let z : rs ++ heard_seen (l.heard ++ (f ∷ [])) ≡ h ++ (frame (see_frame f) ∷ []) =
    rw (map-join (λ (f : Frame). frame (see_frame f)) l.heard (f ∷ [])) (sym (append_assoc rs (heard_seen l.heard) (frame (see_frame f) ∷ []))) in
    rw z (record {
      views = λ k.
          view_one k f (right_crc f) l.waiting
          ∙ ap (λ (t : List SeenFrame). t ++ cond (right_crc f) (cond (same (key_of f) k) (see_frame f ∷ []) []) []) (w.views k)
          ∙ sym (mine-join k h (frame (see_frame f) ∷ []) (written-heard k (f ∷ [])) ∙ ap (λ (t : List SeenFrame). mine k h ++ t) (mine_one k f));
      once = once_one f (right_crc f) l.waiting w.once;
    })

module _ (rate : ℕ) (d : Demod) (rs : List Seen) where
  one_within : (wait : ℕ) (l : Ledger by_frames) (b : Burst) → Within rs l → Within rs (take_one rate d wait l b)
  unfolding take_one
  one_within wait l b w =
      ⊎_elim
      (λ e. rw e (hear-within rs l (l.base + b.start) (d.decode l.held (seconds rate l.base) b) w))
      (λ e. rw e w)
      (either (takes rate wait l b))

  each_within : (wait : ℕ) (l : Ledger by_frames) (bs : List Burst) → Within rs l → Within rs (take_each rate d wait l bs)
  unfolding take_each
  each_within wait l [] w = w
  each_within wait l (b ∷ bs) w = each_within wait (take_one rate d wait l b) bs (one_within wait l b w)

  -- ---- a scan

  scan-within : (wait : ℕ) (l : Ledger by_frames) → Within rs l → Within rs (scan rate d wait l)
  unfolding scan forget
  scan-within wait l w =
      let k = each_within wait l (d.bursts l.held) w in
      record { views = k.views; once = k.once }

  -- ---- fillings

  due-within : (l : Ledger by_frames) → Within rs l → Within rs (due rate d l)
  unfolding due scanned
  due-within l w =
      ⊎_elim (λ e. rw e (scan-within (tail rate) (scanned l) (record { views = w.views; once = w.once }))) (λ e. rw e w) (either (leb rate (2 * l.unscanned)))

  fill-within : (l : Ledger by_frames) (xs : List Float) → Within rs l → Within rs (fill rate d l xs)
  unfolding fill halve add
  fill-within l xs w =
      due-within (add rate (halve rate l) xs)
      (⊎_elim (λ e. rw e (record { views = w.views; once = w.once })) (λ e. rw e (record { views = w.views; once = w.once })) (either (eqb (length l.held) (capacity rate))))

  fills-within : (n : ℕ) (l : Ledger by_frames) (xs : List Float) → Within rs l → Within rs (fills rate d n l xs)
  unfolding fills
  fills-within zero l xs w = w
  fills-within (suc n) l [] w = w
  fills-within (suc n) l (x ∷ xs) w =
      fills-within n (fill rate d l (x ∷ xs)) (drop (amount rate (halve rate l) (x ∷ xs)) (x ∷ xs)) (fill-within l (x ∷ xs) w)

  -- ---- a call

  start_within : (l : Ledger by_frames) → Keeps rs l → Within rs (start_call l)
  unfolding start_call
  start_within l w = rw append-nil (record { views = w.views; once = w.once })

  pub scans-within : (l : Ledger by_frames) (c : Call) → Keeps rs l → Within rs (scans rate d l c)
  unfolding scans
  scans-within l (push xs) w = fills-within (length xs) (start_call l) xs (start_within l w)
  scans-within l flush w = scan-within 0 (start_call l) (start_within l w)

-- ---- messages are written

-- each behind those before it
messages-good : (rs : List Seen) (ms : List Message)
    → ((a b : List Message) (m : Message) → ms ≡ a ++ m ∷ b → MadeOf (mine (note_of m).key (rs ++ notes a)) (note_of m)) → Each rs (notes ms)
messages-good rs [] h = tt
messages-good rs (m ∷ ms) h = (
  rw (append-nil rs) at (h [] ms m refl),
  messages-good (rs ++ (message (note_of m) ∷ [])) ms
      (λ a b n e. rw (append_assoc rs (message (note_of m) ∷ []) (notes a)) (h (m ∷ a) b n (ap (λ (t : List Message). m ∷ t) e))),
)

ranked_at : (a b : List Message) (m : Message) → AllRanked (a ++ m ∷ b) → RanksFit (frames m)
ranked_at [] b m r = r.0
ranked_at (n ∷ a) b m r = ranked_at a b m r.1

module _ (rs : List Seen) (p : Message → Bool) (l : Ledger by_frames) (w : Keeps rs l) where
  -- a message is made of what belongs to it
  pub written-good : AllRanked l.waiting → Each rs (notes (chosen p l.waiting))
  written-good r =
      messages-good rs (chosen p l.waiting)
      (λ a b m e.
      let i = chosen_at p l.waiting a b m w.once e in
      let j : mine (note_of m).key (rs ++ notes a) ≡ seen_frames m =
      ap (λ (k : Key). mine k (rs ++ notes a)) (note-key m) ∙ mine-join (message_key m) rs (notes a) i.0 ∙ rw (mine-notes (message_key m) a) (append-nil (mine (message_key m) rs)) ∙ sym (w.views (message_key m)) ∙ i.1 in
      rw j (note_made m (ranked_at a b m (rw e at (chosen-ranked p l.waiting r)))))

  -- what waits under a key is what the next message with that key would have
  pub written-views : (k : Key) → view k (others p l.waiting) ≡ mine k (rs ++ notes (chosen p l.waiting))
  written-views k =
      ⊎_elim
      (λ e. rw (mine-cut k rs (notes (chosen p l.waiting)) e, mine-notes k (chosen p l.waiting)) (view-spent p k l.waiting w.once e))
      (λ e. rw (mine-join k rs (notes (chosen p l.waiting)) e, mine-notes k (chosen p l.waiting), append-nil (mine k rs), view_kept p k l.waiting e) (w.views k))
      (either (written k (notes (chosen p l.waiting))))
