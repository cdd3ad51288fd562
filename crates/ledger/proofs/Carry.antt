-- A call does the same by lists of frames and by the entries that the Rust merges of them.
use Rattle.std.proofs.Common.{Option, None, Some}
use mathlib.Core.Path.{◌≡◌, refl, sym, ap, ◌∙◌}
use mathlib.Core.Logic.{⊎_elim}
use mathlib.Core.List.{List, [], ◌∷◌, ◌++◌, map, map-map}
use mathlib.Core.Bool.{Bool, true, false, cond}
use Prim.Native.Nat.{ℕ, zero, suc, ◌+◌, ◌*◌}
use lib.ListN.{length, drop, length-map}
use lib.Dec.{leb, eqb}
use lib.Ieee.{Float}
use Rattle.shifts.specs.Shifts.{schedule_cause}
use Rattle.ledger.specs.Types.{DecodedFrame, Burst}
use Rattle.ledger.specs.Frames.{Key, same, Frame, frame_at, key_of, right_crc}
use Rattle.ledger.specs.Merge.{open_entry, merge_all}
use Rattle.ledger.specs.Ledger.{Message, frames, message_key, summary, by_frames, by_entry, Demod, capacity, tail, seconds, Ledger, join, Call, push, flush, ready, chosen, others, hear, remember, takes, take_one, take_each, forget, scan, halve, amount, add, scanned, due, fill, fills, start_call, scans, now, closed, messages, Event, of_frame, event_of, events}
use Rattle.ledger.specs.Causes.{first_of, waits, unlike, all_fit, counts_of, orderly, any_nan, Lent, call_cause, cause, Attempt, number, after_call, call_events, after}
use Rattle.ledger.proofs.Basics.{either}
use Rattle.ledger.proofs.Entries.{merge_snoc, summary-key, RanksFit, summary-complete}
use Rattle.ledger.proofs.Opens.{chosen_yes, chosen_no, others_yes, others_no, join_at, join_past}
use Rattle.ledger.proofs.Ranks.{AllRanked, others-ranked, scans-ranked}

-- the same ledger, with the entry of each open message
abbrev pub carry : Ledger by_frames → Ledger by_entry
carry l = record { held = l.held; base = l.base; unscanned = l.unscanned; starts = l.starts; waiting = map summary l.waiting; heard = l.heard }

opened-carry : (f : Frame) → summary (record { first = f; more = [] }) ≡ open_entry f
unfolding merge_all
opened-carry f = refl

join-carry : (f : Frame) (l : List Message) → map summary (join by_frames f l) ≡ join by_entry f (map summary l)
unfolding join
join-carry f [] = rw (opened-carry f) refl
join-carry f (m ∷ l) =
    ⊎_elim
    (λ e. rw (join_at by_frames f m l e, join_at by_entry f (summary m) (map summary l) (rw (summary-key m) e), merge_snoc (open_entry m.first) m.more f) refl)
    (λ e. rw (join_past by_frames f m l e, join_past by_entry f (summary m) (map summary l) (rw (summary-key m) e), join-carry f l) refl)
    (either (same (message_key m) (key_of f)))

ready-carry : (c : Call) (t : Float) (m : Message) → RanksFit (frames m) → ready by_entry c t (summary m) ≡ ready by_frames c t m
unfolding ready
ready-carry (push xs) t m w = summary-complete t m w
ready-carry flush t m w = refl

-- those that are written, and the others
module _ (c : Call) (t : Float) where
  chosen-carry : (l : List Message) → AllRanked l → map summary (chosen (ready by_frames c t) l) ≡ chosen (ready by_entry c t) (map summary l)
  unfolding chosen
  chosen-carry [] w = refl
  chosen-carry (m ∷ l) w =
      let p = ready by_frames c t in
      let q = ready by_entry c t in
      let agree : q (summary m) ≡ p m = ready-carry c t m w.0 in
      ⊎_elim
      (λ e. rw (chosen_yes p m l e, chosen_yes q (summary m) (map summary l) (agree ∙ e), chosen-carry l w.1) refl)
      (λ e. rw (chosen_no p m l e, chosen_no q (summary m) (map summary l) (agree ∙ e), chosen-carry l w.1) refl)
      (either (p m))

  others-carry : (l : List Message) → AllRanked l → map summary (others (ready by_frames c t) l) ≡ others (ready by_entry c t) (map summary l)
  unfolding others
  others-carry [] w = refl
  others-carry (m ∷ l) w =
      let p = ready by_frames c t in
      let q = ready by_entry c t in
      let agree : q (summary m) ≡ p m = ready-carry c t m w.0 in
      ⊎_elim
      (λ e. rw (others_yes p m l e, others_yes q (summary m) (map summary l) (agree ∙ e), others-carry l w.1) refl)
      (λ e. rw (others_no p m l e, others_no q (summary m) (map summary l) (agree ∙ e), others-carry l w.1) refl)
      (either (p m))

waiting-carry : (f : Frame) (c : Bool) (l : List Message) → map summary (cond c (join by_frames f l) l) ≡ cond c (join by_entry f (map summary l)) (map summary l)
waiting-carry f true l = join-carry f l
waiting-carry f false l = refl

hear-carry : (l : Ledger by_frames) (s : ℕ) (o : Option DecodedFrame) → carry (hear (remember l s) s o) ≡ hear (remember (carry l) s) s o
unfolding hear remember
hear-carry l s None = refl
hear-carry l s (Some x) = rw (waiting-carry (frame_at s x) (right_crc (frame_at s x)) l.waiting) refl

module _ (rate : ℕ) (d : Demod) where
  one_carry : (wait : ℕ) (l : Ledger by_frames) (b : Burst) → carry (take_one rate d wait l b) ≡ take_one rate d wait (carry l) b
  unfolding take_one takes
  one_carry wait l b =
      ⊎_elim
      (λ e. rw e (hear-carry l (l.base + b.start) (d.decode l.held (seconds rate l.base) b)))
      (λ e. rw e refl)
      (either (takes rate wait l b))

  each_carry : (wait : ℕ) (l : Ledger by_frames) (bs : List Burst) → carry (take_each rate d wait l bs) ≡ take_each rate d wait (carry l) bs
  unfolding take_each
  each_carry wait l [] = refl
  each_carry wait l (b ∷ bs) = each_carry wait (take_one rate d wait l b) bs ∙ ap (λ (k : Ledger by_entry). take_each rate d wait k bs) (one_carry wait l b)

  scan-carry : (wait : ℕ) (l : Ledger by_frames) → carry (scan rate d wait l) ≡ scan rate d wait (carry l)
  unfolding scan forget
  scan-carry wait l = ap (forget rate) (each_carry wait l (d.bursts l.held))

  due-carry : (l : Ledger by_frames) → carry (due rate d l) ≡ due rate d (carry l)
  unfolding due scanned
  due-carry l = ⊎_elim (λ e. rw e (scan-carry (tail rate) (scanned l))) (λ e. rw e refl) (either (leb rate (2 * l.unscanned)))

  halve-carry : (l : Ledger by_frames) → carry (halve rate l) ≡ halve rate (carry l)
  unfolding halve
  halve-carry l = ⊎_elim (λ e. rw e refl) (λ e. rw e refl) (either (eqb (length l.held) (capacity rate)))

  add-carry : (l : Ledger by_frames) (xs : List Float) → carry (add rate l xs) ≡ add rate (carry l) xs
  unfolding add amount
  add-carry l xs = refl

  fill-carry : (l : Ledger by_frames) (xs : List Float) → carry (fill rate d l xs) ≡ fill rate d (carry l) xs
  unfolding fill
  fill-carry l xs =
      due-carry (add rate (halve rate l) xs) ∙ ap (due rate d) (add-carry (halve rate l) xs ∙ ap (λ (k : Ledger by_entry). add rate k xs) (halve-carry l))

  amount-carry : (l : Ledger by_frames) (xs : List Float) → amount rate (halve rate l) xs ≡ amount rate (halve rate (carry l)) xs
  unfolding amount
  amount-carry l xs = ap (λ (k : Ledger by_entry). amount rate k xs) (halve-carry l)

  fills-carry : (n : ℕ) (l : Ledger by_frames) (xs : List Float) → carry (fills rate d n l xs) ≡ fills rate d n (carry l) xs
  unfolding fills
  fills-carry zero l xs = refl
  fills-carry (suc n) l [] = refl
  fills-carry (suc n) l (x ∷ xs) =
      fills-carry n (fill rate d l (x ∷ xs)) (drop (amount rate (halve rate l) (x ∷ xs)) (x ∷ xs))
      ∙ rw (fill-carry l (x ∷ xs), amount-carry l (x ∷ xs)) refl

  -- a call's scans, what it leaves, and what it gives
  pub scans-carry : (l : Ledger by_frames) (c : Call) → carry (scans rate d l c) ≡ scans rate d (carry l) c
  unfolding scans start_call
  scans-carry l (push xs) = fills-carry (length xs) (start_call l) xs
  scans-carry l flush = scan-carry 0 (start_call l)

pub closed-carry : (rate : ℕ) (c : Call) (l : Ledger by_frames) → AllRanked l.waiting → carry (closed rate c l) ≡ closed rate c (carry l)
unfolding closed now
closed-carry rate c l w = rw (others-carry c (now rate l) l.waiting w) refl

messages-carry : (rate : ℕ) (c : Call) (l : Ledger by_frames) → AllRanked l.waiting → map summary (messages rate c l) ≡ messages rate c (carry l)
unfolding messages now
messages-carry rate c l w = chosen-carry c (now rate l) l.waiting w

pub events-carry : (rate : ℕ) (c : Call) (l : Ledger by_frames) → AllRanked l.waiting → events rate c l ≡ events rate c (carry l)
events-carry rate c l w =
    rw (← messages-carry rate c l w) (ap (λ (t : List Event). map of_frame l.heard ++ t) (sym (map-map (event_of by_entry) summary (messages rate c l))))

-- ---- causes

waits-carry : (k : Key) (l : List Message) → waits by_entry k (map summary l) ≡ waits by_frames k l
unfolding waits
waits-carry k [] = refl
waits-carry k (m ∷ l) = rw (summary-key m, waits-carry k l) refl

unlike-carry : (l : List Message) → unlike by_entry (map summary l) ≡ unlike by_frames l
unfolding unlike
unlike-carry [] = refl
unlike-carry (m ∷ l) = rw (summary-key m, waits-carry (message_key m) l, unlike-carry l) refl

fit-carry : (l : List Message) → all_fit by_entry (map summary l) ≡ all_fit by_frames l
unfolding all_fit
fit-carry [] = refl
fit-carry (m ∷ l) = rw (fit-carry l) refl

nan-carry : (l : List Message) → any_nan by_entry (map summary l) ≡ any_nan by_frames l
unfolding any_nan
nan-carry [] = refl
nan-carry (m ∷ l) = rw (nan-carry l) refl

order-carry : (rate : ℕ) (l : Ledger by_frames) → orderly rate (counts_of rate (carry l)) (carry l) ≡ orderly rate (counts_of rate l) l
unfolding orderly
order-carry rate l = rw (length-map l.waiting summary, unlike-carry l.waiting, fit-carry l.waiting) refl

pub cause-carry : (rate : ℕ) (b : Lent) (l : Ledger by_frames) (c : Call) → cause rate b (counts_of rate (carry l)) (carry l) c ≡ cause rate b (counts_of rate l) l c
unfolding cause call_cause
cause-carry rate b l (push xs) = rw (order-carry rate l, nan-carry l.waiting) refl
cause-carry rate b l flush = rw (order-carry rate l, nan-carry l.waiting) refl

-- ---- a call, refused or not

module _ (rate : ℕ) (d : Demod) where
  pub after_ranked : (l : Ledger by_frames) (c : Call) (n : ℕ) → AllRanked l.waiting → AllRanked (after_call rate d l c n).waiting
  unfolding after_call closed
  after_ranked l c zero w = others-ranked (ready by_frames c (now rate (scans rate d l c))) (scans rate d l c).waiting (scans-ranked rate d l c w)
  after_ranked l c (suc n) w = w

  pub call-carry : (l : Ledger by_frames) (c : Call) (n : ℕ) → AllRanked l.waiting → carry (after_call rate d l c n) ≡ after_call rate d (carry l) c n
  unfolding after_call
  call-carry l c zero w = closed-carry rate c (scans rate d l c) (scans-ranked rate d l c w) ∙ ap (closed rate c) (scans-carry rate d l c)
  call-carry l c (suc n) w = refl

  pub call-events-carry : (l : Ledger by_frames) (c : Call) (n : ℕ) → AllRanked l.waiting → call_events rate d l c n ≡ call_events rate d (carry l) c n
  unfolding call_events
  call-events-carry l c zero w = events-carry rate c (scans rate d l c) (scans-ranked rate d l c w) ∙ ap (events rate c) (scans-carry rate d l c)
  call-events-carry l c (suc n) w = refl

  -- and so over a list of calls
  pub after_carry : (l : Ledger by_frames) (cs : List Attempt) → AllRanked l.waiting → carry (after rate d l cs) ≡ after rate d (carry l) cs
  unfolding after
  after_carry l [] w = refl
  after_carry l (a ∷ cs) w =
      after_carry (after_call rate d l a.call (number rate l a)) cs (after_ranked l a.call (number rate l a) w)
      ∙ ap (λ (k : Ledger by_entry). after rate d k cs)
      (call-carry l a.call (number rate l a) w ∙ ap (after_call rate d (carry l) a.call) (ap (λ (n : ℕ). first_of n (schedule_cause a.schedule)) (sym (cause-carry rate a.lent l a.call))))
