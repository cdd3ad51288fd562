-- One call of a run, from a ledger that stands.
use mathlib.Core.Path.{◌≡◌, refl, sym, ap, ◌∙◌}
use mathlib.Core.List.{List, [], ◌∷◌, ◌++◌, map, map-map, append_assoc, append-nil}
use mathlib.Core.Bool.{true, or-true}
use Prim.Native.Nat.{ℕ, zero, suc, ◌+◌, ◌≤◌}
use native.Mathlib.Omega.{arith}
use lib.ListN.{length}
use lib.Ieee.{Float}
use Rattle.ledger.specs.Frames.{Key, Frame}
use Rattle.ledger.specs.Ledger.{Message, message_key, by_frames, Demod, seconds, Ledger, Call, flush, ready, others, scans, now, closed, messages}
use Rattle.ledger.specs.Causes.{after_call, call_events}
use Rattle.ledger.specs.Demand3.{SeenFrame, SeenMessage, Seen, frame, message, Turn, all, pushed, now_after, written, mine, frames_in, gathered, Due}
use Rattle.ledger.specs.History.{see_frame, see}
use Rattle.ledger.proofs.Basics.{nothing_of}
use Rattle.ledger.proofs.Opens.{others_all}
use Rattle.ledger.proofs.Records.{written-join, mine-join}
use Rattle.ledger.proofs.Notes.{seen_frames, note_of, note-key, heard_seen, notes, seen-events, mine-notes}
use Rattle.ledger.proofs.Waiting.{view, chosen_at, chosen_has}
use Rattle.ledger.proofs.Stand.{Stand, scanned-keeps, turn_stand}
use Rattle.ledger.proofs.Dues.{ready-due, due-ready}

-- ---- runs

pub all_join : (a b : List Turn) → all (a ++ b) ≡ all a ++ all b
unfolding all
all_join [] b = refl
all_join (t ∷ a) b = rw (all_join a b) (sym (append_assoc t.records (all a) (all b)))

pub pushed-join : (a b : List Turn) → pushed (a ++ b) ≡ pushed a + pushed b
unfolding pushed
pushed-join [] b = omega arith
pushed-join (t ∷ a) b = omega (arith, pushed-join a b)

pub all_one : (a : List Turn) (t : Turn) → all (a ++ (t ∷ [])) ≡ all a ++ t.records
unfolding all
all_one a t = all_join a (t ∷ []) ∙ ap (λ (r : List Seen). all a ++ r) (append-nil t.records)

-- ---- the records of a call

frames-heard : (fs : List Frame) (rs : List Seen) → frames_in (heard_seen fs ++ rs) ≡ heard_seen fs ++ frames_in rs
unfolding frames_in
frames-heard [] rs = refl
frames-heard (f ∷ fs) rs = ap (λ (t : List Seen). frame (see_frame f) ∷ t) (frames-heard fs rs)

frames-notes : (ms : List Message) → frames_in (notes ms) ≡ []
unfolding frames_in
frames-notes [] = refl
frames-notes (m ∷ ms) = frames-notes ms

frames-call : (fs : List Frame) (ms : List Message) → frames_in (heard_seen fs ++ notes ms) ≡ heard_seen fs
frames-call fs ms = frames-heard fs (notes ms) ∙ rw (frames-notes ms) (append-nil (heard_seen fs))

-- a message among them
pub record Found (fs : List Frame) (ms : List Message) (a : List Seen) (m : SeenMessage) : Type 0 where
  pub front : List Message
  pub behind : List Message
  pub found : Message
  pub there : ms ≡ front ++ found ∷ behind
  pub seen : m ≡ note_of found
  pub before : a ≡ heard_seen fs ++ notes front

find-note : (ms : List Message) (a b : List Seen) (m : SeenMessage) → notes ms ≡ a ++ message m ∷ b → Found [] ms a m
find-note [] [] b m e = nothing_of (message m) b (sym e)
find-note [] (r ∷ a) b m e = nothing_of r (a ++ message m ∷ b) (sym e)
find-note (n ∷ ms) [] b m e =
    let q : note_of n ≡ m = cc in
    record { front = []; behind = ms; found = n; there = refl; seen = sym q; before = refl }
find-note (n ∷ ms) (r ∷ a) b m e =
    let q : notes ms ≡ a ++ message m ∷ b = cc in
    let p : message (note_of n) ≡ r = cc in
    let i = find-note ms a b m q in
    record {
      front = n ∷ i.front;
      behind = i.behind;
      found = i.found;
      there = ap (λ (t : List Message). n ∷ t) i.there;
      seen = i.seen;
      before = more i.front r (sym p) i.before;
    }
  where
    more : (c : List Message) (r : Seen) → r ≡ message (note_of n) → a ≡ notes c → r ∷ a ≡ notes (n ∷ c)
    more c r p q = cc

pub find-message : (fs : List Frame) (ms : List Message) (a b : List Seen) (m : SeenMessage) → heard_seen fs ++ notes ms ≡ a ++ message m ∷ b → Found fs ms a m
find-message [] ms a b m e = find-note ms a b m e
find-message (f ∷ fs) ms [] b m e = let z : ◌≡◌ {A = ℕ} 0 1 = cc in absurd (omega arith)
find-message (f ∷ fs) ms (r ∷ a) b m e =
    let q : heard_seen fs ++ notes ms ≡ a ++ message m ∷ b = cc in
    let p : frame (see_frame f) ≡ r = cc in
    let i = find-message fs ms a b m q in
    record {
      front = i.front;
      behind = i.behind;
      found = i.found;
      there = i.there;
      seen = i.seen;
      before = more r (heard_seen fs ++ notes i.front) (sym p) i.before;
    }
  where
    more : (r : Seen) (t : List Seen) → r ≡ frame (see_frame f) → a ≡ t → r ∷ a ≡ frame (see_frame f) ∷ t
    more r t p q = cc

-- ---- a call from the ledger l, where `before` has been

module _ (rate : ℕ) (d : Demod) (before : List Turn) (l : Ledger by_frames) (st : Stand rate (all before) (pushed before) l) (c : Call) where
  -- with the number k that comes back
  abbrev pub turn : ℕ → Turn
  turn k = record { call = c; refusal = k; records = map see (call_events rate d l c k) }

  pub refused : (k : ℕ) → (k ≡ 0 → ⊥) → (turn k).records ≡ []
  unfolding call_events
  refused zero h = absurd (h refl)
  refused (suc k) h = refl

  records_are : (turn 0).records ≡ heard_seen (scans rate d l c).heard ++ notes (messages rate c (scans rate d l c))
  unfolding call_events
  records_are = seen-events rate c (scans rate d l c)

  pub frames_first : (k : ℕ) → (fs : List SeenFrame) × (ms : List SeenMessage) × ((turn k).records ≡ map frame fs ++ map message ms)
  unfolding call_events
  frames_first zero =
      let s = scans rate d l c in (
        map see_frame s.heard,
        map note_of (messages rate c s),
        records_are ∙ rw (map-map frame see_frame s.heard, map-map message note_of (messages rate c s)) refl,
      )
  frames_first (suc k) = ([], [], refl)

  -- after its scans, what waits under a key is what was gathered
  gathered_is : (k : Key) → gathered before (turn 0) k ≡ view k (scans rate d l c).waiting
  gathered_is k =
      let s = scans rate d l c in
      ap (λ (t : List Seen). mine k (all before ++ t)) (ap frames_in records_are ∙ frames-call s.heard (messages rate c s))
      ∙ sym ((scanned-keeps rate d (all before) (pushed before) l st c).views k)

  now_is : 1 ≤ rate → now_after rate (before ++ (turn 0 ∷ [])) ≡ now rate (scans rate d l c)
  unfolding now seconds pushed after_call closed
  now_is pos = ap (λ (n : ℕ). seconds rate n) count
    where
      count : pushed (before ++ (turn 0 ∷ [])) ≡ (scans rate d l c).base + length (scans rate d l c).held
      count =
          let h = ((turn_stand rate d (all before) (pushed before) l st c 0).clock pos).1 in
          pushed-join before (turn 0 ∷ []) ∙ omega (arith, h)

  -- ---- a message of the call

  only_then : 1 ≤ rate → (a b : List Seen) (m : SeenMessage) → (turn 0).records ≡ a ++ message m ∷ b
      → Due rate before (turn 0) (gathered before (turn 0) m.key) × (mine m.key (all before ++ a) ≡ gathered before (turn 0) m.key)
  unfolding messages
  only_then pos a b m e =
      let s = scans rate d l c in
      let p = ready by_frames c (now rate s) in
      let w = scanned-keeps rate d (all before) (pushed before) l st c in
      let i = find-message s.heard (messages rate c s) a b m (sym records_are ∙ e) in
      let n = i.found in
      let k : m.key ≡ message_key n = ap (λ (x : SeenMessage). x.key) i.seen ∙ note-key n in
      let j = chosen_at p s.waiting i.front i.behind n w.once i.there in
      let g : gathered before (turn 0) m.key ≡ seen_frames n = ap (λ (t : Key). gathered before (turn 0) t) k ∙ gathered_is (message_key n) ∙ j.1 in
      let f = all before ++ heard_seen s.heard in
      let u : mine (message_key n) (all before ++ a) ≡ view (message_key n) s.waiting =
      ap (λ (t : List Seen). mine (message_key n) (all before ++ t)) i.before
      ∙ ap (mine (message_key n)) (sym (append_assoc (all before) (heard_seen s.heard) (notes i.front)))
      ∙ mine-join (message_key n) f (notes i.front) j.0
      ∙ rw (mine-notes (message_key n) i.front) (append-nil (mine (message_key n) f))
      ∙ sym (w.views (message_key n)) in
      (rw g (rw (now_is pos) (ready-due c (now rate s) n j.2)), ap (λ (t : Key). mine t (all before ++ a)) k ∙ u ∙ j.1 ∙ sym g)

  -- ---- what is due is written

  then_written : 1 ≤ rate → (k : Key) → (gathered before (turn 0) k ≡ [] → ⊥) → Due rate before (turn 0) (gathered before (turn 0) k) → written k (turn 0).records ≡ true
  unfolding messages
  then_written pos k some due =
      let s = scans rate d l c in
      let g = gathered_is k in
      let w = chosen_has (ready by_frames c (now rate s)) k s.waiting (λ e. some (g ∙ e))
      (λ m v. due-ready c (now rate s) m (rw (now_is pos) at (rw (g ∙ v) at due))) in
      rw (records_are, written-join k (heard_seen s.heard) (notes (messages rate c s)), w) (or-true (written k (heard_seen s.heard)))

  -- ---- a flush leaves nothing

  flushed : c ≡ flush → (k : Key) → mine k (all before ++ (turn 0).records) ≡ []
  unfolding after_call closed view
  flushed e k =
      let s = scans rate d l c in
      sym ((turn_stand rate d (all before) (pushed before) l st c 0).keeps.views k)
      ∙ ap (view k) (none_left c e (now rate s) s.waiting)
    where
      none_left : (c : Call) → c ≡ flush → (t : Float) (l : List Message) → others (ready by_frames c t) l ≡ []
      none_left c e t l = rw e (others_all by_frames t l)

  -- ---- with any number, pos being what acceptance says of the rate

  pub only_then_at : (k : ℕ) (pos : k ≡ 0 → 1 ≤ rate) (a b : List Seen) (m : SeenMessage) → (turn k).records ≡ a ++ message m ∷ b
      → (k ≡ 0) × Due rate before (turn k) (gathered before (turn k) m.key) × (mine m.key (all before ++ a) ≡ gathered before (turn k) m.key)
  only_then_at zero pos a b m e = let h = only_then (pos refl) a b m e in (refl, h.0, h.1)
  only_then_at (suc k) pos a b m e = none a (sym (refused (suc k) (λ h. omega arith)) ∙ e)
    where
      none : {X : Type 0} (a : List Seen) → [] ≡ a ++ message m ∷ b → X
      none [] e = nothing_of (message m) b (sym e)
      none (r ∷ a) e = nothing_of r (a ++ message m ∷ b) (sym e)

  pub then_written_at : (n : ℕ) → (n ≡ 0 → 1 ≤ rate) → n ≡ 0 → (k : Key) → (gathered before (turn n) k ≡ [] → ⊥) → Due rate before (turn n) (gathered before (turn n) k)
      → written k (turn n).records ≡ true
  then_written_at zero pos e k some due = then_written (pos refl) k some due
  then_written_at (suc n) pos e k some due = absurd (omega arith)

  pub flushed_at : (n : ℕ) → n ≡ 0 → c ≡ flush → (k : Key) → mine k (all before ++ (turn n).records) ≡ []
  flushed_at zero z e k = flushed e k
  flushed_at (suc n) z e k = absurd (omega arith)
