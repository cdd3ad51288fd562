-- The entry that the Rust merges of a list of frames: its first frame's fields, its ranks, its RSSI, the time of the last.
use mathlib.Core.Path.{◌≡◌, refl, ap, ◌∙◌}
use mathlib.Core.List.{List, [], ◌∷◌, ◌++◌}
use mathlib.Core.Bool.{Bool, true, false, ◌||◌, or_assoc, or_comm}
use Prim.Native.Nat.{ℕ, zero, suc, ◌≤◌}
use native.Mathlib.Omega.{arith}
use lib.ListN.{length}
use lib.Dec.{leb, eqb}
use lib.Ieee.{Float}
use borrow.Author.Tests.{le-leb}
use Rattle.frame.specs.Sizes.{most_payload, most_auth}
use Rattle.ledger.specs.Types.{Pending}
use Rattle.ledger.specs.Frames.{Frame, key_of, rank_of, rssi_of, time_of, start_of}
use Rattle.ledger.specs.Merge.{entry_key, has, three_ranks, louder, open_entry, merge, merge_all, expires, finished}
use Rattle.ledger.specs.Ledger.{Message, frames, message_key, summary, ranked, latest, complete}
use Rattle.ledger.specs.Causes.{spans_fit, in_front, entry_fits}
use Rattle.ledger.proofs.Basics.{and_true, Every}
use Rattle.ledger.proofs.Spans.{meet-length, meet-fit, meet-front, has_meet, open_has, open-spans, open-front, any_kept}

-- ---- frames that fit: rank 0 to 2, payload at most 12 and auth at most 5 bytes

pub record FrameFits (f : Frame) : Type 0 where
  pub rank : rank_of f ≤ 2
  pub payload : f.uplink.payload_len ≤ most_payload
  pub auth : f.uplink.auth_len ≤ most_auth

fits-parts : (e : Pending) → entry_fits e ≡ true
    → (has 0 e.message.spans || (has 1 e.message.spans || has 2 e.message.spans) ≡ true) × (spans_fit e.message.spans ≡ true)
    × (in_front e.message.spans ≡ true) × (leb e.message.payload_len most_payload ≡ true) × (leb e.message.auth_len most_auth ≡ true)
unfolding entry_fits
fits-parts e h =
    let a = and_true (has 0 e.message.spans || (has 1 e.message.spans || has 2 e.message.spans)) _ h in
    let b = and_true (spans_fit e.message.spans) _ a.1 in
    let c = and_true (in_front e.message.spans) _ b.1 in
    let d = and_true (leb e.message.payload_len most_payload) (leb e.message.auth_len most_auth) c.1 in
    (a.0, b.0, c.0, d.0, d.1)

parts-fit : (e : Pending) → has 0 e.message.spans || (has 1 e.message.spans || has 2 e.message.spans) ≡ true → spans_fit e.message.spans ≡ true
    → in_front e.message.spans ≡ true → leb e.message.payload_len most_payload ≡ true → leb e.message.auth_len most_auth ≡ true → entry_fits e ≡ true
unfolding entry_fits
parts-fit e p q o r s = rw (p, q, o, r) s

pub open-fits : (f : Frame) → FrameFits f → entry_fits (open_entry f) ≡ true
unfolding open_entry
open-fits f h =
    parts-fit (open_entry f)
    (rw (open_has 0 f (omega arith), open_has 1 f (omega arith), open_has 2 f (omega arith)) (some-rank (rank_of f) h.rank))
    (open-spans f h.rank) (open-front f) (le-leb f.uplink.payload_len most_payload h.payload) (le-leb f.uplink.auth_len most_auth h.auth)
  where
    some-rank : (r : ℕ) → r ≤ 2 → eqb r 0 || (eqb r 1 || eqb r 2) ≡ true
    some-rank zero h = refl
    some-rank (suc zero) h = refl
    some-rank (suc (suc zero)) h = refl
    some-rank (suc (suc (suc r))) h = absurd (omega arith)

pub merge-fits : (e : Pending) (f : Frame) → FrameFits f → entry_fits e ≡ true → entry_fits (merge e f) ≡ true
unfolding merge
merge-fits e f h w =
    let p = fits-parts e w in
    parts-fit (merge e f) (any_kept e.message.spans f p.0) (meet-fit e.message.spans f h.rank p.1) (meet-front e.message.spans f h.rank p.2) p.3 p.4

-- ---- the entry of a list of frames

pub merge_snoc : (e : Pending) (l : List Frame) (f : Frame) → merge_all e (l ++ (f ∷ [])) ≡ merge (merge_all e l) f
unfolding merge_all
merge_snoc e [] f = refl
merge_snoc e (g ∷ l) f = merge_snoc (merge e g) l f

-- what stays the first frame's
pub record Same (e d : Pending) : Type 0 where
  pub key : entry_key d ≡ entry_key e
  pub payload : d.message.payload ≡ e.message.payload
  pub auth : d.message.auth ≡ e.message.auth
  pub time : d.message.time ≡ e.message.time
  pub start : d.message.start ≡ e.message.start
  pub depth : d.message.depth ≡ e.message.depth

all_same : (e : Pending) (l : List Frame) → Same e (merge_all e l)
unfolding merge_all merge entry_key
all_same e [] = record { key = refl; payload = refl; auth = refl; time = refl; start = refl; depth = refl }
all_same e (f ∷ l) =
    let i = all_same (merge e f) l in
    record { key = i.key; payload = i.payload; auth = i.auth; time = i.time; start = i.start; depth = i.depth }

pub summary-key : (m : Message) → entry_key (summary m) ≡ message_key m
unfolding open_entry key_of entry_key
summary-key m = (all_same (open_entry m.first) m.more).key

pub summary-payload : (m : Message) → (summary m).message.payload ≡ m.first.uplink.payload
unfolding open_entry
summary-payload m = (all_same (open_entry m.first) m.more).payload

pub summary-auth : (m : Message) → (summary m).message.auth ≡ m.first.uplink.auth
unfolding open_entry
summary-auth m = (all_same (open_entry m.first) m.more).auth

pub summary-time : (m : Message) → (summary m).message.time ≡ time_of m.first
unfolding open_entry time_of
summary-time m = (all_same (open_entry m.first) m.more).time

pub summary_start : (m : Message) → (summary m).message.start ≡ start_of m.first
unfolding open_entry start_of
summary_start m = (all_same (open_entry m.first) m.more).start

-- "a message has its first frame's" (02, request 05), as it is written
pub message-depth : (m : Message) → (finished (summary m)).depth ≡ m.first.reception.depth
unfolding open_entry finished
message-depth m = (all_same (open_entry m.first) m.more).depth

all_last : (e : Pending) (g : Frame) (l : List Frame) → e.last ≡ time_of g → (merge_all e l).last ≡ time_of (latest g l)
unfolding merge_all merge latest
all_last e g [] q = q
all_last e g (f ∷ l) q = all_last (merge e f) f l refl

pub summary_last : (m : Message) → (summary m).last ≡ time_of (latest m.first m.more)
unfolding open_entry time_of
summary_last m = all_last (open_entry m.first) m.first m.more refl

-- the greater of what was and the next frame's
unfoldable pub loudest : Float → List Frame → Float
loudest v [] = v
loudest v (f ∷ l) = loudest (louder v (rssi_of f)) l

all_rssi : (e : Pending) (l : List Frame) → (merge_all e l).message.rssi ≡ loudest e.message.rssi l
unfolding merge_all merge loudest
all_rssi e [] = refl
all_rssi e (f ∷ l) = all_rssi (merge e f) l

pub summary-rssi : (m : Message) → (summary m).message.rssi ≡ loudest (rssi_of m.first) m.more
unfolding open_entry rssi_of
summary-rssi m = all_rssi (open_entry m.first) m.more

-- ---- ranks

abbrev pub RanksFit : List Frame → Type 0
RanksFit l = Every (λ f. rank_of f ≤ 2) l

all_has : (r : ℕ) (e : Pending) (l : List Frame) → r ≤ 2 → length e.message.spans ≡ 3 → spans_fit e.message.spans ≡ true → RanksFit l
    → has r (merge_all e l).message.spans ≡ has r e.message.spans || ranked r l
unfolding merge_all merge ranked
all_has r e [] h n q w = or_comm false (has r e.message.spans)
all_has r e (f ∷ l) h n q w =
    all_has r (merge e f) l h (meet-length e.message.spans f ∙ n) (meet-fit e.message.spans f w.0 q) w.1
    ∙ ap (λ (t : Bool). t || ranked r l) (has_meet r e.message.spans f n q w.0 h)
    ∙ or_assoc (has r e.message.spans) (eqb (rank_of f) r) (ranked r l)

-- three places, of different ranks
all_fit : (e : Pending) (l : List Frame) → length e.message.spans ≡ 3 → spans_fit e.message.spans ≡ true → RanksFit l
    → (length (merge_all e l).message.spans ≡ 3) × (spans_fit (merge_all e l).message.spans ≡ true)
unfolding merge_all merge
all_fit e [] n q w = (n, q)
all_fit e (f ∷ l) n q w = all_fit (merge e f) l (meet-length e.message.spans f ∙ n) (meet-fit e.message.spans f w.0 q) w.1

pub summary-fit : (m : Message) → RanksFit (frames m) → (length (summary m).message.spans ≡ 3) × (spans_fit (summary m).message.spans ≡ true)
unfolding open_entry
summary-fit m w = all_fit (open_entry m.first) m.more refl (open-spans m.first w.0) w.1

pub summary-ranks : (r : ℕ) (m : Message) → r ≤ 2 → RanksFit (frames m) → has r (summary m).message.spans ≡ ranked r (frames m)
unfolding open_entry ranked
summary-ranks r m h w =
    all_has r (open_entry m.first) m.more h refl (open-spans m.first w.0) w.1
    ∙ ap (λ (t : Bool). t || ranked r m.more) (open_has r m.first h)

pub summary-complete : (t : Float) (m : Message) → RanksFit (frames m) → expires t (summary m) ≡ complete t m
unfolding expires three_ranks complete
summary-complete t m w =
    rw (summary-ranks 0 m (omega arith) w, summary-ranks 1 m (omega arith) w, summary-ranks 2 m (omega arith) w, summary_last m) refl
