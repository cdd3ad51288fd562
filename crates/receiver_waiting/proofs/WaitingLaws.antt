-- Open messages in an array, on plain lists. Assumes nothing.
use Rattle.std.proofs.Common.{None}
use mathlib.Core.Bool.{Bool, ◌&&◌, ◌||◌, false, true}
use mathlib.Core.List.{List, [], ◌++◌, ◌∷◌, append-nil, map}
use mathlib.Core.Logic.{◌⊎◌, inl, inr, ⊎_elim}
use mathlib.Core.Path.{◌∙◌, ◌≡◌, ap, ap₂, refl, subst, sym}
use Prim.Native.Nat.{◌*◌, ◌+◌, ◌<◌, ◌≤◌, suc, ℕ}
use native.Mathlib.Nat.{le_of_suc-le-suc, not-suc-le-zero}
use native.Mathlib.Numerals.{add-one}
use native.Mathlib.Omega.{arith}
use lib.Dec.{eqb}
use lib.Ieee.{Float, binary32, binary64, nan, of_bits, of_int, round}
use lib.IntN.{pos}
use lib.ListN.{drop, get_or, length, length-append, set, take}
use lib.Seq.{drop-cons, drop-length, get_or-take, length-take-le, take-append_seam, take-length, take-set-lt, take-suc}
use Rattle.std.specs.List.{list_any}
use borrow.Author.Tests.{eq-eqb, eqb-false, eqb-true, le-leb, lt-leb, ne_eqb}
use Rattle.floats.specs.Number.{num}
use Rattle.ledger.specs.Causes.{all_fit, any_nan, entry_fits, entry_nan, most_waiting, unlike, waits}
use Rattle.ledger.specs.Frames.{Frame, key_of}
use Rattle.ledger.specs.Ledger.{by_entry, chosen, join, others}
use Rattle.ledger.specs.Merge.{entry_key, expires, merge, open_entry}
use Rattle.ledger.specs.Room.{open_places}
use Rattle.receiver_message.specs.Messages.{frame_of}
use Rattle.ledger.proofs.Basics as basics
use Rattle.ledger.proofs.Opens.{waiting_one}
use Rattle.receiver_starts.proofs.Places.{laid_over, store_next, take-few, take_store}
use Rattle.receiver_waiting.specs.Waiting.{Checked, Counters, Seen, any_expires, distinct, find_key, key_is, key_number, leaves, number_in, over, waiting_of}
use Rattle.ledger.specs.declared.Pending.{Pending}
use Rattle.frame.specs.declared.UplinkFrame.{UplinkFrame}
use Rattle.record.specs.declared.Reception.{Reception}
use Rattle.receiver_waiting.specs.declared.Waiting.{Waiting}
use Rattle.receiver_waiting.specs.declared.Leaving.TheVariants.{CompleteAt}
use Rattle.receiver_waiting.specs.declared.Looked.{Looked}
use Rattle.receiver_waiting.specs.declared.Condition.{Condition}

either : (b : Bool) → (b ≡ true) ⊎ (b ≡ false)
either true = inl refl
either false = inr refl

-- the check's value for a place outside an array
abbrev pub outside-message : Pending
outside-message =
    record {
      message =
          record {
            device_id = 0;
            counter = 0;
            payload = [];
            payload_len = 0;
            bit = None;
            downlink = false;
            control = false;
            auth = [];
            auth_len = 0;
            time = nan;
            first_frame_end = None;
            rssi = nan;
            spans = [];
            clock_error_ppm = pos 0;
            start = 0;
            depth = 0;
          };
      last = nan;
    }

-- ---- a search

module _ (l : List Pending) (i d c : ℕ) (z : Pending) (here : i < length l) where
  pub find_hit : key_is d c (get_or l i z) ≡ true → find_key d c (drop i l) ≡ 0
  unfolding find_key
  find_hit e = rw (drop-cons l i z here, e) refl

  pub find_miss : key_is d c (get_or l i z) ≡ false → find_key d c (drop i l) ≡ suc (find_key d c (drop (i + 1) l))
  unfolding find_key
  find_miss e = rw (drop-cons l i z here, e, add-one) refl

pub find_none : (l : List Pending) (d c : ℕ) → find_key d c (drop (length l) l) ≡ 0
unfolding find_key
find_none l d c = rw (drop-length l) refl

-- ---- a frame joins

module _ (f : UplinkFrame) (r : Reception) where
  join_there : (l : List Pending) (z : Pending) → find_key f.device_id f.counter l < length l
      → join by_entry (frame_of f r) l
      ≡ set l (find_key f.device_id f.counter l) (merge (get_or l (find_key f.device_id f.counter l) z) (frame_of f r))
  unfolding find_key join key_of entry_key
  join_there [] z h = absurd (not-suc-le-zero h)
  join_there (p ∷ l) z h =
      ⊎_elim
      (λ e. rw e refl)
      (λ e. rw e (ap (λ (k : List Pending). p ∷ k) (join_there l z (le_of_suc-le-suc (rw e at h)))))
      (either (key_is f.device_id f.counter p))

  join-opens : (l : List Pending) → length l ≤ find_key f.device_id f.counter l → join by_entry (frame_of f r) l ≡ l ++ (open_entry (frame_of f r) ∷ [])
  unfolding find_key join key_of entry_key
  join-opens [] h = refl
  join-opens (p ∷ l) h =
      ⊎_elim
      (λ e. absurd (not-suc-le-zero (rw e at h)))
      (λ e. rw e (ap (λ (k : List Pending). p ∷ k) (join-opens l (le_of_suc-le-suc (rw e at h)))))
      (either (key_is f.device_id f.counter p))

  pub joined_at : (l : List Pending) (n k : ℕ) (v z : Pending) → n ≤ length l → k ≡ find_key f.device_id f.counter (take n l) → k < n
      → v ≡ merge (get_or l k z) (frame_of f r) → take n (set l k v) ≡ join by_entry (frame_of f r) (take n l)
  joined_at l n k v z fits e h j =
      let m : length (take n l) ≡ n = length-take-le n l fits in
      rw (take-set-lt n l k v h, j)
      (sym (join_there (take n l) z (rw (← e, m) h) ∙ rw (← e, get_or-take n l k z h) refl))

  pub opened_at : (l : List Pending) (n : ℕ) (v : Pending) → n < length l → n ≤ find_key f.device_id f.counter (take n l)
      → v ≡ open_entry (frame_of f r) → take (n + 1) (set l n v) ≡ join by_entry (frame_of f r) (take n l)
  opened_at l n v h k j =
      let m : length (take n l) ≡ n = length-take-le n l (omega arith) in
      rw (take_store l n v h, j) (sym (join-opens (take n l) (rw m k)))

-- ---- the array, by what it stands for and by the places behind

pub over_by : (w t : Waiting) (l : List Pending) → t.count ≤ length t.messages → waiting_of t ≡ l → drop t.count t.messages ≡ drop t.count w.messages
    → t ≡ over w l
unfolding over
over_by w t l h e f =
    let p = laid_over t.messages w.messages l t.count h e f in
    ap₂ (λ (x : List Pending) (n : ℕ). record { messages = x; count = n }) p.1 p.0

pub stands : (w t : Waiting) (l : List Pending) → t ≡ over w l → (waiting_of t ≡ l) × (t.count ≡ length l)
unfolding over
stands w t l e = (ap waiting_of e ∙ take-append_seam l (drop (length l) w.messages), ap (λ (x : Waiting). x.count) e)

-- a frame opens one message at most
pub joined-few : (w t : Waiting) (f : Frame) → t ≡ over w (join by_entry f (waiting_of w)) → t.count ≤ w.count + 1
joined-few w t f e =
    omega (arith, (stands w t (join by_entry f (waiting_of w)) e).1, waiting_one by_entry f true (waiting_of w), take-few w.count w.messages)

-- ---- the end of a call

module _ (l : List Pending) (i : ℕ) (now : Float) (z : Pending) (here : i < length l) where
  pub expires_hit : expires now (get_or l i z) ≡ true → any_expires now (drop i l) ≡ true
  unfolding any_expires
  expires_hit e = rw (drop-cons l i z here, e) refl

  pub expires_miss : expires now (get_or l i z) ≡ false → any_expires now (drop i l) ≡ any_expires now (drop (i + 1) l)
  unfolding any_expires
  expires_miss e = rw (drop-cons l i z here, e, add-one) refl

-- a push keeps every message where none is complete
pub none_expires : (now : Float) (l : List Pending) → any_expires now l ≡ false → (chosen (leaves (CompleteAt now)) l ≡ []) × (others (leaves (CompleteAt now)) l ≡ l)
unfolding any_expires chosen others leaves
none_expires now [] e = (refl, refl)
none_expires now (p ∷ l) e =
    let o = basics.or_false (expires now p) (any_expires now l) e in
    let r = none_expires now l o.1 in
    (rw o.0 r.0, rw (o.0, r.1) refl)

others-join : (p : Pending → Bool) (l : List Pending) (x : Pending) → others p (l ++ (x ∷ [])) ≡ others p l ++ others p (x ∷ [])
unfolding others
others-join p [] x = refl
others-join p (m ∷ l) x = ⊎_elim (λ e. rw e (others-join p l x)) (λ e. rw e (ap (λ (k : List Pending). m ∷ k) (others-join p l x))) (either (p m))

-- k of the first i messages stay; they stand in the first places t of the old ones
pub record Kept (p : Pending → Bool) (ms old t : List Pending) (i k : ℕ) : Type 0 where
  pub count : length (others p (take i ms)) ≡ k
  pub places : t ≡ others p (take i ms) ++ drop k old

module _ (p : Pending → Bool) (ms old t : List Pending) (i k : ℕ) (z : Pending) (here : i < length ms) (s : Kept p ms old t i k) where
  one_more : others p (take (i + 1) ms) ≡ others p (take i ms) ++ others p (get_or ms i z ∷ [])
  one_more = rw (add-one, take-suc ms i z here) (others-join p (take i ms) (get_or ms i z))

  pub keep-leaves : p (get_or ms i z) ≡ true → Kept p ms old t (i + 1) k
  unfolding others
  keep-leaves e =
      let q : others p (take (i + 1) ms) ≡ others p (take i ms) = one_more ∙ rw e (append-nil (others p (take i ms))) in
      record { count = rw q s.count; places = rw q s.places }

  pub keep-stays : k < length old → p (get_or ms i z) ≡ false → Kept p ms old (set t k (get_or ms i z)) (i + 1) (k + 1)
  unfolding others
  keep-stays h e =
      let q : others p (take (i + 1) ms) ≡ others p (take i ms) ++ (get_or ms i z ∷ []) = one_more ∙ rw e refl in
      record {
        count = rw q (length-append (others p (take i ms)) (get_or ms i z ∷ []) ∙ rw s.count refl);
        places = rw (q, s.places) (store_next (others p (take i ms)) old k (get_or ms i z) s.count h);
      }

pub keep_none : (p : Pending → Bool) (ms old : List Pending) → Kept p ms old old 0 0
unfolding others
keep_none p ms old = record { count = refl; places = refl }

pub keep_all : (p : Pending → Bool) (ms : List Pending) (old : Waiting) (t : List Pending) (i k : ℕ) → i ≡ length ms → Kept p ms old.messages t i k
    → ◌≡◌ {A = Waiting} (record { messages = t; count = k }) (over old (others p ms))
unfolding over
keep_all p ms old t i k e s =
    let c : length (others p ms) ≡ k = (rw (e, take-length ms) at s.count) in
    let q : t ≡ others p ms ++ drop k old.messages = (rw (e, take-length ms) at s.places) in
    rw (c, q) refl

-- ---- one look at every message

map-join : {A B : Type 0} (f : A → B) (l k : List A) → map f (l ++ k) ≡ map f l ++ map f k
map-join f [] k = refl
map-join f (x ∷ l) k = ap (λ t. f x ∷ t) (map-join f l k)

pub key-turn : (keys : List ℕ) (l : List Pending) (i v : ℕ) (z : Pending) → i < length keys → i < length l
    → take i keys ≡ map key_number (take i l) → v ≡ key_number (get_or l i z) → take (i + 1) (set keys i v) ≡ map key_number (take (i + 1) l)
key-turn keys l i v z hk hl e q =
    take_store keys i v hk
    ∙ rw (e, q, add-one, take-suc l i z hl) (sym (map-join key_number (take i l) (get_or l i z ∷ [])))

counters-join : (l : List Pending) (p : Pending) → Counters l → p.message.counter < 65536 → Counters (l ++ (p ∷ []))
counters-join [] p c h = (h, tt)
counters-join (x ∷ l) p c h = (c.0, counters-join l p c.1 h)

pub counters-turn : (l : List Pending) (i : ℕ) (z : Pending) → i < length l → Counters (take i l) → (get_or l i z).message.counter < 65536
    → Counters (take (i + 1) l)
counters-turn l i z h c b =
    let e : take (i + 1) l ≡ take i l ++ (get_or l i z ∷ []) = rw add-one (take-suc l i z h) in
    subst (λ (x : List Pending). Counters x) (sym e) (counters-join (take i l) (get_or l i z) c b)

and_assoc : (a b c : Bool) → (a && b) && c ≡ a && (b && c)
and_assoc true b c = refl
and_assoc false b c = refl

and_true : (a : Bool) → a && true ≡ a
and_true true = refl
and_true false = refl

or_assoc : (a b c : Bool) → (a || b) || c ≡ a || (b || c)
or_assoc true b c = refl
or_assoc false b c = refl

or_false : (a : Bool) → a || false ≡ a
or_false true = refl
or_false false = refl

module _ (l : List Pending) (i : ℕ) (z : Pending) (here : i < length l) (b r w : Bool) where
  pub fit-turn : r ≡ entry_fits (get_or l i z) → b && all_fit by_entry (drop i l) ≡ w → (b && r) && all_fit by_entry (drop (i + 1) l) ≡ w
  unfolding all_fit
  fit-turn e p =
      rw (e, add-one) (and_assoc b (entry_fits (get_or l i z)) (all_fit by_entry (drop (suc i) l)) ∙ (rw (drop-cons l i z here) at p))

  pub nan-turn : r ≡ entry_nan (get_or l i z) → b || any_nan by_entry (drop i l) ≡ w → (b || r) || any_nan by_entry (drop (i + 1) l) ≡ w
  unfolding any_nan
  nan-turn e p =
      rw (e, add-one) (or_assoc b (entry_nan (get_or l i z)) (any_nan by_entry (drop (suc i) l)) ∙ (rw (drop-cons l i z here) at p))

  pub expires-turn : (now : Float) → r ≡ expires now (get_or l i z) → b || any_expires now (drop i l) ≡ w → (b || r) || any_expires now (drop (i + 1) l) ≡ w
  unfolding any_expires
  expires-turn now e p =
      rw (e, add-one) (or_assoc b (expires now (get_or l i z)) (any_expires now (drop (suc i) l)) ∙ (rw (drop-cons l i z here) at p))

pub seen_is : (l : List Pending) (now : Float) (r : Looked) (i : ℕ) → i ≡ length l → take i r.keys ≡ map key_number (take i l) → Counters (take i l)
    → r.fit && all_fit by_entry (drop i l) ≡ all_fit by_entry l → r.nan || any_nan by_entry (drop i l) ≡ any_nan by_entry l
    → r.expires || any_expires now (drop i l) ≡ any_expires now l → Seen l now r
unfolding all_fit any_nan any_expires
seen_is l now r i e k c f a x =
    record {
      keys = rw (e, take-length l) at k;
      counters = rw (e, take-length l) at c;
      fit = sym (and_true r.fit) ∙ (rw (e, drop-length l) at f);
      nan = sym (or_false r.nan) ∙ (rw (e, drop-length l) at a);
      expires = sym (or_false r.expires) ∙ (rw (e, drop-length l) at x);
    }

-- ---- keys

pub number_in_is : (k : ℕ) (l : List ℕ) → list_any (λ y. eqb y k) l ≡ number_in k l
unfolding number_in
number_in_is k [] = refl
number_in_is k (x ∷ l) = ap (λ b. eqb x k || b) (number_in_is k l)

module _ (l : List ℕ) (i : ℕ) (here : i < length l) where
  pub distinct_not : number_in (get_or l i 0) (drop (i + 1) l) ≡ true → distinct (drop i l) ≡ false
  unfolding distinct
  distinct_not e = let q : number_in (get_or l i 0) (drop (suc i) l) ≡ true = (rw add-one at e) in rw (drop-cons l i 0 here, q) refl

  pub distinct_more : number_in (get_or l i 0) (drop (i + 1) l) ≡ false → distinct (drop i l) ≡ distinct (drop (i + 1) l)
  unfolding distinct
  distinct_more e = let q : number_in (get_or l i 0) (drop (suc i) l) ≡ false = (rw add-one at e) in rw (drop-cons l i 0 here, q, add-one) refl

same_number : (d c e b : ℕ) → c < 65536 → b < 65536 → eqb d e && eqb c b ≡ eqb (d * 65536 + c) (e * 65536 + b)
same_number d c e b hc hb =
    ⊎_elim
    (λ p.
    let x = eqb-true d e p in
    ⊎_elim
    (λ q. let y = eqb-true c b q in rw (p, q) (sym (eq-eqb (d * 65536 + c) (e * 65536 + b) (omega arith))))
    (λ q. let y = eqb-false c b q in rw (p, q) (sym (ne_eqb (d * 65536 + c) (e * 65536 + b) (λ h. y (omega arith)))))
    (either (eqb c b)))
    (λ p. let x = eqb-false d e p in rw p (sym (ne_eqb (d * 65536 + c) (e * 65536 + b) (λ h. x (omega arith)))))
    (either (eqb d e))

waits_is : (p : Pending) (l : List Pending) → p.message.counter < 65536 → Counters l
    → waits by_entry (entry_key p) l ≡ number_in (key_number p) (map key_number l)
unfolding waits number_in entry_key
waits_is p [] h c = refl
waits_is p (m ∷ l) h c =
    rw (same_number m.message.device_id m.message.counter p.message.device_id p.message.counter c.0 h, waits_is p l h c.1) refl

pub unlike_is : (l : List Pending) → Counters l → unlike by_entry l ≡ distinct (map key_number l)
unfolding unlike distinct
unlike_is [] c = refl
unlike_is (m ∷ l) c = rw (waits_is m l c.0 c.1, unlike_is l c.1) refl

-- ---- a state's messages

pub none_wait : (w : Waiting) (now : Float) → w.count ≡ 0 → Checked w now (record { ok = true; nan = false; expires = false })
unfolding unlike all_fit any_nan any_expires
none_wait w now e =
    let h = le-leb w.count most_waiting (omega (arith, e)) in
    record { ok = rw (h, e) refl; nan = rw (h, e) refl; expires = rw (h, e) refl }

pub too_many : (w : Waiting) (now : Float) → most_waiting < w.count → Checked w now (record { ok = false; nan = false; expires = false })
too_many w now h =
    let e = lt-leb w.count most_waiting h in
    record { ok = rw e refl; nan = rw e refl; expires = rw e refl }

pub checked_is : (w : Waiting) (now : Float) (l : Looked) (d : Bool) (r : Condition) → w.count ≤ most_waiting → length w.messages ≡ open_places
    → Seen (waiting_of w) now l → d ≡ distinct (take w.count l.keys) → r ≡ record { ok = d && l.fit; nan = l.nan; expires = l.expires } → Checked w now r
checked_is w now l d r h n s e q =
    let m : length (waiting_of w) ≡ w.count = length-take-le w.count w.messages (omega arith) in
    let k : take w.count l.keys ≡ map key_number (waiting_of w) = (rw m at s.keys) in
    record {
      ok = rw (q, e, k, s.fit, le-leb w.count most_waiting h, unlike_is (waiting_of w) s.counters) refl;
      nan = rw (q, le-leb w.count most_waiting h) s.nan;
      expires = rw (q, le-leb w.count most_waiting h) s.expires;
    }

-- ---- values of the code

pub zero_is : of_bits binary64 0 ≡ num 0
unfolding of_bits of_int round
zero_is = refl

pub zero32_is : of_bits binary32 0 ≡ num 0
unfolding of_bits of_int round
zero32_is = refl
