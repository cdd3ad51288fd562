-- The frames that joined last: those of two open messages start at least 0.3 s apart, and each has its time by its start.
use Rattle.std.proofs.Common.{Option, None, Some}
use mathlib.Core.Path.{◌≡◌, refl}
use mathlib.Core.Logic.{⊎_elim}
use mathlib.Core.List.{List, [], ◌∷◌, ◌++◌, map}
use mathlib.Core.Bool.{Bool, true, false, cond}
use Prim.Native.Nat.{ℕ, zero, suc, ◌+◌, ◌*◌, ◌≤◌, ◌<◌}
use native.Mathlib.Omega.{arith}
use lib.ListN.{length, drop}
use lib.Dec.{leb, eqb}
use lib.Ieee.{Float, binary64, add, div}
use borrow.Author.Tests.{ltb-false, le-ltb}
use Rattle.floats.specs.Number.{num}
use Rattle.ledger.specs.Types.{DecodedFrame, Burst}
use Rattle.ledger.specs.Frames.{same, Frame, frame_at, key_of, right_crc, time_of, start_of}
use Rattle.ledger.specs.Ledger as ledger
use Rattle.ledger.specs.Ledger.{Message, message_key, latest, by_frames, Demod, capacity, tail, dist, close, seconds, near, spaced, Ledger, join, Call, push, flush, others, hear, remember, takes, take_one, take_each, forget, scan, halve, amount, scanned, due, fill, fills, start_call, scans}
use Rattle.ledger.specs.Room.{Fair}
use Rattle.ledger.proofs.Basics.{either, or_false, Every}
use Rattle.ledger.proofs.Spacing.{near-join, spaced-cons, Far, from_far, far_more, taken}
use Rattle.ledger.proofs.Bursts.{Proper, proper}
use Rattle.ledger.proofs.Sizes.{halve-less, halve-sum, add-length, amount-room, fill-small}
use Rattle.ledger.proofs.Opens.{others_yes, others_no, join_at, join_past}

-- ---- numbers that are pairwise at least 0.3 s apart

module _ (rate : ℕ) where
  abbrev pub Apart : List ℕ → Type 0
  Apart [] = Unit
  Apart (s ∷ l) = (near rate l s ≡ false) × Apart l

  close_sym : (a b : ℕ) → close rate a b ≡ false → close rate b a ≡ false
  close_sym a b e = let h = ltb-false (10 * dist a b) (3 * rate) e in le-ltb (10 * dist b a) (3 * rate) (omega arith)

  near-head : (s : ℕ) (l : List ℕ) (x : ℕ) → near rate (s ∷ l) x ≡ false → (close rate s x ≡ false) × (near rate l x ≡ false)
  unfolding near
  near-head s l x e = or_false (close rate s x) (near rate l x) e

  near-cons : (s : ℕ) (l : List ℕ) (x : ℕ) → close rate s x ≡ false → near rate l x ≡ false → near rate (s ∷ l) x ≡ false
  unfolding near
  near-cons s l x p q = rw p q

  -- none of l is near one of acc
  abbrev Clear : List ℕ → List ℕ → Type 0
  Clear acc l = Every (λ x. near rate acc x ≡ false) l

  clear_more : (acc : List ℕ) (s : ℕ) (l : List ℕ) → Clear acc l → near rate l s ≡ false → Clear (acc ++ (s ∷ [])) l
  unfolding near
  clear_more acc s [] c n = tt
  clear_more acc s (x ∷ l) c n =
      let h = near-head x l s n in
      (rw (near-join rate acc (s ∷ []) x, c.0, close_sym x s h.0) refl, clear_more acc s l c.1 h.1)

  apart-spaced : (acc l : List ℕ) → Clear acc l → Apart l → spaced rate acc l ≡ true
  unfolding spaced
  apart-spaced acc [] c w = refl
  apart-spaced acc (s ∷ l) c w = spaced-cons rate acc l s c.0 (apart-spaced (acc ++ (s ∷ [])) l (clear_more acc s l c.1 w.0) w.1)

  none_clear : (l : List ℕ) → Clear [] l
  unfolding near
  none_clear [] = tt
  none_clear (x ∷ l) = (refl, none_clear l)

  pub spaced_of : (l : List ℕ) → Apart l → spaced rate [] l ≡ true
  spaced_of l w = apart-spaced [] l (none_clear l) w

-- ---- the frame that joined last

abbrev pub last_of : Message → Frame
last_of m = latest m.first m.more

abbrev pub lasts : List Message → List ℕ
lasts l = map (λ m. start_of (last_of m)) l

latest_snoc : (f : Frame) (l : List Frame) (g : Frame) → latest f (l ++ (g ∷ [])) ≡ g
unfolding latest
latest_snoc f [] g = refl
latest_snoc f (h ∷ l) g = latest_snoc h l g

-- a frame's time is by its start: base and index as at the scan
abbrev pub Timed : ℕ → Frame → Type 0
Timed rate f = (base : ℕ) × (at : ℕ) × (start_of f ≡ base + at) × (time_of f ≡ add binary64 (seconds rate base) (div binary64 (num at) (num rate)))

-- the demodulation times a frame so
abbrev pub OnTime : ℕ → Demod → Type 0
OnTime rate d = (held : List Float) (t : Float) (b : Burst) (x : DecodedFrame) → d.decode held t b ≡ Some x
    → x.time ≡ add binary64 t (div binary64 (num b.start) (num rate))

-- what is kept of the open messages: their last frames are apart, before hi, and timed
pub record Kept (rate hi : ℕ) (l : List Message) : Type 0 where
  pub apart : Apart rate (lasts l)
  pub each : Every (λ m. (start_of (last_of m) < hi) × Timed rate (last_of m)) l

module _ (rate : ℕ) where
  none_kept : (hi : ℕ) → Kept rate hi []
  none_kept hi = record { apart = tt; each = tt }

  kept_more : (a b : ℕ) (l : List Message) → a ≤ b → Kept rate a l → Kept rate b l
  kept_more a b l h w = record { apart = w.apart; each = more l w.each }
    where
      more : (l : List Message) → Every (λ m. (start_of (last_of m) < a) × Timed rate (last_of m)) l → Every (λ m. (start_of (last_of m) < b) × Timed rate (last_of m)) l
      more [] w = tt
      more (m ∷ l) w = ((omega (arith, w.0.0), w.0.1), more l w.1)

  -- ---- a frame joins

  lasts-joined : (f : Frame) (m : Message) → last_of (record { first = m.first; more = m.more ++ (f ∷ []) }) ≡ f
  lasts-joined f m = latest_snoc m.first m.more f

  near-joined : (f : Frame) (l : List Message) (x : ℕ) → near rate (lasts l) x ≡ false → close rate (start_of f) x ≡ false → near rate (lasts (join by_frames f l)) x ≡ false
  unfolding join latest
  near-joined f [] x n c = near-cons rate (start_of f) [] x c n
  near-joined f (m ∷ l) x n c =
      let h = near-head rate (start_of (last_of m)) (lasts l) x n in
      ⊎_elim
      (λ e. rw (join_at by_frames f m l e, lasts-joined f m) (near-cons rate (start_of f) (lasts l) x c h.1))
      (λ e. rw (join_past by_frames f m l e) (near-cons rate (start_of (last_of m)) (lasts (join by_frames f l)) x h.0 (near-joined f l x h.1 c)))
      (either (same (message_key m) (key_of f)))

  join_kept : (hi : ℕ) (f : Frame) (l : List Message) → near rate (lasts l) (start_of f) ≡ false → start_of f < hi → Timed rate f → Kept rate hi l → Kept rate hi (join by_frames f l)
  unfolding join latest
  join_kept hi f [] n h t w = record { apart = (n, tt); each = ((h, t), tt) }
  join_kept hi f (m ∷ l) n h t w =
      let o = near-head rate (start_of (last_of m)) (lasts l) (start_of f) n in
      let i = join_kept hi f l o.1 h t (record { apart = w.apart.1; each = w.each.1 }) in
      ⊎_elim
      (λ e. rw (join_at by_frames f m l e) (record { apart = rw (lasts-joined f m) (o.1, w.apart.1); each = (rw (lasts-joined f m) (h, t), w.each.1) }))
      (λ e. rw (join_past by_frames f m l e)
      (record { apart = (near-joined f l (start_of (last_of m)) w.apart.0 (close_sym rate (start_of (last_of m)) (start_of f) o.0), i.apart); each = (w.each.0, i.each) }))
      (either (same (message_key m) (key_of f)))

  -- ---- messages are written

  pub near-others : (p : Message → Bool) (l : List Message) (x : ℕ) → near rate (lasts l) x ≡ false → near rate (lasts (others p l)) x ≡ false
  unfolding others
  near-others p [] x n = n
  near-others p (m ∷ l) x n =
      let h = near-head rate (start_of (last_of m)) (lasts l) x n in
      ⊎_elim
      (λ e. rw (others_yes p m l e) (near-others p l x h.1))
      (λ e. rw (others_no p m l e) (near-cons rate (start_of (last_of m)) (lasts (others p l)) x h.0 (near-others p l x h.1)))
      (either (p m))

  pub others_kept : (hi : ℕ) (p : Message → Bool) (l : List Message) → Kept rate hi l → Kept rate hi (others p l)
  unfolding others
  others_kept hi p [] w = w
  others_kept hi p (m ∷ l) w =
      let i = others_kept hi p l (record { apart = w.apart.1; each = w.each.1 }) in
      ⊎_elim
      (λ e. rw (others_yes p m l e) i)
      (λ e. rw (others_no p m l e) (record { apart = (near-others p l (start_of (last_of m)) w.apart.0, i.apart); each = (w.each.0, i.each) }))
      (either (p m))

-- ---- the walk

-- of a ledger; a start behind the base that is near no remembered one is near no last frame's
pub record Lasts (rate : ℕ) (l : Ledger by_frames) : Type 0 where
  pub kept : Kept rate (l.base + length l.held) l.waiting
  pub far : Far rate (lasts l.waiting) l

module _ (rate : ℕ) (d : Demod) (time : OnTime rate d) where
  hear-lasts : (l : Ledger by_frames) (b : Burst) (o : Option DecodedFrame) → d.decode l.held (seconds rate l.base) b ≡ o
      → 0 < b.start → b.start < length l.held → near rate l.starts (l.base + b.start) ≡ false
      → Lasts rate l → Lasts rate (hear (remember l (l.base + b.start)) (l.base + b.start) o)
  unfolding hear remember start_of time_of
  hear-lasts l b None e p q n w =
      record { kept = w.kept; far = λ x h g. (far_more rate (lasts l.waiting) l (l.base + b.start) w.far x h g).0 }
  hear-lasts l b (Some y) e p q n w =
      let s = l.base + b.start in
      let f = frame_at s y in
      record { kept = one_kept (right_crc f); far = λ x h g. let i = far_more rate (lasts l.waiting) l s w.far x h g in one-far (right_crc f) x i.0 i.1 }
    where
      one_kept : (c : Bool) → Kept rate (l.base + length l.held) (cond c (join by_frames (frame_at (l.base + b.start) y) l.waiting) l.waiting)
      one_kept true =
          join_kept rate (l.base + length l.held) (frame_at (l.base + b.start) y) l.waiting (w.far (l.base + b.start) (omega arith) n) (omega arith)
          (l.base, b.start, refl, time l.held (seconds rate l.base) b y e) w.kept
      one_kept false = w.kept

      one-far : (c : Bool) (x : ℕ) → near rate (lasts l.waiting) x ≡ false → close rate (l.base + b.start) x ≡ false
          → near rate (lasts (cond c (join by_frames (frame_at (l.base + b.start) y) l.waiting) l.waiting)) x ≡ false
      one-far true x h g = near-joined rate (frame_at (l.base + b.start) y) l.waiting x h g
      one-far false x h g = h

  one_lasts : (wait : ℕ) (l : Ledger by_frames) (b : Burst) → b.start < b.end → Lasts rate l → Lasts rate (take_one rate d wait l b)
  unfolding take_one
  one_lasts wait l b p w =
      ⊎_elim
      (λ e. let t = taken rate wait l b e in
      rw e (hear-lasts l b (d.decode l.held (seconds rate l.base) b) refl t.0 (omega (arith, t.1)) t.2 w))
      (λ e. rw e w)
      (either (takes rate wait l b))

  each_lasts : (wait : ℕ) (l : Ledger by_frames) (bs : List Burst) → Proper rate bs → Lasts rate l → Lasts rate (take_each rate d wait l bs)
  unfolding take_each
  each_lasts wait l [] p w = w
  each_lasts wait l (b ∷ bs) p w = each_lasts wait (take_one rate d wait l b) bs p.1 (one_lasts wait l b (omega (arith, p.0)) w)

  module _ (fair : Fair rate d) (pos : 1 ≤ rate) where
    scan-lasts : (wait : ℕ) (l : Ledger by_frames) → length l.held ≤ capacity rate → Lasts rate l → Lasts rate (scan rate d wait l)
    unfolding scan forget
    scan-lasts wait l small w =
        let bs = d.bursts l.held in
        let k = take_each rate d wait l bs in
        let v = each_lasts wait l bs (proper rate (length l.held) 0 bs (fair.row l.held small)) w in
        record { kept = v.kept; far = λ x h g. v.far x h (from_far rate k.base k.starts x h g) }

    due-lasts : (l : Ledger by_frames) → length l.held ≤ capacity rate → Lasts rate l → Lasts rate (due rate d l)
    unfolding due scanned
    due-lasts l small w =
        ⊎_elim
        (λ e. rw e (scan-lasts (tail rate) (scanned l) small (record { kept = w.kept; far = w.far })))
        (λ e. rw e w)
        (either (leb rate (2 * l.unscanned)))

    -- a full list drops its older half, and samples are added
    moved : (l : Ledger by_frames) (xs : List Float) → ((ledger.add rate (halve rate l) xs).waiting ≡ l.waiting) × ((ledger.add rate (halve rate l) xs).starts ≡ l.starts)
        × (l.base ≤ (ledger.add rate (halve rate l) xs).base) × ((ledger.add rate (halve rate l) xs).base ≡ (halve rate l).base)
    unfolding halve ledger.add
    moved l xs = ⊎_elim (λ e. rw e (refl, refl, omega arith, refl)) (λ e. rw e (refl, refl, omega arith, refl)) (either (eqb (length l.held) (capacity rate)))

    add-lasts : (l : Ledger by_frames) (xs : List Float) → length l.held ≤ capacity rate → Lasts rate l → Lasts rate (ledger.add rate (halve rate l) xs)
    add-lasts l xs small w =
        let k = halve rate l in
        let q = halve-sum rate l pos small in
        let n = add-length rate k xs in
        let m = moved l xs in
        record {
          kept = rw m.0 (kept_more rate (l.base + length l.held) ((ledger.add rate k xs).base + length (ledger.add rate k xs).held) l.waiting (omega (arith, n, q, m.3)) w.kept);
          far = rw m.0 (λ x h g. w.far x (omega (arith, m.2)) (rw m.1 at g));
        }

    fill-lasts : (l : Ledger by_frames) (xs : List Float) → length l.held ≤ capacity rate → Lasts rate l → Lasts rate (fill rate d l xs)
    unfolding fill
    fill-lasts l xs small w =
        let k = halve rate l in
        let n = add-length rate k xs in
        due-lasts (ledger.add rate k xs) (omega (arith, n, amount-room rate k xs (omega (arith, halve-less rate l pos small)))) (add-lasts l xs small w)

    fills-lasts : (n : ℕ) (l : Ledger by_frames) (xs : List Float) → length l.held ≤ capacity rate → Lasts rate l → Lasts rate (fills rate d n l xs)
    unfolding fills
    fills-lasts zero l xs small w = w
    fills-lasts (suc n) l [] small w = w
    fills-lasts (suc n) l (x ∷ xs) small w =
        let f = fill-small rate d l (x ∷ xs) pos small in
        fills-lasts n (fill rate d l (x ∷ xs)) (drop (amount rate (halve rate l) (x ∷ xs)) (x ∷ xs)) f.0 (fill-lasts l (x ∷ xs) small w)

    pub scans-lasts : (l : Ledger by_frames) (c : Call) → length l.held ≤ capacity rate → Lasts rate l → Lasts rate (scans rate d l c)
    unfolding scans start_call
    scans-lasts l (push xs) small w = fills-lasts (length xs) (start_call l) xs small (record { kept = w.kept; far = w.far })
    scans-lasts l flush small w = scan-lasts 0 (start_call l) small (record { kept = w.kept; far = w.far })
