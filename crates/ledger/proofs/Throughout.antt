-- What holds of every frame that a scan decodes holds of all frames of the ledger: those of the call and those of its open messages.
use Rattle.std.proofs.Common.{Option, None, Some}
use mathlib.Core.Path.{◌≡◌, refl}
use mathlib.Core.Logic.{⊎_elim}
use mathlib.Core.List.{List, [], ◌∷◌}
use mathlib.Core.Bool.{Bool, true, false, not, ◌&&◌, cond}
use Prim.Native.Nat.{ℕ, zero, suc, ◌+◌, ◌*◌, ◌≤◌}
use native.Mathlib.Omega.{arith}
use lib.ListN.{length, drop}
use lib.Dec.{leb, ltb, eqb}
use lib.Ieee.{Float}
use borrow.Author.Tests.{leb-true}
use Rattle.ledger.specs.Types.{DecodedFrame, Burst}
use Rattle.ledger.specs.Frames.{same, Frame, frame_at, key_of, right_crc}
use Rattle.ledger.specs.Ledger.{Message, frames, message_key, by_frames, Demod, capacity, tail, seconds, near, Ledger, join, Call, push, flush, chosen, others, hear, remember, takes, take_one, take_each, forget, scan, halve, amount, add, scanned, due, fill, fills, start_call, scans}
use Rattle.ledger.proofs.Basics.{either, and_true, Every, every-join}
use Rattle.ledger.proofs.Sizes.{one_still, scan-still, due_held}
use Rattle.ledger.proofs.Opens.{chosen_yes, chosen_no, others_yes, others_no, join_at, join_past}

-- the samples of a call
abbrev pub given : Call → List Float
given (push xs) = xs
given flush = []

-- of those that pass a test, and of the others
module _ {A : Type 0} (P : A → Type 0) (p : A → Bool) where
  pub others-every : (l : List A) → Every P l → Every P (others p l)
  unfolding others
  others-every [] w = tt
  others-every (m ∷ l) w =
      ⊎_elim
      (λ e. rw (others_yes p m l e) (others-every l w.1))
      (λ e. rw (others_no p m l e) (w.0, others-every l w.1))
      (either (p m))

  pub chosen-every : (l : List A) → Every P l → Every P (chosen p l)
  unfolding chosen
  chosen-every [] w = tt
  chosen-every (m ∷ l) w =
      ⊎_elim
      (λ e. rw (chosen_yes p m l e) (w.0, chosen-every l w.1))
      (λ e. rw (chosen_no p m l e) (chosen-every l w.1))
      (either (p m))

module _ (P : Frame → Type 0) where
  abbrev pub EveryOpen : List Message → Type 0
  EveryOpen l = Every (λ m. Every P (frames m)) l

  pub record Holds (l : Ledger by_frames) : Type 0 where
    pub heard : Every P l.heard
    pub waiting : EveryOpen l.waiting

  join-every : (f : Frame) (l : List Message) → P f → EveryOpen l → EveryOpen (join by_frames f l)
  unfolding join
  join-every f [] h w = ((h, tt), tt)
  join-every f (m ∷ l) h w =
      ⊎_elim
      (λ e. rw (join_at by_frames f m l e) (every-join P (frames m) (f ∷ []) w.0 (h, tt), w.1))
      (λ e. rw (join_past by_frames f m l e) (w.0, join-every f l h w.1))
      (either (same (message_key m) (key_of f)))

  hear-holds : (l : Ledger by_frames) (s : ℕ) (o : Option DecodedFrame) → ((x : DecodedFrame) → o ≡ Some x → P (frame_at s x)) → Holds l → Holds (hear (remember l s) s o)
  unfolding hear remember
  hear-holds l s None h w = record { heard = w.heard; waiting = w.waiting }
  hear-holds l s (Some x) h w =
      record { heard = every-join P l.heard (frame_at s x ∷ []) w.heard (h x refl, tt); waiting = one_more (right_crc (frame_at s x)) }
    where
      one_more : (c : Bool) → EveryOpen (cond c (join by_frames (frame_at s x) l.waiting) l.waiting)
      one_more true = join-every (frame_at s x) l.waiting (h x refl) w.waiting
      one_more false = w.waiting

module _ (rate : ℕ) (d : Demod) (P : Frame → Type 0) where
  -- what a burst that is inside the held samples gives
  abbrev pub Gives : List Float → ℕ → Burst → Type 0
  Gives held base b = (x : DecodedFrame) → b.end ≤ length held → d.decode held (seconds rate base) b ≡ Some x → P (frame_at (base + b.start) x)

  inside : (wait : ℕ) (l : Ledger by_frames) (b : Burst) → takes rate wait l b ≡ true → b.end ≤ length l.held
  unfolding takes
  inside wait l b e =
      let t = and_true (ltb 0 b.start && leb (b.end + wait) (length l.held)) (not (near rate l.starts (l.base + b.start))) e in
      let u = and_true (ltb 0 b.start) (leb (b.end + wait) (length l.held)) t.0 in
      omega (arith, leb-true (b.end + wait) (length l.held) u.1)

  one_holds : (wait : ℕ) (l : Ledger by_frames) (b : Burst) → Gives l.held l.base b → Holds P l → Holds P (take_one rate d wait l b)
  unfolding take_one
  one_holds wait l b g w =
      ⊎_elim
      (λ e. rw e (hear-holds P l (l.base + b.start) (d.decode l.held (seconds rate l.base) b) (λ x q. g x (inside wait l b e) q) w))
      (λ e. rw e w)
      (either (takes rate wait l b))

  each_holds : (wait : ℕ) (l : Ledger by_frames) (bs : List Burst) → Every (Gives l.held l.base) bs → Holds P l → Holds P (take_each rate d wait l bs)
  unfolding take_each
  each_holds wait l [] g w = w
  each_holds wait l (b ∷ bs) g w =
      let s = one_still rate d wait l b in
      each_holds wait (take_one rate d wait l b) bs (rw (s.held, s.base) g.1) (one_holds wait l b g.0 w)

  scan-holds : (wait : ℕ) (l : Ledger by_frames) → Every (Gives l.held l.base) (d.bursts l.held) → Holds P l → Holds P (scan rate d wait l)
  unfolding scan forget
  scan-holds wait l g w =
      let h = each_holds wait l (d.bursts l.held) g w in
      record { heard = h.heard; waiting = h.waiting }

  -- Q is known of the held samples, the base and the samples that are still to come
  module _ (Q : List Float → ℕ → List Float → Type 0) (gives : (held xs : List Float) (base : ℕ) → Q held base xs → Every (Gives held base) (d.bursts held))
      (fed : (l : Ledger by_frames) (xs : List Float) → Q l.held l.base xs
      → Q (add rate (halve rate l) xs).held (add rate (halve rate l) xs).base (drop (amount rate (halve rate l) xs) xs)) where
    due-holds : (l : Ledger by_frames) (xs : List Float) → Q l.held l.base xs → Holds P l → Holds P (due rate d l)
    unfolding due scanned
    due-holds l xs q w =
        ⊎_elim
        (λ e. rw e (scan-holds (tail rate) (scanned l) (gives l.held xs l.base q) (record { heard = w.heard; waiting = w.waiting })))
        (λ e. rw e w)
        (either (leb rate (2 * l.unscanned)))

    add_holds : (l : Ledger by_frames) (xs : List Float) → Holds P l → Holds P (add rate (halve rate l) xs)
    unfolding add halve
    add_holds l xs w =
        ⊎_elim
        (λ e. rw e (record { heard = w.heard; waiting = w.waiting }))
        (λ e. rw e (record { heard = w.heard; waiting = w.waiting }))
        (either (eqb (length l.held) (capacity rate)))

    fills-holds : (n : ℕ) (l : Ledger by_frames) (xs : List Float) → Q l.held l.base xs → Holds P l → Holds P (fills rate d n l xs)
    unfolding fills fill
    fills-holds zero l xs q w = w
    fills-holds (suc n) l [] q w = w
    fills-holds (suc n) l (x ∷ xs) q w =
        let k = add rate (halve rate l) (x ∷ xs) in
        let rest = drop (amount rate (halve rate l) (x ∷ xs)) (x ∷ xs) in
        let s = due_held rate d k in
        let f = fed l (x ∷ xs) q in
        fills-holds n (due rate d k) rest (rw (s.0, s.1) f) (due-holds k rest f (add_holds l (x ∷ xs) w))

    pub scans-holds : (l : Ledger by_frames) (c : Call) → Q l.held l.base (given c) → EveryOpen P l.waiting → Holds P (scans rate d l c)
    unfolding scans start_call
    scans-holds l (push xs) q w = fills-holds (length xs) (start_call l) xs q (record { heard = tt; waiting = w })
    scans-holds l flush q w = scan-holds 0 (start_call l) (gives l.held [] l.base q) (record { heard = tt; waiting = w })

    -- and Q is known of what the call leaves
    fills-known : (n : ℕ) (l : Ledger by_frames) (xs : List Float) → Q l.held l.base xs → (ys : List Float) × Q (fills rate d n l xs).held (fills rate d n l xs).base ys
    unfolding fills fill
    fills-known zero l xs q = (xs, q)
    fills-known (suc n) l [] q = ([], q)
    fills-known (suc n) l (x ∷ xs) q =
        let k = add rate (halve rate l) (x ∷ xs) in
        let s = due_held rate d k in
        fills-known n (due rate d k) (drop (amount rate (halve rate l) (x ∷ xs)) (x ∷ xs)) (rw (s.0, s.1) (fed l (x ∷ xs) q))

    pub scans-known : (l : Ledger by_frames) (c : Call) → Q l.held l.base (given c) → (ys : List Float) × Q (scans rate d l c).held (scans rate d l c).base ys
    unfolding scans start_call
    scans-known l (push xs) q = fills-known (length xs) (start_call l) xs q
    scans-known l flush q = let s = scan-still rate d 0 (start_call l) in ([], rw (s.held, s.base) q)
