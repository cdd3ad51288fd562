-- How many frames and open messages a call can have, from any state that is in order.
use Rattle.std.proofs.Common.{Option, None, Some}
use mathlib.Core.Path.{◌≡◌, refl}
use mathlib.Core.Logic.{⊎_elim}
use mathlib.Core.List.{List, [], ◌∷◌, ◌++◌}
use mathlib.Core.Bool.{Bool, true, false, cond}
use Prim.Native.Nat.{ℕ, zero, suc, ◌+◌, ◌-◌, ◌*◌, ◌≤◌, ◌<◌}
use native.Mathlib.Omega.{arith}
use lib.ListN.{length, drop, length-append, length-map, length-drop}
use lib.Dec.{leb, eqb}
use lib.Ieee.{Float}
use borrow.Author.Tests.{leb-false}
use Rattle.ledger.specs.Types.{DecodedFrame, Burst}
use Rattle.ledger.specs.Frames.{frame_at, rank_of, right_crc, start_of}
use Rattle.ledger.specs.Ledger.{Kind, Demod, capacity, half, tail, seconds, Ledger, join, hear, remember, takes, take_one, take_each, forget, scan, halve, amount, add, scanned, due, fill, fills}
use Rattle.ledger.specs.Room.{Fair, ThroughBursts, ThroughFill, ThroughFills, Room, push_frames}
use Rattle.ledger.proofs.Basics.{either, map-join}
use Rattle.ledger.proofs.Spacing.{heard_starts, Spread, taken, one-spread, forget-spread, scanned-spread, add-spread}
use Rattle.ledger.proofs.Pigeon.{Window, third, fits}
use Rattle.ledger.proofs.Bursts.{Proper, proper}
use Rattle.ledger.proofs.Sizes.{one_still, scan-still, halve-sum, add-length, amount-le, fill-small}
use Rattle.ledger.proofs.Entries.{FrameFits}
use Rattle.ledger.proofs.OpenKinds.{Lawful}
use Rattle.ledger.proofs.Opens.{waiting_one, Tidy, join-tidy}
use Rattle.ledger.proofs.Places.{Loose, few-starts, one-loose, each-loose, forget-loose, Placed, loose, placed, filled, scanned-loose}

-- ---- lists

window_snoc : (lo hi : ℕ) (l : List ℕ) (x : ℕ) → Window lo hi l → lo ≤ x → x < hi → Window lo hi (l ++ (x ∷ []))
window_snoc lo hi [] x w p q = (p, q, tt)
window_snoc lo hi (s ∷ l) x w p q = (w.0, w.1, window_snoc lo hi l x w.2 p q)

window_more : (lo a b : ℕ) (l : List ℕ) → a ≤ b → Window lo a l → Window lo b l
window_more lo a b [] h w = tt
window_more lo a b (s ∷ l) h w = (w.0, omega (arith, w.1), window_more lo a b l h w.2)

-- what is decoded fits
decoded-fits : (rate : ℕ) (d : Demod) → Fair rate d → (held : List Float) (t : Float) (b : Burst) (x : DecodedFrame) (s : ℕ) → d.decode held t b ≡ Some x → FrameFits (frame_at s x)
unfolding rank_of
decoded-fits rate d fair held t b x s e =
    record { rank = d.ranks held t b x e; payload = fair.payload held t b x e; auth = fair.auth held t b x e }

module _ {K : Kind} where
  -- ---- each burst adds one frame and one message at most

  pub record Grew (l k : Ledger K) : Type 0 where
    pub heard : length k.heard ≤ suc (length l.heard)
    pub waiting : length k.waiting + length l.heard ≤ length l.waiting + length k.heard

  hear_grew : (l : Ledger K) (s : ℕ) (o : Option DecodedFrame) → Grew l (hear (remember l s) s o)
  unfolding hear remember
  hear_grew l s None = record { heard = omega arith; waiting = omega arith }
  hear_grew l s (Some x) =
      let n : length (l.heard ++ (frame_at s x ∷ [])) ≡ length l.heard + 1 = length-append l.heard (frame_at s x ∷ []) in
      record { heard = omega (arith, n); waiting = omega (arith, n, waiting_one K (frame_at s x) (right_crc (frame_at s x)) l.waiting) }

  pub one_grew : (rate : ℕ) (d : Demod) (wait : ℕ) (l : Ledger K) (b : Burst) → Grew l (take_one rate d wait l b)
  unfolding take_one
  one_grew rate d wait l b =
      ⊎_elim
      (λ e. rw e (hear_grew l (l.base + b.start) (d.decode l.held (seconds rate l.base) b)))
      (λ e. rw e (record { heard = omega arith; waiting = omega arith }))
      (either (takes rate wait l b))

  -- ---- what a drop and more samples leave as it was

  record Moved (l k : Ledger K) : Type 0 where
    heard : k.heard ≡ l.heard
    waiting : k.waiting ≡ l.waiting
    base : l.base ≤ k.base

  moved : (rate : ℕ) (l : Ledger K) (xs : List Float) → Moved l (add rate (halve rate l) xs)
  unfolding halve add
  moved rate l xs =
      ⊎_elim
      (λ e. rw e (record { heard = refl; waiting = refl; base = omega arith }))
      (λ e. rw e (record { heard = refl; waiting = refl; base = omega arith }))
      (either (eqb (length l.held) (capacity rate)))

  added-base : (rate : ℕ) (l : Ledger K) (xs : List Float) → (add rate l xs).base ≡ l.base
  unfolding add
  added-base rate l xs = refl

  -- ---- within a push, base₀ being the base before it, w₀ the number that waited

  pub record Run (rate base₀ w₀ : ℕ) (l : Ledger K) : Type 0 where
    pub spread : Spread rate [] l
    pub onward : base₀ ≤ l.base
    -- a frame lasted 0.3 s, and then came its tail
    pub place : Window (suc base₀) (l.base + length l.held - (third rate + tail rate)) (heard_starts l)
    pub waits : length l.waiting ≤ w₀ + length l.heard
    pub tidy : Tidy K l.waiting

  -- so many frames of at most 24 s
  pub few-heard : (rate base₀ w₀ : ℕ) (l : Ledger K) → 1 ≤ rate → l.base + length l.held ≤ base₀ + 24 * rate → Run rate base₀ w₀ l → length l.heard ≤ push_frames
  few-heard rate base₀ w₀ l h t r =
      let n : length (heard_starts l) ≤ push_frames =
      fits rate push_frames (suc base₀) (l.base + length l.held - (third rate + tail rate)) (heard_starts l) (omega arith) r.spread.apart r.place in
      omega (arith, n, length-map l.heard start_of)

  module _ (rate : ℕ) (d : Demod) (fair : Fair rate d) (laws : Lawful K) (base₀ w₀ : ℕ) where
    hear-place : (l : Ledger K) (b : Burst) (o : Option DecodedFrame) → d.decode l.held (seconds rate l.base) b ≡ o → 0 < b.start
        → b.start + third rate + tail rate < length l.held → Run rate base₀ w₀ l
        → Window (suc base₀) (l.base + length l.held - (third rate + tail rate)) (heard_starts (hear (remember l (l.base + b.start)) (l.base + b.start) o))
        × Tidy K (hear (remember l (l.base + b.start)) (l.base + b.start) o).waiting
    unfolding hear remember start_of
    hear-place l b None e h t r = (r.place, r.tidy)
    hear-place l b (Some x) e h t r =
        let s = l.base + b.start in (
          rw (map-join start_of l.heard (frame_at s x ∷ []))
              (window_snoc (suc base₀) (l.base + length l.held - (third rate + tail rate)) (heard_starts l) s r.place (omega (arith, r.onward)) (omega arith)),
          tidy_one (right_crc (frame_at s x)),
        )
      where
        tidy_one : (c : Bool) → Tidy K (cond c (join K (frame_at (l.base + b.start) x) l.waiting) l.waiting)
        tidy_one true =
            join-tidy K laws (frame_at (l.base + b.start) x) l.waiting (decoded-fits rate d fair l.held (seconds rate l.base) b x (l.base + b.start) e) r.tidy
        tidy_one false = r.tidy

    one_place : (l : Ledger K) (b : Burst) → b.start + third rate < b.end → Run rate base₀ w₀ l
        → Window (suc base₀) (l.base + length l.held - (third rate + tail rate)) (heard_starts (take_one rate d (tail rate) l b)) × Tidy K (take_one rate d (tail rate) l b).waiting
    unfolding take_one
    one_place l b p r =
        ⊎_elim
        (λ e. let t = taken rate (tail rate) l b e in rw e (hear-place l b (d.decode l.held (seconds rate l.base) b) refl t.0 (omega (arith, t.1)) r))
        (λ e. rw e (r.place, r.tidy))
        (either (takes rate (tail rate) l b))

    one-run : (l : Ledger K) (b : Burst) → b.start + third rate < b.end → Run rate base₀ w₀ l → Run rate base₀ w₀ (take_one rate d (tail rate) l b)
    one-run l b p r =
        let s = one_still rate d (tail rate) l b in
        let g = one_grew rate d (tail rate) l b in
        let q = one_place l b p r in
        record {
          spread = one-spread rate d [] (tail rate) l b r.spread;
          onward = rw s.base r.onward;
          place = rw (s.base, s.held) q.0;
          waits = omega (arith, g.waiting, r.waits);
          tidy = q.1;
        }

    module _ (pos : 1 ≤ rate) (back m : ℕ) (wide : capacity rate + (back + half rate) ≤ third rate * m) (above : rate ≤ back) where
      room : (l : Ledger K) → Loose rate (back + half rate) l → l.base + length l.held ≤ base₀ + 24 * rate → Run rate base₀ w₀ l → Room m (w₀ + push_frames) push_frames l
      room l w t r =
          let n = few-heard rate base₀ w₀ l pos t r in
          record { starts = few-starts rate (back + half rate) m l wide w; waiting = omega (arith, n, r.waits); heard = n }

      -- a scan
      bursts-run : (l : Ledger K) (bs : List Burst) → Proper rate bs → Loose rate (back + half rate) l → l.base + length l.held ≤ base₀ + 24 * rate → Run rate base₀ w₀ l
          → Run rate base₀ w₀ (take_each rate d (tail rate) l bs) × ThroughBursts (Room m (w₀ + push_frames) push_frames) rate d (tail rate) l bs
      unfolding take_each
      bursts-run l [] p w t r = (r, room l w t r)
      bursts-run l (b ∷ bs) p w t r =
          let s = one_still rate d (tail rate) l b in
          let i = bursts-run (take_one rate d (tail rate) l b) bs p.1 (one-loose rate d (back + half rate) (tail rate) l b (omega (arith, p.0)) w) (rw (s.base, s.held) t) (one-run l b p.0 r) in
          (i.0, (room l w t r, i.1))

      -- between fillings
      pub record Going (l : Ledger K) : Type 0 where
        pub placed : Placed rate back l
        pub quiet : 2 * l.unscanned < rate
        pub run : Run rate base₀ w₀ l

      forget-run : (l : Ledger K) → Run rate base₀ w₀ l → Run rate base₀ w₀ (forget rate l)
      unfolding forget
      forget-run l r =
          let s = forget-spread rate d [] l r.spread in
          record { spread = record { apart = s.apart; far = s.far }; onward = r.onward; place = r.place; waits = r.waits; tidy = r.tidy }

      scanned-run : (l : Ledger K) → Run rate base₀ w₀ l → Run rate base₀ w₀ (scanned l)
      unfolding scanned
      scanned-run l r =
          let s = scanned-spread rate d [] l r.spread in
          record { spread = record { apart = s.apart; far = s.far }; onward = r.onward; place = r.place; waits = r.waits; tidy = r.tidy }

      -- a scan that a filling makes due
      due-scan : (l : Ledger K) → Placed rate back l → l.base + length l.held ≤ base₀ + 24 * rate → Run rate base₀ w₀ l
          → Going (scan rate d (tail rate) (scanned l)) × ThroughBursts (Room m (w₀ + push_frames) push_frames) rate d (tail rate) (scanned l) (d.bursts l.held)
      unfolding scan scanned
      due-scan l w t r =
          let k = scanned l in
          let bs = d.bursts l.held in
          let pr = proper rate (length l.held) 0 (d.bursts l.held) (fair.row l.held w.small) in
          let lo = scanned-loose rate (back + half rate) l (loose rate back l w) in
          let i = bursts-run k bs pr lo t (scanned-run l r) in
          let e = take_each rate d (tail rate) k bs in
          let st = scan-still rate d (tail rate) k in (
            record {
              placed = placed rate back (forget rate e) above (forget-loose rate (back + half rate) e (each-loose rate d (back + half rate) (tail rate) k bs pr lo));
              quiet = rw st.unscanned (omega arith);
              run = forget-run e i.0;
            },
            i.1,
          )

      due-going : (l : Ledger K) → Placed rate back l → l.base + length l.held ≤ base₀ + 24 * rate → Run rate base₀ w₀ l
          → Going (due rate d l) × ThroughFill (Room m (w₀ + push_frames) push_frames) rate d l
      unfolding due
      due-going l w t r =
          let i = due-scan l w t r in (
            ⊎_elim (λ e. rw e i.0) (λ e. rw e (record { placed = w; quiet = leb-false rate (2 * l.unscanned) e; run = r })) (either (leb rate (2 * l.unscanned))),
            λ e. i.1,
          )

      add-run : (l : Ledger K) (xs : List Float) → length l.held ≤ capacity rate → Run rate base₀ w₀ l → Run rate base₀ w₀ (add rate (halve rate l) xs)
      add-run l xs s r =
          let k = add rate (halve rate l) xs in
          let v = moved rate l xs in
          let top : l.base + length l.held - (third rate + tail rate) ≤ k.base + length k.held - (third rate + tail rate) = omega (arith, add-length rate (halve rate l) xs, halve-sum rate l pos s, added-base rate (halve rate l) xs) in
          record {
            spread = add-spread rate d [] l xs r.spread;
            onward = omega (arith, v.base, r.onward);
            place = rw v.heard (window_more (suc base₀) (l.base + length l.held - (third rate + tail rate)) (k.base + length k.held - (third rate + tail rate)) (heard_starts l) top r.place);
            waits = rw (v.heard, v.waiting) r.waits;
            tidy = rw v.waiting r.tidy;
          }

      fill-going : (l : Ledger K) (xs : List Float) → l.base + length l.held + length xs ≤ base₀ + 24 * rate → Going l
          → Going (fill rate d l xs) × ThroughFill (Room m (w₀ + push_frames) push_frames) rate d (add rate (halve rate l) xs)
      unfolding fill
      fill-going l xs t g =
          let k = add rate (halve rate l) xs in
          let sm = g.placed.small in
          let u : k.base + length k.held ≤ base₀ + 24 * rate =
          omega (arith, add-length rate (halve rate l) xs, halve-sum rate l pos sm, added-base rate (halve rate l) xs, amount-le rate (halve rate l) xs) in
          due-going k (filled rate back l xs pos g.quiet g.placed) u (add-run l xs sm g.run)

      pub fills-going : (n : ℕ) (l : Ledger K) (xs : List Float) → l.base + length l.held + length xs ≤ base₀ + 24 * rate → Going l
          → Going (fills rate d n l xs) × ThroughFills (Room m (w₀ + push_frames) push_frames) rate d n l xs
      unfolding fills
      fills-going zero l xs t g = (g, tt)
      fills-going (suc n) l [] t g = (g, tt)
      fills-going (suc n) l (x ∷ xs) t g =
          let f = fill-going l (x ∷ xs) t g in
          let s = (fill-small rate d l (x ∷ xs) pos g.placed.small).1 in
          let a = amount rate (halve rate l) (x ∷ xs) in
          let u : a ≤ length (x ∷ xs) = amount-le rate (halve rate l) (x ∷ xs) in
          let ld : length (drop a (x ∷ xs)) ≡ length (x ∷ xs) - a = length-drop a (x ∷ xs) in
          let i = fills-going n (fill rate d l (x ∷ xs)) (drop a (x ∷ xs)) (omega (arith, s, u, ld, t)) f.0 in
          (i.0, (f.1, i.1))
