-- A ledger that grew from a fresh one is in order; and no call, from any state that is in order, needs more room than there is.
use mathlib.Core.Path.{◌≡◌, refl}
use mathlib.Core.Logic.{inl, ⊎_elim}
use mathlib.Core.List.{List, [], ◌∷◌, ◌++◌}
use mathlib.Core.Bool.{true}
use Prim.Native.Nat.{ℕ, zero, suc, ◌+◌, ◌*◌, ◌≤◌, ◌<◌}
use native.Mathlib.Omega.{arith}
use lib.ListN.{length, take, drop}
use lib.Dec.{eqb}
use lib.Ieee.{Float}
use Rattle.limits.specs.Limits.{longest_stream}
use Rattle.limits.specs.Samples.{is_dbm, all_dbm}
use Rattle.ledger.specs.Types.{Burst}
use Rattle.ledger.specs.Ledger.{Kind, Demod, capacity, half, spaced, Ledger, Call, push, flush, ready, fresh, take_one, take_each, forget, scan, halve, amount, add, fill, fills, start_call, scans, now, closed, messages}
use Rattle.ledger.specs.Causes.{oldest_s, most_waiting, unlike, all_fit, Attempt, number, after_call, after}
use Rattle.ledger.specs.Room.{Fair, InOrder, Accepts, Accepted, ThroughBursts, Through, Room, push_frames, flush_frames, Bounded}
use Rattle.ledger.proofs.Firsts.{first_none}
use Rattle.ledger.proofs.Basics.{either, and_true}
use Rattle.ledger.proofs.Spacing.{start-spread, none_far}
use Rattle.ledger.proofs.Pigeon.{third}
use Rattle.ledger.proofs.Bursts.{Proper, proper, few}
use Rattle.ledger.proofs.Sizes.{scan-still, due_held, scans-small}
use Rattle.ledger.proofs.OpenKinds.{Lawful}
use Rattle.ledger.proofs.Opens.{chosen-length, others_all, Tidy, others-tidy}
use Rattle.ledger.proofs.Places.{since_weaken, Loose, few-starts, one-loose, each-loose, forget-loose, Placed, loose, placed}
use Rattle.ledger.proofs.Counts.{one_grew, few-heard, Going, fills-going}
use Rattle.ledger.proofs.Orders.{passed}

-- ---- samples in range

valid-join : (a b : List Float) → all_dbm a ≡ true → all_dbm b ≡ true → all_dbm (a ++ b) ≡ true
unfolding all_dbm
valid-join [] b p q = q
valid-join (x ∷ a) b p q = let h = and_true (is_dbm x) (all_dbm a) p in rw h.0 (valid-join a b h.1 q)

valid-take : (n : ℕ) (l : List Float) → all_dbm l ≡ true → all_dbm (take n l) ≡ true
unfolding all_dbm
valid-take zero l p = refl
valid-take (suc n) [] p = refl
valid-take (suc n) (x ∷ l) p = let h = and_true (is_dbm x) (all_dbm l) p in rw h.0 (valid-take n l h.1)

valid-drop : (n : ℕ) (l : List Float) → all_dbm l ≡ true → all_dbm (drop n l) ≡ true
unfolding all_dbm
valid-drop zero l p = p
valid-drop (suc n) [] p = refl
valid-drop (suc n) (x ∷ l) p = valid-drop n l (and_true (is_dbm x) (all_dbm l) p).1

module _ {K : Kind} where
  module _ (rate : ℕ) (d : Demod) where
    fill-valid : (l : Ledger K) (xs : List Float) → all_dbm l.held ≡ true → all_dbm xs ≡ true → all_dbm (fill rate d l xs).held ≡ true
    unfolding fill add halve
    fill-valid l xs p q =
        rw (due_held rate d (add rate (halve rate l) xs)).0
        (valid-join (halve rate l).held (take (amount rate (halve rate l) xs) xs)
        (⊎_elim (λ e. rw e (valid-drop (half rate) l.held p)) (λ e. rw e p) (either (eqb (length l.held) (capacity rate))))
        (valid-take (amount rate (halve rate l) xs) xs q))

    fills-valid : (n : ℕ) (l : Ledger K) (xs : List Float) → all_dbm l.held ≡ true → all_dbm xs ≡ true → all_dbm (fills rate d n l xs).held ≡ true
    unfolding fills
    fills-valid zero l xs p q = p
    fills-valid (suc n) l [] p q = p
    fills-valid (suc n) l (x ∷ xs) p q =
        let a = amount rate (halve rate l) (x ∷ xs) in
        fills-valid n (fill rate d l (x ∷ xs)) (drop a (x ∷ xs)) (fill-valid l (x ∷ xs) p q) (valid-drop a (x ∷ xs) q)

  -- ---- a push

  module _ (rate : ℕ) (d : Demod) (fair : Fair rate d) (laws : Lawful K) (pos : 1 ≤ rate) where
    -- from a ledger whose starts are at most `back` before its base
    module _ (back m : ℕ) (wide : capacity rate + (back + half rate) ≤ third rate * m) (above : rate ≤ back)
        (l : Ledger K) (w : Placed rate back l) (quiet : 2 * l.unscanned < rate) (few : length l.waiting ≤ most_waiting) (tidy : Tidy K l.waiting) where
      start-going : Going rate d fair laws l.base most_waiting pos back m wide above (start_call l)
      unfolding start_call
      start-going =
          let s = start-spread rate d [] l (none_far rate l) in
          record {
            placed = record { small = w.small; below = w.below; apart = w.apart; recent = w.recent };
            quiet = quiet;
            run = record { spread = record { apart = s.apart; far = s.far }; onward = omega arith; place = tt; waits = omega arith; tidy = tidy };
          }

      pub push-going : (xs : List Float) → length xs ≤ capacity rate
          → Going rate d fair laws l.base most_waiting pos back m wide above (scans rate d l (push xs)) × Through (Room m (most_waiting + push_frames) push_frames) rate d l (push xs)
      unfolding scans start_call
      push-going xs h =
          fills-going rate d fair laws l.base most_waiting pos back m wide above (length xs) (start_call l) xs (omega (arith, w.small)) start-going

    -- ---- a flush

    -- each burst adds one frame and one message at most, and there are at most so many
    bursts-flushed : (l : Ledger K) (bs : List Burst) → Proper rate bs → Loose rate (oldest_s * rate) l → length l.heard + length bs ≤ flush_frames → length l.waiting ≤ most_waiting + length l.heard
        → ThroughBursts (Room 64 (most_waiting + flush_frames) flush_frames) rate d 0 l bs
    bursts-flushed l [] p w h n = record { starts = few-starts rate (oldest_s * rate) 64 l (omega arith) w; waiting = omega arith; heard = omega arith }
    bursts-flushed l (b ∷ bs) p w h n =
        let g = one_grew rate d 0 l b in (
          record { starts = few-starts rate (oldest_s * rate) 64 l (omega arith) w; waiting = omega arith; heard = omega arith },
          bursts-flushed (take_one rate d 0 l b) bs p.1 (one-loose rate d (oldest_s * rate) 0 l b (omega (arith, p.0)) w) (omega (arith, g.heard)) (omega (arith, g.waiting)),
        )

    through-end : (P : Ledger K → Type 0) (wait : ℕ) (l : Ledger K) (bs : List Burst) → ThroughBursts P rate d wait l bs → P (take_each rate d wait l bs)
    unfolding take_each
    through-end P wait l [] t = t
    through-end P wait l (b ∷ bs) t = through-end P wait (take_one rate d wait l b) bs t.1

    flush-through : (l : Ledger K) → InOrder rate l → Through (Room 64 (most_waiting + flush_frames) flush_frames) rate d l flush
    unfolding start_call
    flush-through l o =
        bursts-flushed (start_call l) (d.bursts l.held) (proper rate (length l.held) 0 (d.bursts l.held) (fair.row l.held o.room))
        (record { small = o.room; below = o.below; apart = o.apart; recent = o.recent }) (omega (arith, few rate (length l.held) (d.bursts l.held) o.room (fair.row l.held o.room))) (omega (arith, o.waiting))

    -- ---- from a given state

    given : (l : Ledger K) → InOrder rate l → Placed rate (oldest_s * rate) l
    given l o = record { small = o.room; below = o.below; apart = o.apart; recent = inl o.recent }

    -- 25 s hold at most 84
    in_push : (l : Ledger K) (xs : List Float) → InOrder rate l → Accepts rate l xs → Through (Room 84 (most_waiting + push_frames) push_frames) rate d l (push xs)
    in_push l xs o a = (push-going (oldest_s * rate) 84 (omega arith) (omega arith) l (given l o) o.unscanned o.waiting (o.fits, o.unlike) xs a.size).1

    said-length : (c : Call) (l : Ledger K) → length l.heard + length (messages rate c l) ≤ length l.heard + length l.waiting
    unfolding messages
    said-length c l = omega (arith, chosen-length (ready K c (now rate l)) l.waiting)

    events : (l : Ledger K) (c : Call) → InOrder rate l → Accepted rate l c → length (scans rate d l c).heard + length (messages rate c (scans rate d l c)) ≤ most_waiting + 2 * push_frames
    unfolding scans scan forget start_call
    events l (push xs) o a =
        let s = scans rate d l (push xs) in
        let g = (push-going (oldest_s * rate) 84 (omega arith) (omega arith) l (given l o) o.unscanned o.waiting (o.fits, o.unlike) xs a.size).0.run in
        let t = (scans-small rate d l (push xs) pos o.room).1 in
        let u : s.base + length s.held ≤ l.base + 24 * rate = omega (arith, t, o.room, a.size) in
        let n = few-heard rate l.base most_waiting s pos u g in
        omega (arith, said-length (push xs) s, g.waits, n)
    events l flush o a =
        let r = through-end (Room 64 (most_waiting + flush_frames) flush_frames) 0 (start_call l) (d.bursts l.held) (flush-through l o) in
        omega (arith, said-length flush (scans rate d l flush), r.heard, r.waiting)

    -- ---- a ledger that grew

    record Ok (l : Ledger K) : Type 0 where
      placed : Placed rate rate l
      quiet : 2 * l.unscanned < rate
      samples : all_dbm l.held ≡ true
      stream : l.base + length l.held ≤ longest_stream
      tidy : Tidy K l.waiting

    push_ok : (l : Ledger K) (xs : List Float) → Accepts rate l xs → length l.waiting ≤ most_waiting → Ok l → Ok (closed rate (push xs) (scans rate d l (push xs)))
    unfolding closed scans start_call
    push_ok l xs a few o =
        let s = scans rate d l (push xs) in
        let p = ready K (push xs) (now rate s) in
        let g = (push-going rate 64 (omega arith) (omega arith) l o.placed o.quiet few o.tidy xs a.size).0 in
        let t = (scans-small rate d l (push xs) pos o.placed.small).1 in
        record {
          placed = record { small = g.placed.small; below = g.placed.below; apart = g.placed.apart; recent = g.placed.recent };
          quiet = g.quiet;
          samples = fills-valid rate d (length xs) (start_call l) xs o.samples a.samples;
          stream = omega (arith, t, a.stream);
          tidy = others-tidy K p s.waiting g.run.tidy;
        }

    flush-ok : (l : Ledger K) → Ok l → Ok (closed rate flush (scans rate d l flush))
    unfolding closed scans scan start_call all_fit unlike
    flush-ok l o =
        let k = start_call l in
        let s = scans rate d l flush in
        let z = scan-still rate d 0 k in
        let w = loose rate rate l o.placed in
        let e = take_each rate d 0 k (d.bursts l.held) in
        let y = each-loose rate d (rate + half rate) 0 k (d.bursts l.held) (proper rate (length l.held) 0 (d.bursts l.held) (fair.row l.held w.small)) (record { small = w.small; below = w.below; apart = w.apart; recent = w.recent }) in
        let g = placed rate rate (forget rate e) (omega arith) (forget-loose rate (rate + half rate) e y) in
        record {
          placed = record { small = g.small; below = g.below; apart = g.apart; recent = g.recent };
          quiet = rw z.unscanned o.quiet;
          samples = rw z.held o.samples;
          stream = rw (z.held, z.base) o.stream;
          tidy = rw (others_all K (now rate s) s.waiting) (refl, refl);
        }

    call_ok : (l : Ledger K) (a : Attempt) (n : ℕ) → number rate l a ≡ n → Ok l → Ok (after_call rate d l a.call n)
    unfolding after_call
    call_ok l a zero e o = let p = passed rate a.lent l a.call (first_none _ _ e).0 in accepted-ok a.call p.accepted p.order.waiting
      where
        accepted-ok : (c : Call) → Accepted rate l c → length l.waiting ≤ most_waiting → Ok (closed rate c (scans rate d l c))
        accepted-ok (push xs) h few = push_ok l xs h few o
        accepted-ok flush h few = flush-ok l o
    call_ok l a (suc n) e o = o

    after-ok : (l : Ledger K) (cs : List Attempt) → Ok l → Ok (after rate d l cs)
    unfolding after
    after-ok l [] o = o
    after-ok l (a ∷ cs) o = after-ok (after_call rate d l a.call (number rate l a)) cs (call_ok l a (number rate l a) refl o)

    fresh_ok : Ok fresh
    unfolding fresh all_dbm spaced all_fit unlike
    fresh_ok =
        record { placed = record { small = omega arith; below = tt; apart = refl; recent = inl tt }; quiet = omega arith; samples = refl; stream = omega arith; tidy = (refl, refl) }

    -- where no list of calls leaves more waiting than the order allows
    pub in_order : ((cs : List Attempt) → length (after rate d (fresh {K = K}) cs).waiting ≤ most_waiting) → (cs : List Attempt) → InOrder {K = K} rate (after rate d fresh cs)
    in_order wait cs =
        let l = after rate d fresh cs in
        let o = after-ok fresh cs fresh_ok in
        let w = loose rate rate l o.placed in
        record {
          room = w.small;
          samples = o.samples;
          stream = o.stream;
          unscanned = o.quiet;
          few = few-starts rate (rate + half rate) 96 l (omega arith) w;
          below = w.below;
          recent = since_weaken l.base (rate + half rate) (oldest_s * rate) l.starts (omega arith) w.recent;
          apart = w.apart;
          waiting = wait cs;
          unlike = o.tidy.1;
          fits = o.tidy.0;
        }

    pub bounded : Bounded K rate d
    bounded = record { in_push = in_push; in_flush = flush-through; events = events }
