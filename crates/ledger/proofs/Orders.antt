-- The tests of order and of causes, as facts: what an accepted call gives.
use mathlib.Core.Path.{◌≡◌, refl}
use mathlib.Core.List.{List, [], ◌∷◌}
use mathlib.Core.Bool.{Bool, true, false, not, cond}
use Prim.Native.Nat.{ℕ, ◌+◌, ◌*◌, ◌≤◌}
use native.Mathlib.Omega.{arith}
use lib.ListN.{length}
use lib.Dec.{leb, ltb}
use borrow.Author.Tests.{ltb-true, ltb-false, leb-true, lt-ltb, le-leb, not-false}
use Rattle.limits.specs.Limits.{bad_rate, short, long, bad_sample, bad_state, stream, bad_number, lowest_rate, highest_rate, longest_stream}
use Rattle.limits.specs.Samples.{rate_ok, all_dbm}
use Rattle.ledger.specs.Ledger.{Kind, capacity, Ledger, Call, push, flush}
use Rattle.ledger.specs.Causes.{most_starts, oldest_s, most_waiting, below, since, unlike, all_fit, starts_ordered, counts_of, orderly, any_nan, Lent, too_short, call_cause, cause}
use Rattle.ledger.specs.Room.{Below, Since, InOrder, Accepted}
use Rattle.ledger.proofs.Basics.{and_true}

-- ---- starts

below_holds : (hi : ℕ) (l : List ℕ) → Below hi l → below hi l ≡ true
unfolding below
below_holds hi [] w = refl
below_holds hi (s ∷ l) w = rw (lt-ltb s hi w.0) (below_holds hi l w.1)

below_says : (hi : ℕ) (l : List ℕ) → below hi l ≡ true → Below hi l
unfolding below
below_says hi [] e = tt
below_says hi (s ∷ l) e = let h = and_true (ltb s hi) (below hi l) e in (ltb-true s hi h.0, below_says hi l h.1)

since-holds : (base back : ℕ) (l : List ℕ) → Since base back l → since base back l ≡ true
unfolding since
since-holds base back [] w = refl
since-holds base back (s ∷ l) w = rw (le-leb base (s + back) w.0) (since-holds base back l w.1)

since_says : (base back : ℕ) (l : List ℕ) → since base back l ≡ true → Since base back l
unfolding since
since_says base back [] e = tt
since_says base back (s ∷ l) e =
    let h = and_true (leb base (s + back)) (since base back l) e in (leb-true base (s + back) h.0, since_says base back l h.1)

-- ---- nested choices

-- a choice whose number is 0 passed the test
zero_then : (b : Bool) (k x : ℕ) → 1 ≤ k → cond b k x ≡ 0 → (b ≡ false) × (x ≡ 0)
zero_then true k x h e = absurd (omega arith)
zero_then false k x h e = (refl, e)

-- a choice whose number is n, where n is not that of the test
other_then : (n : ℕ) (b : Bool) (k x : ℕ) → (k ≡ n → ⊥) → cond b k x ≡ n → (b ≡ false) × (x ≡ n)
other_then n true k x h e = absurd (h e)
other_then n false k x h e = (refl, e)

-- a choice whose number is not n where the test passes
at_last : (n : ℕ) (b : Bool) (x : ℕ) → (x ≡ n → ⊥) → cond (not b) n x ≡ n → b ≡ false
at_last n true x h e = absurd (h e)
at_last n false x h e = refl

module _ {K : Kind} where
  -- ---- the test says the same as the order

  pub order-holds : (rate : ℕ) (l : Ledger K) → InOrder rate l → orderly rate (counts_of rate l) l ≡ true
  unfolding orderly
  order-holds rate l o =
      rw (
        le-leb (length l.held) (capacity rate) o.room,
        o.samples,
        le-leb (l.base + length l.held) longest_stream o.stream,
        lt-ltb (2 * l.unscanned) rate o.unscanned,
        le-leb (length l.starts) most_starts o.few,
        below_holds (l.base + length l.held) l.starts o.below,
        since-holds l.base (oldest_s * rate) l.starts o.recent,
        o.apart,
        le-leb (length l.waiting) most_waiting o.waiting,
        o.unlike,
      )
      o.fits

  pub order_says : (rate : ℕ) (l : Ledger K) → orderly rate (counts_of rate l) l ≡ true → InOrder rate l
  unfolding orderly
  order_says rate l e =
      let a = and_true (leb (length l.held) (capacity rate)) _ e in
      let b = and_true (all_dbm l.held) _ a.1 in
      let c = and_true (leb (l.base + length l.held) longest_stream) _ b.1 in
      let f = and_true (ltb (2 * l.unscanned) rate) _ c.1 in
      let t = and_true (starts_ordered rate l.base (length l.held) l.starts) _ f.1 in
      let g = and_true (leb (length l.starts) most_starts) _ t.0 in
      let h = and_true (below (l.base + length l.held) l.starts) _ g.1 in
      let i = and_true (since l.base (oldest_s * rate) l.starts) _ h.1 in
      let k = and_true (leb (length l.waiting) most_waiting) _ t.1 in
      let m = and_true (unlike K l.waiting) (all_fit K l.waiting) k.1 in
      record {
        room = leb-true (length l.held) (capacity rate) a.0;
        samples = b.0;
        stream = leb-true (l.base + length l.held) longest_stream c.0;
        unscanned = ltb-true (2 * l.unscanned) rate f.0;
        few = leb-true (length l.starts) most_starts g.0;
        below = below_says (l.base + length l.held) l.starts h.0;
        recent = since_says l.base (oldest_s * rate) l.starts i.0;
        apart = i.1;
        waiting = leb-true (length l.waiting) most_waiting k.0;
        unlike = m.0;
        fits = m.1;
      }

  -- ---- an accepted call

  call-accepted : (rate : ℕ) (l : Ledger K) (c : Call) → call_cause rate (counts_of rate l) l c ≡ 0 → Accepted rate l c × InOrder rate l
  unfolding call_cause
  call-accepted rate l (push xs) e =
      let a = zero_then (ltb (capacity rate) (length xs)) long _ (omega arith) e in
      let b = zero_then (not (all_dbm xs)) bad_sample _ (omega arith) a.1 in
      let c = zero_then (not (orderly rate (counts_of rate l) l)) bad_state _ (omega arith) b.1 in
      let g = zero_then (ltb longest_stream (l.base + length l.held + length xs)) stream _ (omega arith) c.1 in (
        record {
          size = ltb-false (capacity rate) (length xs) a.0;
          samples = not-false (all_dbm xs) b.0;
          stream = ltb-false longest_stream (l.base + length l.held + length xs) g.0;
        },
        order_says rate l (not-false (orderly rate (counts_of rate l) l) c.0),
      )
  call-accepted rate l flush e =
      (tt, order_says rate l (not-false (orderly rate (counts_of rate l) l) (zero_then (not (orderly rate (counts_of rate l) l)) bad_state _ (omega arith) e).0))

  pub record Passed (rate : ℕ) (l : Ledger K) (c : Call) : Type 0 where
    pub rated : rate_ok rate ≡ true
    pub accepted : Accepted rate l c
    pub order : InOrder rate l

  pub passed : (rate : ℕ) (b : Lent) (l : Ledger K) (c : Call) → cause rate b (counts_of rate l) l c ≡ 0 → Passed rate l c
  unfolding cause
  passed rate b l c e =
      let p = zero_then (not (rate_ok rate)) bad_rate _ (omega arith) e in
      let q = zero_then (too_short rate b) short _ (omega arith) p.1 in
      let r = call-accepted rate l c q.1 in
      record { rated = not-false (rate_ok rate) p.0; accepted = r.0; order = r.1 }

  -- ---- a call that is refused with 5

  five-call : (rate : ℕ) (l : Ledger K) (c : Call) → call_cause rate (counts_of rate l) l c ≡ bad_state → orderly rate (counts_of rate l) l ≡ false
  unfolding call_cause
  five-call rate l (push xs) e =
      let a = other_then bad_state (ltb (capacity rate) (length xs)) long _ (λ h. omega arith) e in
      let b = other_then bad_state (not (all_dbm xs)) bad_sample _ (λ h. omega arith) a.1 in
      at_last bad_state (orderly rate (counts_of rate l) l) _
      (late (ltb longest_stream (l.base + length l.held + length xs)) (any_nan K l.waiting)) b.1
    where
      late : (q r : Bool) → ◌≡◌ {A = ℕ} (cond q stream (cond r bad_number 0)) bad_state → ⊥
      late true r e = omega arith
      late false true e = omega arith
      late false false e = omega arith
  five-call rate l flush e = at_last bad_state (orderly rate (counts_of rate l) l) _ (late (any_nan K l.waiting)) e
    where
      late : (r : Bool) → ◌≡◌ {A = ℕ} (cond r bad_number 0) bad_state → ⊥
      late true e = omega arith
      late false e = omega arith

  pub five : (rate : ℕ) (b : Lent) (l : Ledger K) (c : Call) → cause rate b (counts_of rate l) l c ≡ bad_state → (rate_ok rate ≡ true) × (orderly rate (counts_of rate l) l ≡ false)
  unfolding cause
  five rate b l c e =
      let p = other_then bad_state (not (rate_ok rate)) bad_rate _ (λ h. omega arith) e in
      let q = other_then bad_state (too_short rate b) short _ (λ h. omega arith) p.1 in
      (not-false (rate_ok rate) p.0, five-call rate l c q.1)

-- an accepted rate is at least 1
pub rate-pos : (rate : ℕ) → rate_ok rate ≡ true → 1 ≤ rate
rate-pos rate e = let h = leb-true lowest_rate rate (and_true (leb lowest_rate rate) (leb rate highest_rate) e).0 in omega arith
