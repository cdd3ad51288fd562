-- No two frames start under 0.3 s apart: a start that is forgotten is too far back to matter.
use Rattle.std.proofs.Common.{Option, None, Some}
use mathlib.Core.Path.{◌≡◌, refl, sym, ◌∙◌}
use mathlib.Core.Logic.{⊎_elim}
use mathlib.Core.List.{List, [], ◌∷◌, ◌++◌, map, append_assoc, append-nil}
use mathlib.Core.Bool.{true, false, not, ◌&&◌, ◌||◌, or_assoc}
use Prim.Native.Nat.{ℕ, zero, suc, ◌+◌, ◌-◌, ◌*◌, ◌≤◌, ◌<◌}
use native.Mathlib.Omega.{arith}
use lib.ListN.{length, drop}
use lib.Dec.{leb, ltb, eqb}
use lib.Ieee.{Float}
use borrow.Author.Tests.{ltb-true, ltb-false, leb-true, leb-false, le-ltb, not-true}
use Rattle.ledger.specs.Types.{DecodedFrame, Burst}
use Rattle.ledger.specs.Frames.{frame_at, start_of}
use Rattle.ledger.specs.Ledger.{Kind, Demod, capacity, tail, dist, close, seconds, near, spaced, starts_from, Ledger, Call, push, flush, hear, remember, takes, take_one, take_each, forget, scan, halve, amount, add, scanned, due, fill, fills, start_call, scans}
use Rattle.ledger.proofs.Basics.{either, or_false, and_true, map-join}

-- ---- near and spaced

pub near-join : (rate : ℕ) (a b : List ℕ) (x : ℕ) → near rate (a ++ b) x ≡ near rate a x || near rate b x
unfolding near
near-join rate [] b x = refl
near-join rate (s ∷ a) b x = rw (near-join rate a b x) (sym (or_assoc (close rate s x) (near rate a x) (near rate b x)))

-- near none: at least 0.3 s from each
pub near_none : (rate : ℕ) (a b : List ℕ) (s x : ℕ) → near rate (a ++ s ∷ b) x ≡ false → 3 * rate ≤ 10 * dist s x
unfolding near
near_none rate a b s x e =
    let p = or_false (near rate a x) (near rate (s ∷ b) x) (sym (near-join rate a (s ∷ b) x) ∙ e) in
    ltb-false (10 * dist s x) (3 * rate) (or_false (close rate s x) (near rate b x) p.1).0

pub spaced-cons : (rate : ℕ) (acc l : List ℕ) (x : ℕ) → near rate acc x ≡ false → spaced rate (acc ++ (x ∷ [])) l ≡ true → spaced rate acc (x ∷ l) ≡ true
unfolding spaced
spaced-cons rate acc l x n e = rw n e

pub spaced-head : (rate : ℕ) (acc l : List ℕ) (x : ℕ) → spaced rate acc (x ∷ l) ≡ true → (near rate acc x ≡ false) × (spaced rate (acc ++ (x ∷ [])) l ≡ true)
unfolding spaced
spaced-head rate acc l x e =
    let h = and_true (not (near rate acc x)) (spaced rate (acc ++ (x ∷ [])) l) e in
    (not-true (near rate acc x) h.0, h.1)

pub spaced-join : (rate : ℕ) (acc a b : List ℕ) → spaced rate acc a ≡ true → spaced rate (acc ++ a) b ≡ true → spaced rate acc (a ++ b) ≡ true
spaced-join rate acc [] b p q = rw append-nil at q
spaced-join rate acc (x ∷ a) b p q =
    let h = spaced-head rate acc a x p in
    spaced-cons rate acc (a ++ b) x h.0 (spaced-join rate (acc ++ (x ∷ [])) a b h.1 (rw (append_assoc acc (x ∷ []) a) q))

pub spaced_at : (rate : ℕ) (acc a b : List ℕ) (x : ℕ) → spaced rate acc (a ++ x ∷ b) ≡ true → near rate (acc ++ a) x ≡ false
spaced_at rate acc [] b x p = rw (append-nil acc) (spaced-head rate acc b x p).0
spaced_at rate acc (y ∷ a) b x p = rw (← append_assoc acc (y ∷ []) a) (spaced_at rate (acc ++ (y ∷ [])) a b x (spaced-head rate acc (a ++ x ∷ b) y p).1)

pub spaced_snoc : (rate : ℕ) (acc l : List ℕ) (x : ℕ) → spaced rate acc l ≡ true → near rate (acc ++ l) x ≡ false → spaced rate acc (l ++ (x ∷ [])) ≡ true
unfolding spaced
spaced_snoc rate acc l x p n = spaced-join rate acc l (x ∷ []) p (spaced-cons rate (acc ++ l) [] x n refl)

-- ---- the walk

-- a start over a second before the base is near nothing behind the base
pub from_far : (rate base : ℕ) (l : List ℕ) (x : ℕ) → base < x → near rate (starts_from (base - rate) l) x ≡ false → near rate l x ≡ false
unfolding near starts_from
from_far rate base [] x b e = refl
from_far rate base (s ∷ l) x b e =
    ⊎_elim
    (λ f. let n : close rate s x || near rate (starts_from (base - rate) l) x ≡ false = rw f at e in
    let o = or_false (close rate s x) (near rate (starts_from (base - rate) l) x) n in
    rw o.0 (from_far rate base l x b o.1))
    (λ f. let n : near rate (starts_from (base - rate) l) x ≡ false = rw f at e in
    let g = leb-false (base - rate) s f in
    rw (le-ltb (10 * dist s x) (3 * rate) (omega arith)) (from_far rate base l x b n))
    (either (leb (base - rate) s))

module _ {K : Kind} where
  abbrev pub heard_starts : Ledger K → List ℕ
  heard_starts l = map start_of l.heard

  -- a start behind the base that is near no remembered one is near none of the starts seen
  abbrev pub Far : ℕ → List ℕ → Ledger K → Type 0
  Far rate seen l = (x : ℕ) → l.base < x → near rate l.starts x ≡ false → near rate seen x ≡ false

  -- within a call, `seen` being the starts of the frames before it
  pub record Spread (rate : ℕ) (seen : List ℕ) (l : Ledger K) : Type 0 where
    pub apart : spaced rate seen (heard_starts l) ≡ true
    pub far : Far rate (seen ++ heard_starts l) l

  -- one more start
  pub far_more : (rate : ℕ) (seen : List ℕ) (l : Ledger K) (s : ℕ) → Far rate seen l → (x : ℕ) → l.base < x → near rate (l.starts ++ (s ∷ [])) x ≡ false
      → (near rate seen x ≡ false) × (close rate s x ≡ false)
  unfolding near
  far_more rate seen l s far x b e =
      let p = or_false (near rate l.starts x) (near rate (s ∷ []) x) (sym (near-join rate l.starts (s ∷ []) x) ∙ e) in
      (far x b p.0, (or_false (close rate s x) false p.1).0)

  module _ (rate : ℕ) (seen : List ℕ) where
    hear-spread : (l : Ledger K) (b : Burst) (o : Option DecodedFrame) → 0 < b.start → near rate l.starts (l.base + b.start) ≡ false
        → Spread rate seen l → Spread rate seen (hear (remember l (l.base + b.start)) (l.base + b.start) o)
    unfolding hear remember near start_of
    hear-spread l b None h n w =
        record { apart = w.apart; far = λ x p q. (far_more rate (seen ++ heard_starts l) l (l.base + b.start) w.far x p q).0 }
    hear-spread l b (Some y) h n w =
        let s = l.base + b.start in
        let g : near rate (seen ++ heard_starts l) s ≡ false = w.far s (omega arith) n in
        let a : map start_of (l.heard ++ (frame_at s y ∷ [])) ≡ heard_starts l ++ (s ∷ []) = map-join start_of l.heard (frame_at s y ∷ []) in
        record {
          apart = rw a (spaced_snoc rate seen (heard_starts l) s w.apart g);
          far = λ x p q.
              let i = far_more rate (seen ++ heard_starts l) l s w.far x p q in
              rw (a, ← append_assoc seen (heard_starts l) (s ∷ []), near-join rate (seen ++ heard_starts l) (s ∷ []) x, i.0, i.1) refl;
        }

  -- what a burst that is taken says
  pub taken : (rate wait : ℕ) (l : Ledger K) (b : Burst) → takes rate wait l b ≡ true
      → (0 < b.start) × (b.end + wait ≤ length l.held) × (near rate l.starts (l.base + b.start) ≡ false)
  unfolding takes
  taken rate wait l b e =
      let t = and_true (ltb 0 b.start && leb (b.end + wait) (length l.held)) (not (near rate l.starts (l.base + b.start))) e in
      let u = and_true (ltb 0 b.start) (leb (b.end + wait) (length l.held)) t.0 in
      (ltb-true 0 b.start u.0, leb-true (b.end + wait) (length l.held) u.1, not-true (near rate l.starts (l.base + b.start)) t.1)

  module _ (rate : ℕ) (d : Demod) (seen : List ℕ) where
    pub one-spread : (wait : ℕ) (l : Ledger K) (b : Burst) → Spread rate seen l → Spread rate seen (take_one rate d wait l b)
    unfolding take_one
    one-spread wait l b w =
        ⊎_elim
        (λ e. let t = taken rate wait l b e in rw e (hear-spread rate seen l b (d.decode l.held (seconds rate l.base) b) t.0 t.2 w))
        (λ e. rw e w)
        (either (takes rate wait l b))

    each-spread : (wait : ℕ) (l : Ledger K) (bs : List Burst) → Spread rate seen l → Spread rate seen (take_each rate d wait l bs)
    unfolding take_each
    each-spread wait l [] w = w
    each-spread wait l (b ∷ bs) w = each-spread wait (take_one rate d wait l b) bs (one-spread wait l b w)

    pub forget-spread : (l : Ledger K) → Spread rate seen l → Spread rate seen (forget rate l)
    unfolding forget
    forget-spread l w = record { apart = w.apart; far = λ x p q. w.far x p (from_far rate l.base l.starts x p q) }

    scan-spread : (wait : ℕ) (l : Ledger K) → Spread rate seen l → Spread rate seen (scan rate d wait l)
    unfolding scan
    scan-spread wait l w = forget-spread (take_each rate d wait l (d.bursts l.held)) (each-spread wait l (d.bursts l.held) w)

    pub scanned-spread : (l : Ledger K) → Spread rate seen l → Spread rate seen (scanned l)
    unfolding scanned
    scanned-spread l w = record { apart = w.apart; far = w.far }

    due-spread : (l : Ledger K) → Spread rate seen l → Spread rate seen (due rate d l)
    unfolding due
    due-spread l w =
        ⊎_elim (λ e. rw e (scan-spread (tail rate) (scanned l) (scanned-spread l w))) (λ e. rw e w) (either (leb rate (2 * l.unscanned)))

    -- a full list drops its older half, and samples are added
    pub add-spread : (l : Ledger K) (xs : List Float) → Spread rate seen l → Spread rate seen (add rate (halve rate l) xs)
    unfolding halve add
    add-spread l xs w =
        ⊎_elim
        (λ e. rw e (record { apart = w.apart; far = λ x p q. w.far x (omega arith) q }))
        (λ e. rw e (record { apart = w.apart; far = w.far }))
        (either (eqb (length l.held) (capacity rate)))

    fills-spread : (n : ℕ) (l : Ledger K) (xs : List Float) → Spread rate seen l → Spread rate seen (fills rate d n l xs)
    unfolding fills fill
    fills-spread zero l xs w = w
    fills-spread (suc n) l [] w = w
    fills-spread (suc n) l (x ∷ xs) w =
        fills-spread n (fill rate d l (x ∷ xs)) (drop (amount rate (halve rate l) (x ∷ xs)) (x ∷ xs)) (due-spread (add rate (halve rate l) (x ∷ xs)) (add-spread l (x ∷ xs) w))

    pub start-spread : (l : Ledger K) → Far rate seen l → Spread rate seen (start_call l)
    unfolding start_call spaced
    start-spread l far = record { apart = refl; far = rw append-nil far }

    pub scans-spread : (l : Ledger K) (c : Call) → Far rate seen l → Spread rate seen (scans rate d l c)
    unfolding scans
    scans-spread l (push xs) w = fills-spread (length xs) (start_call l) xs (start-spread l w)
    scans-spread l flush w = scan-spread 0 (start_call l) (start-spread l w)

  pub none_far : (rate : ℕ) (l : Ledger K) → Far rate [] l
  unfolding near
  none_far rate l x p q = refl
