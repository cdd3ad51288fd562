-- The clock that is kept, with its sums, is the clock that is fitted anew to all points: a sum from the left over one point more is one step more. Assumes nothing.
use Rattle.std.proofs.Common.{◌≡◌, ℕ, zero, suc, ◌+◌, ◌-◌, ◌<◌, ◌≤◌, max, Bool, true, false, cond, ◌&&◌, T, eqb, ltb, leb, List, [], ◌∷◌, ◌++◌, map, length, ℤ, sym, refl, ap, ◌∙◌, subst, append_assoc, append-nil, arith, length-append, ltb-false, ne_eqb, Option, None, Some}
use lib.IntN.{suc_ℤ}
use lib.Ieee.{Float, binary64, add, sub, mul, div, lt}
use lib.Ieee.Fits.{div-fits}
use Rattle.floats.specs.Number.{num}
use Rattle.dips.specs.Dips.{Dip, positions_of, depths_of}
use Rattle.clock.specs.declared.Clock.{Clock}
use Rattle.clock.specs.Numbers.{refits, enough_points}
use Rattle.clock.specs.Clock.{lost, as_index, as_float, at_most, Point, BitClock, first_index, last_index, sum_from, sum_k, sum_d, sum_kk, sum_kd, det, slope, offset, refit, index_at, skips, pushed, joined, track, start_clock}
use Rattle.clock.specs.Bits.{end_index, larger, upward, indexes, on_grid, bit_at, all_bits, median_depth, ended, clocked}
use Rattle.clock.specs.Walk.{has_place, bits_from, placed_bits}
use Rattle.clock.specs.Running as run
use Rattle.clock.proofs.ClockLaws.{step-lost, step-skipped, step-joined}
use Rattle.clock.proofs.IndexLaws.{moved, Low, at_most_lem, same_is, low-next, moved-next, how_many, low-larger, moved-larger, index-place}
use Rattle.clock.proofs.BackLaws.{index_back}

-- ---- one point more

more : {A : Type 0} (f : A → Float) (s : Float) (xs : List A) (x : A) → sum_from f s (xs ++ (x ∷ [])) ≡ add binary64 (sum_from f s xs) (f x)
unfolding sum_from
more f s [] x = refl
more f s (y ∷ xs) x = more f (add binary64 s (f y)) xs x

-- ---- the points by their places

abbrev places_of : List Point → List ℕ
places_of ps = map (λ p. moved p.index) ps

abbrev deep_of : List Point → List Float
deep_of ps = map (λ p. p.dip.depth) ps

abbrev Lows : List Point → Type 0
Lows [] = T true
Lows (p ∷ ps) = Low p.index × Lows ps

first_place : List Point → ℕ
first_place [] = 0
first_place (p ∷ ps) = moved p.index

last_place : List Point → ℕ
last_place [] = 0
last_place (p ∷ []) = moved p.index
last_place (p ∷ (q ∷ ps)) = last_place (q ∷ ps)

lows_more : (ps : List Point) (p : Point) → Lows ps → Low p.index → Lows (ps ++ (p ∷ []))
lows_more [] p l a = (a, tt)
lows_more (q ∷ ps) p l a = (l.0, lows_more ps p l.1 a)

places_more : (ps : List Point) (p : Point) → places_of (ps ++ (p ∷ [])) ≡ places_of ps ++ (moved p.index ∷ [])
places_more [] p = refl
places_more (q ∷ ps) p = ap (λ (l : List ℕ). moved q.index ∷ l) (places_more ps p)

deep_more : (ps : List Point) (p : Point) → deep_of (ps ++ (p ∷ [])) ≡ deep_of ps ++ (p.dip.depth ∷ [])
deep_more [] p = refl
deep_more (q ∷ ps) p = ap (λ (l : List Float). q.dip.depth ∷ l) (deep_more ps p)

first_more : (ps : List Point) (p : Point) → first_place (ps ++ (p ∷ [])) ≡ cond (eqb (length ps) 0) (moved p.index) (first_place ps)
unfolding first_place
first_more [] p = refl
first_more (q ∷ ps) p = rw (ne_eqb (length (q ∷ ps)) 0 (λ e. omega arith))

last_more : (ps : List Point) (p : Point) → last_place (ps ++ (p ∷ [])) ≡ moved p.index
unfolding last_place
last_more [] p = refl
last_more (q ∷ []) p = refl
last_more (q ∷ (r ∷ ps)) p = last_more (r ∷ ps) p

last_is : (ps : List Point) → 0 < length ps → Lows ps → (last_place ps ≡ moved (last_index ps)) × Low (last_index ps)
unfolding last_place last_index
last_is [] h l = absurd (omega arith)
last_is (p ∷ []) h l = (refl, l.0)
last_is (p ∷ (q ∷ ps)) h l = last_is (q ∷ ps) (omega arith) l.1

-- ---- the clock that is kept

summary : BitClock → Clock
summary c =
    record {
      period = c.period;
      phase = c.phase;
      sk = sum_k c.points;
      sd = sum_d c.points;
      skk = sum_kk c.points;
      skd = sum_kd c.points;
      count = length c.points;
      first = first_place c.points;
      last = last_place c.points;
    }

refit_is : (c : BitClock) → run.refit (summary c) ≡ summary (refit c)
unfolding run.refit run.refitted run.slope run.det summary refit offset slope det
refit_is c = go (leb refits (length c.points) && lt (num 0) (det c.points))
  where
    go : (t : Bool) → cond t (run.refitted (summary c)) (summary c) ≡ summary (cond t (record { period = slope c.points; phase = offset c.points; points = c.points }) c)
    go true = refl
    go false = refl

summed_is : (c : BitClock) (d : Dip) (x : Float) (k : ℤ) → as_float k ≡ x → moved k ≡ run.place x → run.summed (summary c) d.at x ≡ summary (pushed c d k)
unfolding run.summed summary pushed sum_k sum_d sum_kk sum_kd
summed_is c d x k e m =
    let p : Point = record { index = k; dip = d } in
    rw (
      more (λ p. as_float p.index) (num 0) c.points p,
      more (λ p. p.dip.at) (num 0) c.points p,
      more (λ p. mul binary64 (as_float p.index) (as_float p.index)) (num 0) c.points p,
      more (λ p. mul binary64 (as_float p.index) p.dip.at) (num 0) c.points p,
      length-append c.points (p ∷ []),
      first_more c.points p,
      last_more c.points p,
      e,
      m,
    )

behind_is : (ps : List Point) (k : ℤ) → Lows ps → Low k → ltb 0 (length ps) && at_most k (last_index ps) ≡ ltb 0 (length ps) && leb (moved k) (last_place ps)
behind_is [] k l a = refl
behind_is (p ∷ ps) k l a =
    let i = last_is (p ∷ ps) (omega arith) l in
    ap (λ (t : Bool). ltb 0 (length (p ∷ ps)) && t) (at_most_lem k (last_index (p ∷ ps)) a i.1 ∙ ap (leb (moved k)) (sym i.0))

skips_is : (c : BitClock) (d x : Float) (k : ℤ) → Lows c.points → Low k → as_float k ≡ x → moved k ≡ run.place x → run.skips (summary c) d x ≡ skips c d k
unfolding run.skips summary skips
skips_is c d x k l a e m = rw (behind_is c.points k l a, m, e)

-- a fit changes no point
refit-points : (c : BitClock) → (refit c).points ≡ c.points
unfolding refit
refit-points c = go (leb refits (length c.points) && lt (num 0) (det c.points))
  where
    go : (t : Bool) → (cond t (record { period = slope c.points; phase = offset c.points; points = c.points }) c).points ≡ c.points
    go true = refl
    go false = refl

-- ---- all dips

fit_of : Option BitClock → Option Clock
fit_of None = None
fit_of (Some c) = Some (summary c)

record Same (c : BitClock) (ds : List Dip) : Type 0 where
  fit : run.fit_from (summary c) (positions_of ds) ≡ fit_of (track c ds)
  points : (e : BitClock) → track c ds ≡ Some e → (places_of c.points ++ run.points_from (summary c) (positions_of ds) ≡ places_of e.points) × Lows e.points
  depths : (e : BitClock) → track c ds ≡ Some e → deep_of c.points ++ run.depths_from (summary c) (positions_of ds) (depths_of ds) ≡ deep_of e.points

no_dips : (c : BitClock) → Lows c.points → Same c []
unfolding run.fit_from run.points_from run.depths_from track fit_of
no_dips c l =
    record {
      fit = refl;
      points = λ e q. let s : c ≡ e = cc in subst (λ (x : BitClock). (places_of c.points ++ [] ≡ places_of x.points) × Lows x.points) s (append-nil (places_of c.points), l);
      depths = λ e q. let s : c ≡ e = cc in subst (λ (x : BitClock). deep_of c.points ++ [] ≡ deep_of x.points) s (append-nil (deep_of c.points));
    }

module _ (c : BitClock) (d : Dip) (ds : List Dip) (l : Lows c.points) where
  dip-lost : lost (index_at c d.at) ≡ true → Same c (d ∷ ds)
  unfolding run.fit_from run.points_from run.astray run.index_at track fit_of index_at summary
  dip-lost h =
      record {
        fit = rw (← step-lost (summary c) d.at h, h);
        points = λ e q. absurd (let t : None ≡ Some e = sym (rw h) ∙ q in let z : ◌≡◌ {A = ℕ} 0 1 = cc in omega arith);
        depths = λ e q. absurd (let t : None ≡ Some e = sym (rw h) ∙ q in let z : ◌≡◌ {A = ℕ} 0 1 = cc in omega arith);
      }

  module _ (h : lost (index_at c d.at) ≡ false) where
    k : ℤ
    k = as_index (index_at c d.at)

    back : as_float k ≡ index_at c d.at
    unfolding k index_at
    back = index_back (div binary64 (sub binary64 d.at c.phase) c.period) (div-fits binary64 (sub binary64 d.at c.phase) c.period) h

    low : Low k
    unfolding k
    low = (index-place (index_at c d.at) h).0

    at : moved k ≡ run.place (index_at c d.at)
    unfolding k
    at = (index-place (index_at c d.at) h).1

    point : Point
    point = record { index = k; dip = d }

    points-more : (refit (pushed c d k)).points ≡ c.points ++ (point ∷ [])
    unfolding pushed point
    points-more = refit-points (pushed c d k)

    lows-next : Lows (refit (pushed c d k)).points
    unfolding point
    lows-next = subst Lows (sym points-more) (lows_more c.points point l low)

    last-next : (summary (refit (pushed c d k))).last ≡ moved k
    unfolding summary point
    last-next = ap last_place points-more ∙ last_more c.points point

    places-next : places_of (refit (pushed c d k)).points ≡ places_of c.points ++ (moved k ∷ [])
    unfolding point
    places-next = ap places_of points-more ∙ places_more c.points point

    deep-next : deep_of (refit (pushed c d k)).points ≡ deep_of c.points ++ (d.depth ∷ [])
    unfolding point
    deep-next = ap deep_of points-more ∙ deep_more c.points point

    dip-skipped : skips c d.at k ≡ true → Same c ds → Same c (d ∷ ds)
    unfolding run.fit_from run.points_from run.depths_from run.astray run.after run.added run.kept run.index_at track index_at summary joined k
    dip-skipped g s =
        let t = step-skipped (summary c) d.at h (skips_is c d.at (index_at c d.at) k l low back at ∙ g) in
        record {
          fit = rw (← t, h, g) s.fit;
          points = λ e q. rw (← t) (s.points e (rw (h, g) at q));
          depths = λ e q. rw (← t) (s.depths e (rw (h, g) at q));
        }

    dip-joined : skips c d.at k ≡ false → Same (refit (pushed c d k)) ds → Same c (d ∷ ds)
    unfolding run.fit_from run.points_from run.depths_from run.astray run.after run.added run.kept run.index_at track index_at summary joined k
    dip-joined g s =
        let next = refit (pushed c d k) in
        let t = step-joined (summary c) d.at (summary next) h (skips_is c d.at (index_at c d.at) k l low back at ∙ g) (sym (ap run.refit (summed_is c d (index_at c d.at) k back at) ∙ refit_is (pushed c d k))) in
        record {
          fit = rw (← t, h, g) s.fit;
          points = λ e q.
              let r = s.points e (rw (h, g) at q) in
              let rest = run.points_from (summary next) (positions_of ds) in
              (rw (← t) (ap (λ (n : ℕ). places_of c.points ++ (n ∷ rest)) last-next ∙ sym (append_assoc (places_of c.points) (moved k ∷ []) rest) ∙ ap (λ (l : List ℕ). l ++ rest) (sym places-next) ∙ r.0), r.1);
          depths = λ e q.
              let rest = run.depths_from (summary next) (positions_of ds) (depths_of ds) in
              rw (← t) (sym (append_assoc (deep_of c.points) (d.depth ∷ []) rest) ∙ ap (λ (l : List Float). l ++ rest) (sym deep-next) ∙ s.depths e (rw (h, g) at q));
        }

  one_more : ((e : BitClock) → Lows e.points → Same e ds) → Same c (d ∷ ds)
  unfolding k
  one_more i = go (lost (index_at c d.at)) (skips c d.at (as_index (index_at c d.at))) refl refl
    where
      go : (t u : Bool) → lost (index_at c d.at) ≡ t → skips c d.at (as_index (index_at c d.at)) ≡ u → Same c (d ∷ ds)
      go true u h g = dip-lost h
      go false true h g = dip-skipped h g (i c l)
      go false false h g = dip-joined h g (i (refit (pushed c d (as_index (index_at c d.at)))) (lows-next h))

all_dips : (ds : List Dip) (c : BitClock) → Lows c.points → Same c ds
all_dips [] c l = no_dips c l
all_dips (d ∷ ds) c l = one_more c d ds l (all_dips ds)

-- ---- the bits

on_grid_lem : (k : ℤ) (ps : List Point) → Low k → Lows ps → on_grid k ps ≡ has_place (moved k) (places_of ps)
unfolding on_grid has_place
on_grid_lem k [] a l = refl
on_grid_lem k (p ∷ ps) a l = rw (same_is k p.index a l.0, on_grid_lem k ps a l.1)

bits_from_lem : (ps : List Point) (n : ℕ) (k : ℤ) → Low k → Lows ps → map (bit_at ps) (upward k n) ≡ bits_from (places_of ps) (moved k) n
unfolding upward bits_from bit_at
bits_from_lem ps zero k a l = refl
bits_from_lem ps (suc n) k a l = rw (on_grid_lem k ps a l) (ap (λ (r : List ℕ). cond (has_place (moved k) (places_of ps)) 0 1 ∷ r) (rw (moved-next k a) at (bits_from_lem ps n (suc_ℤ k) (low-next k a) l)))

bits_are : (ps : List Point) (x : Float) → 0 < length ps → Lows ps → lost x ≡ false
    → all_bits ps (as_index x) ≡ placed_bits (places_of ps) (first_place ps) (max (last_place ps) (run.place x))
unfolding all_bits indexes placed_bits first_index first_place
bits_are [] x h l e = absurd (omega arith)
bits_are (p ∷ ps) x h l e =
    let i = last_is (p ∷ ps) h l in
    let j = index-place x e in
    let end = larger (last_index (p ∷ ps)) (as_index x) in
    let n = how_many p.index end l.0 (low-larger (last_index (p ∷ ps)) (as_index x) i.1 j.0) in
    let m : moved end ≡ max (last_place (p ∷ ps)) (run.place x) = moved-larger (last_index (p ∷ ps)) (as_index x) i.1 j.0 ∙ rw (sym i.0, j.1) in
    ap (λ (r : List ℕ). 1 ∷ r) (ap (λ (c : ℕ). map (bit_at (p ∷ ps)) (upward p.index c)) (n ∙ ap (λ (c : ℕ). c + 1 - moved p.index) m) ∙ bits_from_lem (p ∷ ps) (max (last_place (p ∷ ps)) (run.place x) + 1 - moved p.index) p.index l.0 l)

ended_is : (seg : List Float) (rate : ℕ) (level : Float) (c : BitClock) → 0 < length c.points → Lows c.points
    → ended seg rate level c ≡ run.ended seg rate level (places_of c.points) (deep_of c.points) (summary c)
unfolding ended run.ended summary median_depth
ended_is seg rate level c h l = go (lost (end_index level seg c.period c.phase)) refl
  where
    go : (t : Bool) → lost (end_index level seg c.period c.phase) ≡ t → ended seg rate level c ≡ run.ended seg rate level (places_of c.points) (deep_of c.points) (summary c)
    go true e = rw e
    go false e = rw (e, bits_are c.points (end_index level seg c.period c.phase) h l e)

clocked_is : (seg : List Float) (rate : ℕ) (level : Float) (c : BitClock) → Lows c.points
    → clocked seg rate level (Some c) ≡ run.clocked seg rate level (places_of c.points) (deep_of c.points) (Some (summary c))
unfolding clocked run.clocked summary
clocked_is seg rate level c l = go (ltb (length c.points) enough_points) (ltb-false (length c.points) enough_points)
  where
    go : (t : Bool) → (t ≡ false → enough_points ≤ length c.points)
        → cond t None (ended seg rate level c) ≡ cond t None (run.ended seg rate level (places_of c.points) (deep_of c.points) (summary c))
    go true f = refl
    go false f = ended_is seg rate level c (let h = f refl in omega arith) l

pub running_is : (seg : List Float) (rate : ℕ) (level nominal phase : Float) (ds : List Dip) → let start = run.start_clock nominal phase in
    clocked seg rate level (track (start_clock nominal phase) ds)
    ≡ run.clocked seg rate level (run.points_from start (positions_of ds)) (run.depths_from start (positions_of ds) (depths_of ds)) (run.fit_from start (positions_of ds))
unfolding clocked run.clocked fit_of summary start_clock run.start_clock sum_k sum_d sum_kk sum_kd first_place last_place
running_is seg rate level nominal phase ds =
    let all = all_dips ds (start_clock nominal phase) tt in
    go (track (start_clock nominal phase) ds) all.fit all.points all.depths
  where
    go : (o : Option BitClock) → run.fit_from (run.start_clock nominal phase) (positions_of ds) ≡ fit_of o
        → ((e : BitClock) → o ≡ Some e → (run.points_from (run.start_clock nominal phase) (positions_of ds) ≡ places_of e.points) × Lows e.points)
        → ((e : BitClock) → o ≡ Some e → run.depths_from (run.start_clock nominal phase) (positions_of ds) (depths_of ds) ≡ deep_of e.points)
        → clocked seg rate level o
        ≡ run.clocked seg rate level (run.points_from (run.start_clock nominal phase) (positions_of ds)) (run.depths_from (run.start_clock nominal phase) (positions_of ds) (depths_of ds)) (run.fit_from (run.start_clock nominal phase) (positions_of ds))
    go None f p q = rw f
    go (Some e) f p q = rw (f, (p e refl).0, q e refl) (clocked_is seg rate level e (p e refl).1)
