-- The outcomes of `burst_bits`, case by case. Assumes nothing.
use Rattle.std.proofs.Common.{Option, ◌≡◌, ℕ, ◌+◌, ◌-◌, ◌/◌, ◌<◌, ◌≤◌, min, max, true, false, List, [], ◌∷◌, ◌++◌, map, length, get_or, take, drop, ℤ, sym, refl, ap, ◌∙◌, arith, take_at, w32, SFits, le-ltb, lt-ltb, None, Some}
use lib.ListN.{length-map}
use lib.Ieee.{Float, nan, binary64, to_unsigned}
use Rattle.floats.proofs.Saturating.{signed-fits}
use Rattle.clock.specs.declared.Clock.{Clock}
use Rattle.clock.specs.declared.BurstBits.{BurstBits}
use Rattle.limits.specs.Limits.{most_bits}
use Rattle.rates.specs.Numbers.{level_quantile}
use Rattle.rates.specs.Rates.{nominal_of}
use Rattle.bursts.specs.Levels.{quantile}
use Rattle.clock.specs.Numbers.{enough_dips, enough_points}
use Rattle.order.specs.Order.{kth, Numbers}
use Rattle.limits.specs.Samples.{all_dbm}
use Rattle.dips.specs.Numbers.{depths_at}
use Rattle.dips.specs.Dips.{Dip, found_in, positions_of, depths_of, Written, Stored}
use Rattle.dips.proofs.Depths.{AllNumbers, depths-numbers}
use Rattle.clock.specs.Clock.{anchor, lost}
use Rattle.clock.specs.Running.{place, start_clock, fit_from, points_from, depths_from, ended, clocked}
use Rattle.clock.specs.Bits.{end_index, ppm_of, Recovered, Outcome, from_dips, outcome, handed, values_of}
use Rattle.clock.specs.Walk.{placed_bits, walked, places, Rising, Ready}
use Rattle.clock.specs.Tracked.{Tracked}
use Rattle.clock.proofs.RunningLaws.{running_is}
use Rattle.clock.proofs.WalkLaws.{walk_is, rising_first, length-bits, take-bits}
use Rattle.clock.proofs.PointLaws.{Good, facts, points-few, kept_numbers, each_number, places_back}

-- an answer and the bits, of an outcome
abbrev pub Tells : Outcome → List ℕ → Option BurstBits → List ℕ → Type 0
Tells o old r now = (r ≡ values_of o) × (now ≡ handed o old)

pub tells_none : (o : Outcome) (old : List ℕ) → o ≡ None → Tells o old None old
unfolding values_of handed
tells_none o old e = (rw e, rw e)

-- ---- from the clock

module _ (rate : ℕ) (seg : List Float) (level : Float) (points : List ℕ) (depths : List Float) (c : Clock) where
  pub clock-few : c.count < enough_points → clocked seg rate level points depths (Some c) ≡ None
  unfolding clocked
  clock-few h = rw (lt-ltb c.count enough_points h)

  pub clock-lost : enough_points ≤ c.count → lost (end_index level seg c.period c.phase) ≡ true → clocked seg rate level points depths (Some c) ≡ None
  unfolding clocked ended
  clock-lost h e = rw (le-ltb c.count enough_points h, e)

  read : List ℕ → Recovered
  read bits = record { bits = bits; period = c.period; ppm = ppm_of c.period (nominal_of rate); level = level; dips = c.count; depth = kth binary64 depths (c.count / 2) }

  clock-ended : enough_points ≤ c.count → lost (end_index level seg c.period c.phase) ≡ false
      → clocked seg rate level points depths (Some c) ≡ Some (read (placed_bits points c.first (max c.last (place (end_index level seg c.period c.phase)))))
  unfolding clocked ended read
  clock-ended h e = rw (le-ltb c.count enough_points h, e)

  module _ (end : ℕ) (a : c.first ≤ end) where
    length-all : length (placed_bits points c.first end) ≡ end - c.first + 2
    unfolding placed_bits
    length-all = let l = length-bits points c.first (end + 1 - c.first) in omega arith

    take-all-bits : (len : ℕ) → len ≡ min (end - c.first + 2) most_bits → Rising c.first points
        → 1 ∷ walked points c.first (len - 1) ≡ take most_bits (placed_bits points c.first end)
    unfolding placed_bits
    take-all-bits len e r =
        let z : len - 1 ≡ min (most_bits - 1) (end + 1 - c.first) = omega arith in
        ap (λ (l : List ℕ). 1 ∷ l) (rw z (walk_is (min (most_bits - 1) (end + 1 - c.first)) c.first points r) ∙ sym (take-bits points c.first (most_bits - 1) (end + 1 - c.first)))

  pub clock-bits : (k : Float) (end n len : ℕ) (p : ℤ) (deep : Float) (old now : List ℕ) → enough_points ≤ c.count → k ≡ end_index level seg c.period c.phase → lost k ≡ false → end ≡ max c.last (place k)
      → n ≡ end - c.first + 2 → len ≡ min n most_bits → p ≡ ppm_of c.period (nominal_of rate) → deep ≡ kth binary64 depths (c.count / 2) → Ready c points
      → now ≡ (1 ∷ walked points c.first (len - 1)) ++ drop len old
      → Tells (clocked seg rate level points depths (Some c)) old (Some (record { count = n; period = c.period; clock_error_ppm = p; level = level; points = c.count; depth = deep })) now
  unfolding values_of handed read
  clock-bits k end n len p deep old now h ke kl e q m pe de r w =
      let o = r.order (omega arith) in
      let a : c.first ≤ end = omega arith in
      let full = length-all end a in
      let s : clocked seg rate level points depths (Some c) ≡ Some (read (placed_bits points c.first end)) =
      clock-ended h (ap lost (sym ke) ∙ kl) ∙ ap (λ (x : ℕ). Some (read (placed_bits points c.first x))) (ap (λ (x : Float). max c.last (place x)) (sym ke) ∙ sym e) in
      let d : min most_bits (length (placed_bits points c.first end)) ≡ len = omega arith in
      let t : 1 ∷ walked points c.first (len - 1) ≡ take most_bits (placed_bits points c.first end) = take-all-bits end a len (m ∙ ap (λ (x : ℕ). min x most_bits) q) r.rising in
      (rw (s, full, q, pe, de), rw (s, d) (w ∙ ap (λ (l : List ℕ). l ++ drop len old) t))

-- ---- from the samples

pub no_samples : (seg : List Float) (rate : ℕ) → length seg ≡ 0 → outcome seg rate ≡ None
unfolding outcome
no_samples [] rate e = refl
no_samples (x ∷ l) rate e = absurd (omega arith)

pub some_samples : (seg : List Float) (rate : ℕ) (level : Float) → 0 < length seg → level ≡ quantile level_quantile seg → outcome seg rate ≡ from_dips seg rate level (found_in seg rate level)
unfolding outcome
some_samples [] rate level h e = absurd (omega arith)
some_samples (x ∷ l) rate level h e = rw e

module _ (seg : List Float) (rate : ℕ) (level : Float) (ds : List Dip) where
  pub few-dips : length ds < enough_dips → from_dips seg rate level ds ≡ None
  unfolding from_dips
  few-dips h = rw (lt-ltb (length ds) enough_dips h)

  pub dips-clock : (start : Clock) → enough_dips ≤ length ds → start ≡ start_clock (nominal_of rate) (anchor (nominal_of rate) (get_or (positions_of ds) 0 nan) (positions_of ds))
      → from_dips seg rate level ds ≡ clocked seg rate level (points_from start (positions_of ds)) (depths_from start (positions_of ds) (depths_of ds)) (fit_from start (positions_of ds))
  unfolding from_dips
  dips-clock start h e = rw (le-ltb (length ds) enough_dips h, e) (running_is seg rate level (nominal_of rate) (anchor (nominal_of rate) (get_or (positions_of ds) 0 nan) (positions_of ds)) ds)

module _ (seg : List Float) (rate : ℕ) (level : Float) (ds hs : List Float) where
  pub lost-clock : (start : Clock) (now deep : List Float) → Tracked start ds hs None now deep → clocked seg rate level (points_from start ds) (depths_from start ds hs) (fit_from start ds) ≡ None
  unfolding clocked
  lost-clock start now deep t = rw (sym t.fit)

  -- a fitted clock, with what stands in the slice
  module _ (start c : Clock) (now deep : List Float) (z : start.count ≡ 0) (t : Tracked start ds hs (Some c) now deep) where
    fitted : fit_from start ds ≡ Some c
    fitted = sym t.fit

    empty : Good start
    empty = record { order = λ h. absurd (omega arith); low = λ h. absurd (omega arith) }

    pub kept-places : places (take c.count now) ≡ points_from start ds
    kept-places = ap (map (to_unsigned 64)) (t.holds c refl) ∙ places_back (points_from start ds) (facts start c ds fitted empty).small

    pub kept-ready : Ready c (places (take c.count now))
    kept-ready =
        let f = facts start c ds fitted empty in
        rw kept-places (record { rising = rising_first (points_from start ds) c.first (f.starts z) (f.opens z); order = f.good.order; low = f.good.low })

    pub kept-few : c.count ≤ length ds
    kept-few = let f = facts start c ds fitted empty in omega (arith, f.many, points-few start ds)

    pub kept-deep : AllNumbers hs → Numbers (take c.count deep)
    kept-deep n = rw (t.depths c refl) (each_number (depths_from start ds hs) (kept_numbers start ds hs n))

    pub kept-clock : clocked seg rate level (points_from start ds) (depths_from start ds hs) (fit_from start ds) ≡ clocked seg rate level (places (take c.count now)) (take c.count deep) (Some c)
    kept-clock = rw (kept-places, t.depths c refl, fitted)

-- a list in the front of a slice
pub front : (ds old now : List Float) (n : ℕ) → Written ds old n now → take n now ≡ ds
front ds old now n w = ap (take n) w.holds ∙ take_at ds (drop n old) n (sym w.count)

pub ppm-fits : (period nominal : Float) → SFits w32 (ppm_of period nominal)
unfolding ppm_of
ppm-fits period nominal = signed-fits w32 31 _ refl

-- ---- the calls of `bits_of`, in order: the level, the dips into a slice, the clock's start

module _ (seg : List Float) (rate : ℕ) (level wide : Float) (old now : List Float) (n : ℕ) (h : 0 < length seg) (le : level ≡ quantile level_quantile seg)
    (we : wide ≡ level) (w : Stored (found_in seg rate wide) old n now) where
  found : List Dip
  found = found_in seg rate level

  many : n ≡ length found
  unfolding found
  many = w.positions.count ∙ length-map (found_in seg rate wide) (λ (d : Dip). d.at) ∙ ap (λ (x : Float). length (found_in seg rate x)) we

  from : outcome seg rate ≡ from_dips seg rate level found
  unfolding found
  from = some_samples seg rate level h le

  pub samples-few : n < enough_dips → outcome seg rate ≡ None
  samples-few a = from ∙ few-dips seg rate level found (omega (arith, many))

  module _ (ds hs : List Float) (de : ds ≡ take n (take depths_at now)) (he : hs ≡ take n (drop depths_at now)) where
    positions : ds ≡ positions_of found
    unfolding found
    positions = de ∙ front (positions_of (found_in seg rate wide)) (take depths_at old) (take depths_at now) n w.positions ∙ ap (λ (x : Float). positions_of (found_in seg rate x)) we

    deep : hs ≡ depths_of found
    unfolding found
    deep = he ∙ front (depths_of (found_in seg rate wide)) (drop depths_at old) (drop depths_at now) n w.depths ∙ ap (λ (x : Float). depths_of (found_in seg rate x)) we

    pub samples-deep : all_dbm seg ≡ true → AllNumbers hs
    unfolding found
    samples-deep v = rw deep (depths-numbers seg v rate level)

    pub samples-clock : (nominal phase : Float) (start : Clock) → enough_dips ≤ n → nominal ≡ nominal_of rate → phase ≡ anchor nominal (get_or ds 0 nan) ds
        → start ≡ start_clock nominal phase → outcome seg rate ≡ clocked seg rate level (points_from start ds) (depths_from start ds hs) (fit_from start ds)
    samples-clock nominal phase start a ne pe se =
        let s : start ≡ start_clock (nominal_of rate) (anchor (nominal_of rate) (get_or ds 0 nan) ds) = se ∙ rw (pe, ne) in
        from ∙ dips-clock seg rate level found start (omega (arith, many)) (rw positions at s) ∙ rw (positions, deep)
