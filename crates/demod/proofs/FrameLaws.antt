-- From the bits of a burst to its frame: they are bits, and the first 1,024 decode as all do. Assumes nothing.
use Rattle.std.proofs.Common.{Option, None, Some}
use mathlib.Core.Path.{◌≡◌, refl, sym, ap, ap₂, ◌∙◌, subst}
use mathlib.Core.Bool.{Bool, true, false, cond, ◌&&◌}
use mathlib.Core.List.{List, [], ◌∷◌, map}
use Prim.Native.Nat.{ℕ, zero, suc, ◌≤◌, min}
use lib.IntN.{ℤ}
use native.Mathlib.Omega.{arith}
use lib.Dec.{T, leb, ltb, lit≤}
use lib.ListN.{length, take, drop, get_or, length-take}
use lib.Seq.{take_at}
use lib.Ieee.{Float, nan}
use mir.Syntax.{w32}
use mir.Val.{to_z, of_z, SFits}
use mir.ValLaws.{to_z-of_z}
use Rattle.limits.specs.Limits.{most_bits}
use Rattle.limits.proofs.Samples.{and_left, and_right}
use Rattle.rates.specs.Numbers.{level_quantile}
use Rattle.rates.specs.Rates.{nominal_of}
use Rattle.coding.specs.Bits.{odd, are_bits}
use Rattle.frame.specs.Decode.{decode_uplink}
use Rattle.frame.specs.declared.UplinkFrame.{UplinkFrame}
use Rattle.frame.proofs.PrefixLaws.{decode_prefix}
use Rattle.bursts.specs.Levels.{quantile}
use Rattle.dips.specs.Dips.{Dip, positions_of, found_in}
use Rattle.clock.specs.Numbers.{enough_dips, enough_points}
use Rattle.clock.specs.Clock.{anchor, lost, as_index, Point, BitClock, first_index, last_index, start_clock, track}
use Rattle.clock.specs.Bits.{end_index, larger, indexes, on_grid, bit_at, all_bits, Recovered, Outcome, ended, clocked, from_dips, outcome, handed, values_of}
use Rattle.clock.specs.declared.BurstBits.{BurstBits}
use Rattle.clock.proofs.BitLaws.{ppm-fits}
use Rattle.demod.specs.declared.DecodedFrame.{DecodedFrame}
use Rattle.demod.specs.Decode.{depth_byte, with_burst, heard_in}

-- ---- every outcome's bits are bits, and its ppm is an i32

Clean : Outcome → Type 0
Clean None = T true
Clean (Some b) = (are_bits b.bits ≡ true) × SFits w32 b.ppm

clean_if : (t : Bool) (o : Outcome) → Clean o → Clean (cond t None o)
unfolding Clean
clean_if true o c = tt
clean_if false o c = c

clean_at : (points : List Point) (l : List ℤ) → are_bits (map (bit_at points) l) ≡ true
unfolding are_bits bit_at
clean_at points [] = refl
clean_at points (k ∷ l) = go (on_grid k points) (clean_at points l)
  where
    go : (t : Bool) → are_bits (map (bit_at points) l) ≡ true → leb (cond t 0 1) 1 && are_bits (map (bit_at points) l) ≡ true
    go true e = e
    go false e = e

clean_all : (points : List Point) (end : ℤ) → are_bits (all_bits points end) ≡ true
unfolding all_bits are_bits
clean_all points end = clean_at points (indexes (first_index points) (larger (last_index points) end))

clean-ended : (seg : List Float) (rate : ℕ) (level : Float) (c : BitClock) → Clean (ended seg rate level c)
unfolding Clean ended
clean-ended seg rate level c =
    clean_if (lost (end_index level seg c.period c.phase)) _ (clean_all c.points (as_index (end_index level seg c.period c.phase)), ppm-fits c.period (nominal_of rate))

clean-clocked : (seg : List Float) (rate : ℕ) (level : Float) (o : Option BitClock) → Clean (clocked seg rate level o)
unfolding Clean clocked
clean-clocked seg rate level None = tt
clean-clocked seg rate level (Some c) = clean_if (ltb (length c.points) enough_points) (ended seg rate level c) (clean-ended seg rate level c)

clean-dips : (seg : List Float) (rate : ℕ) (level : Float) (ds : List Dip) → Clean (from_dips seg rate level ds)
unfolding from_dips
clean-dips seg rate level ds =
    let clock = track (start_clock (nominal_of rate) (anchor (nominal_of rate) (get_or (positions_of ds) 0 nan) (positions_of ds))) ds in
    clean_if (ltb (length ds) enough_dips) (clocked seg rate level clock) (clean-clocked seg rate level clock)

clean-outcome : (seg : List Float) (rate : ℕ) → Clean (outcome seg rate)
unfolding Clean outcome
clean-outcome [] rate = tt
clean-outcome (x ∷ l) rate = clean-dips (x ∷ l) rate (quantile level_quantile (x ∷ l)) (found_in (x ∷ l) rate (quantile level_quantile (x ∷ l)))

take-clean : (n : ℕ) (l : List ℕ) → are_bits l ≡ true → are_bits (take n l) ≡ true
unfolding are_bits
take-clean zero l e = refl
take-clean (suc n) [] e = refl
take-clean (suc n) (x ∷ l) e = rw (and_left (leb x 1) (are_bits l) e) (take-clean n l (and_right (leb x 1) (are_bits l) e))

map-take : (n : ℕ) (l : List ℕ) → map odd (take n l) ≡ take n (map odd l)
map-take zero l = refl
map-take (suc n) [] = refl
map-take (suc n) (x ∷ l) = ap (λ (m : List Bool). odd x ∷ m) (map-take n l)

-- ---- what the values of a burst's bits say of its outcome

pub told_nothing : (o : Outcome) (t e r : Float) → None ≡ values_of o → None ≡ heard_in t e r o
unfolding values_of heard_in
told_nothing None t e r q = refl
told_nothing (Some b) t e r q = absurd (let z : ◌≡◌ {A = ℕ} 0 1 = cc in omega arith)

record Says (o : Outcome) (v : BurstBits) : Type 0 where
  read : Recovered
  is : o ≡ Some read
  count : v.count ≡ length read.bits
  ppm : v.clock_error_ppm ≡ read.ppm
  depth : v.depth ≡ read.depth

says : (o : Outcome) (v : BurstBits) → Some v ≡ values_of o → Says o v
unfolding values_of
says None v q = absurd (let z : ◌≡◌ {A = ℕ} 0 1 = cc in omega arith)
says (Some b) v q =
    let e : v ≡ record { count = length b.bits; period = b.period; clock_error_ppm = b.ppm; level = b.level; points = b.dips; depth = b.depth } = cc in
    record { read = b; is = refl; count = ap (λ (x : BurstBits). x.count) e; ppm = ap (λ (x : BurstBits). x.clock_error_ppm) e; depth = ap (λ (x : BurstBits). x.depth) e }

module _ (seg : List Float) (rate : ℕ) (v : BurstBits) (q : Some v ≡ values_of (outcome seg rate))
    (old now : List ℕ) (w : now ≡ handed (outcome seg rate) old) (len : ℕ) (e : len ≡ min v.count most_bits) where
  s : Says (outcome seg rate) v
  s = says (outcome seg rate) v q

  clean : (are_bits s.read.bits ≡ true) × SFits w32 s.read.ppm
  unfolding Clean
  clean = subst Clean s.is (clean-outcome seg rate)

  sent : take len now ≡ take most_bits s.read.bits
  unfolding handed
  sent =
      let d : length (take most_bits s.read.bits) ≡ len = omega (arith, length-take most_bits s.read.bits, s.count) in
      ap (take len) (w ∙ rw s.is) ∙ take_at (take most_bits s.read.bits) (drop (min most_bits (length s.read.bits)) old) len d

  pub sent_length : len ≡ length (take len now)
  sent_length = sym (ap length sent ∙ omega (arith, length-take most_bits s.read.bits, s.count))

  pub sent_short : length (take len now) ≤ most_bits
  sent_short = omega (arith, sent_length)

  pub sent_bits : are_bits (take len now) ≡ true
  sent_bits = ap are_bits sent ∙ take-clean most_bits s.read.bits clean.0

  same : decode_uplink (map odd (take len now)) ≡ decode_uplink (map odd s.read.bits)
  same = ap (λ (b : List ℕ). decode_uplink (map odd b)) sent ∙ ap decode_uplink (map-take most_bits s.read.bits) ∙ decode_prefix most_bits (map odd s.read.bits) (lit≤ tt)

  -- the frame that was decoded is the burst's
  pub heard-frame : (t end r : Float) (y : ℕ) (d : Option UplinkFrame) (x : Option DecodedFrame) → y ≡ depth_byte v.depth → d ≡ decode_uplink (map odd (take len now))
      → x ≡ with_burst t end r (to_z w32 (of_z w32 v.clock_error_ppm)) y d → x ≡ heard_in t end r (outcome seg rate)
  unfolding heard_in
  heard-frame t end r y d x deep f shows =
      let m = v.clock_error_ppm in
      let g : to_z w32 (of_z w32 m) ≡ m = to_z-of_z w32 m (subst (λ (z : ℤ). SFits w32 z) (sym s.ppm) clean.1) in
      let i : heard_in t end r (outcome seg rate) ≡ with_burst t end r s.read.ppm (depth_byte s.read.depth) (decode_uplink (map odd s.read.bits)) = rw s.is in
      shows ∙ ap₂ (λ (z : ℤ) (c : ℕ). with_burst t end r z c d) (g ∙ s.ppm) (deep ∙ ap depth_byte s.depth) ∙ ap (with_burst t end r s.read.ppm (depth_byte s.read.depth)) (f ∙ same) ∙ sym i
