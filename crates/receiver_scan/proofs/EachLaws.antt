-- The loop over the bursts of a scan, and its end. Assumes nothing.
use Rattle.std.proofs.Common.{Option, None, Some}
use mathlib.Core.Path.{◌≡◌, refl, ap, ◌∙◌}
use mathlib.Core.List.{List, [], ◌∷◌}
use mathlib.Core.Bool.{Bool, true, false, cond}
use Prim.Native.Nat.{ℕ, ◌+◌, ◌≤◌}
use native.Mathlib.Omega.{arith}
use lib.ListN.{length}
use lib.Ieee.{Float}
use Rattle.bursts.specs.declared.Burst.{Burst}
use Rattle.bursts.specs.Levels.{noise_floor}
use Rattle.bursts.specs.Bursts.{threshold, gap_samples, bursts_in, first_from}
use Rattle.bursts.specs.declared.BurstOptions.{BurstOptions}
use Rattle.bursts.specs.Found.{bursts_from}
use Rattle.bursts.proofs.ClusterLaws.{left_end}
use Rattle.bursts.proofs.SearchLaws.{from_start}
use Rattle.bursts.proofs.Rows.{Next}
use Rattle.demod.specs.declared.DecodedFrame.{DecodedFrame}
use Rattle.ledger.specs.Scanning.{scan_options, held_bursts}
use Rattle.ledger.specs.Ledger.{Ledger, by_entry, Demod, hear, remember, takes, seconds, take_one, forget}
use Rattle.ledger.specs.Room.{room, take_one_if, take_each_if, scan_if}
use Rattle.ledger.specs.Causes.{most_starts}
use Rattle.ledger.specs.Demodulation.{demod_of}
use Rattle.receiver_starts.specs.Starts.{distances, lately}
use Rattle.receiver_starts.proofs.SampleLaws.{lately_is}
use Rattle.receiver_starts.specs.declared.Starts.{Starts}
use Rattle.receiver_scan.specs.declared.Scanned.{Scanned}
use Rattle.receiver_scan.specs.Midway.{Midway, Within, Does}

-- ---- held samples and base stay through a scan

pub record Stays (l m : Ledger by_entry) : Type 0 where
  pub held : m.held ≡ l.held
  pub base : m.base ≡ l.base
  pub unscanned : m.unscanned ≡ l.unscanned

stay : (l : Ledger by_entry) → Stays l l
stay l = record { held = refl; base = refl; unscanned = refl }

heard-stays : (l : Ledger by_entry) (s : ℕ) (o : Option DecodedFrame) → Stays l (hear (remember l s) s o)
unfolding hear remember
heard-stays l s None = record { held = refl; base = refl; unscanned = refl }
heard-stays l s (Some d) = record { held = refl; base = refl; unscanned = refl }

module _ (rate : ℕ) (d : Demod) (wait : ℕ) where
  pub one_stays : (l : Ledger by_entry) (b : Burst) → Stays l (take_one_if rate d wait l b)
  unfolding take_one_if take_one
  one_stays l b = go (room l) (takes rate wait l b)
    where
      go : (r t : Bool) → Stays l (cond r (cond t (hear (remember l (l.base + b.start)) (l.base + b.start) (d.decode l.held (seconds rate l.base) b)) l) l)
      go true true = heard-stays l (l.base + b.start) (d.decode l.held (seconds rate l.base) b)
      go true false = stay l
      go false t = stay l

  pub each_stays : (l : Ledger by_entry) (bs : List Burst) → Stays l (take_each_if rate d wait l bs)
  unfolding take_each_if
  each_stays l [] = stay l
  each_stays l (b ∷ bs) =
      let o = one_stays l b in
      let m = each_stays (take_one_if rate d wait l b) bs in
      record { held = m.held ∙ o.held; base = m.base ∙ o.base; unscanned = m.unscanned ∙ o.unscanned }

  pub scan-stays : (l : Ledger by_entry) → Stays l (scan_if rate d wait l)
  unfolding scan_if forget
  scan-stays l = let m = each_stays l (d.bursts l.held) in record { held = m.held; base = m.base; unscanned = m.unscanned }

-- ---- the loop

module _ (rate wait base : ℕ) (held : List Float) where
  abbrev pub bursts_left : ℕ → List Burst
  bursts_left at = bursts_from held rate scan_options (noise_floor held) at

  -- what the code's search answers is the next burst of the scan
  pub searched : (o : BurstOptions) (floor : Float) (r : Option Burst) (at : ℕ) → o ≡ scan_options → floor ≡ noise_floor held
      → r ≡ first_from 0 (bursts_from held rate o floor at) → r ≡ first_from 0 (bursts_left at)
  searched o floor r at p q e = rw (p, q) at e

  -- the ledger on the way: what is left to be done with it is what is left to be done with l
  pub record Reached (l : Ledger by_entry) (old : List ℕ) (t : Scanned) (e : List ℕ) (at : ℕ) : Type 0 where
    pub here : Ledger by_entry
    pub samples : here.held ≡ held
    pub first : here.base ≡ base
    pub midway : Midway here old t.starts t.waiting t.count e
    pub rest : take_each_if rate (demod_of rate) wait here (bursts_left at) ≡ take_each_if rate (demod_of rate) wait l (held_bursts rate held)

  pub record EachAt (s : Scanned) (e : List ℕ) (t : Scanned) (f : List ℕ) (at : ℕ) : Type 0 where
    pub inside : at ≤ length held
    pub within : Within t
    pub size : length f ≡ length e
    pub reached : (l : Ledger by_entry) (old : List ℕ) → l.held ≡ held → l.base ≡ base → Midway l old s.starts s.waiting s.count e → Reached l old t f at

  abbrev pub Each : Scanned → List ℕ → Scanned → List ℕ → Type 0
  Each s e t f = Does (λ l. take_each_if rate (demod_of rate) wait l (held_bursts rate held)) held base s e t f

  pub each_start : (s : Scanned) (e : List ℕ) → Within s → EachAt s e s e 0
  each_start s e w =
      record {
        inside = omega arith;
        within = w;
        size = refl;
        reached = λ l old h p m. record { here = l; samples = h; first = p; midway = m; rest = rw (from_start held rate scan_options (noise_floor held)) };
      }

  module _ (s : Scanned) (e : List ℕ) (t : Scanned) (f : List ℕ) (at : ℕ) (c : EachAt s e t f at) where
    pub each_more : (b : Burst) → Next held rate scan_options (noise_floor held) at b → (u : Scanned) (g : List ℕ) → length g ≡ length f
        → Does (λ l. take_one_if rate (demod_of rate) wait l b) held base t f u g → EachAt s e u g b.end
    unfolding take_each_if
    each_more b n u g z d =
        record {
          inside = n.inside;
          within = d.within;
          size = z ∙ c.size;
          reached = λ l old h p m.
              let r = c.reached l old h p m in
              let y = one_stays rate (demod_of rate) wait r.here b in
              record {
                here = take_one_if rate (demod_of rate) wait r.here b;
                samples = y.held ∙ r.samples;
                first = y.base ∙ r.first;
                midway = d.midway r.here old r.samples r.first r.midway;
                rest = rw n.list at r.rest;
              };
        }

    -- the search found none
    pub each-end : bursts_left at ≡ [] → Each s e t f
    unfolding take_each_if
    each-end q =
        record {
          midway = λ l old h p m.
              let r = c.reached l old h p m in
              let z : r.here ≡ take_each_if rate (demod_of rate) wait l (held_bursts rate held) = rw q at r.rest in
              rw (← z) r.midway;
          within = c.within;
        }

    -- nothing is left to search
    pub each-past : length held ≤ at → Each s e t f
    unfolding bursts_from bursts_in
    each-past h =
        each-end (ap (bursts_in held rate scan_options (noise_floor held)) (left_end (threshold scan_options (noise_floor held)) (gap_samples scan_options rate) held at h))

  -- ---- the end of a scan

  pub does_scan : (s : Scanned) (e : List ℕ) (t : Scanned) (f : List ℕ) (x : Starts) → Each s e t f → distances x ≡ lately rate (distances t.starts)
      → x.count ≤ most_starts → Does (scan_if rate (demod_of rate) wait) held base s e (record { starts = x; waiting = t.waiting; count = t.count }) f
  unfolding scan_if forget
  does_scan s e t f x d q n =
      record {
        midway = λ l old h p m.
            let y = rw (← h) at (d.midway l old h p m) in
            let k = take_each_if rate (demod_of rate) wait l (held_bursts rate l.held) in
            record {
              starts = q ∙ ap (lately rate) y.starts ∙ lately_is rate k.base k.starts;
              waiting = y.waiting;
              count = y.count;
              events = y.events;
              sized = y.sized;
            };
        within = record { starts = n; waiting = d.within.waiting; count = d.within.count };
      }
