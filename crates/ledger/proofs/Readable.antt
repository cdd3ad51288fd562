-- The frames of a run of binary32 samples have the widths of a record's fields.
use mathlib.Core.Path.{◌≡◌, refl}
use mathlib.Core.Logic.{⊎_elim}
use mathlib.Core.List.{List, [], ◌∷◌}
use Prim.Native.Nat.{ℕ, ◌+◌, ◌^◌, ◌≤◌, ◌<◌}
use native.Mathlib.Omega.{arith}
use lib.ListN.{length, take, drop, length-drop}
use lib.Dec.{T, eqb}
use lib.Ieee.{Float, binary32, binary64, fits}
use Rattle.limits.specs.Limits.{lowest_rate, highest_rate, longest_stream}
use Rattle.bursts.specs.Levels.{noise_floor}
use Rattle.demod.proofs.DecodedFacts.{burst_lawful, burst_written}
use Rattle.demod.proofs.NumberFacts.{Singles, SinglePeaks, singles-take, singles-drop, singles-join, bursts-single}
use Rattle.ledger.specs.Types.{Burst}
use Rattle.ledger.specs.Frames.{Frame, rank_of, rssi_of, time_of, start_of}
use Rattle.ledger.specs.Scanning.{scan_options, held_bursts}
use Rattle.ledger.specs.Demodulation.{demod_of}
use Rattle.ledger.specs.Ledger.{by_frames, capacity, half, seconds, Ledger, Call, halve, amount, add, scans}
use Rattle.ledger.proofs.Basics.{either, Every}
use Rattle.ledger.proofs.Bursts.{Proper, proper}
use Rattle.ledger.proofs.ScanRows.{scan-row}
use Rattle.ledger.proofs.Sizes.{halve-less, halve-sum, add-length, amount-le, amount-room}
use Rattle.ledger.proofs.Throughout.{EveryOpen, Holds, Gives, given, scans-holds, scans-known}

pub record Readable (f : Frame) : Type 0 where
  pub rank : rank_of f ≤ 2
  pub device : f.uplink.device_id < 256 ^ 4
  pub counter : f.uplink.counter < 256 ^ 2
  pub payload : length f.uplink.payload ≡ 12
  pub auth : length f.uplink.auth ≡ 5
  pub rssi : T (fits binary32 (rssi_of f))
  pub time : T (fits binary64 (time_of f))
  pub start : start_of f < 256 ^ 8

-- held samples, base, and samples to come
pub record Fed (rate : ℕ) (held : List Float) (base : ℕ) (xs : List Float) : Type 0 where
  pub singles : Singles held
  pub coming : Singles xs
  pub room : length held ≤ capacity rate
  pub stream : base + length held + length xs ≤ longest_stream

module _ (rate : ℕ) (lo : lowest_rate ≤ rate) (hi : rate ≤ highest_rate) where
  one_gives : (held : List Float) (base : ℕ) (b : Burst) → b.start < b.end → T (fits binary32 b.peak_dbm) → base + length held ≤ longest_stream
      → Gives rate (demod_of rate) Readable held base b
  unfolding rank_of rssi_of time_of start_of
  one_gives held base b p s h x n e =
      let t = seconds rate base in
      let l = burst_lawful held rate b t x e in
      let w = burst_written held rate b t x e s in
      record {
        rank = l.rank;
        device = l.device;
        counter = l.counter;
        payload = l.payload-places;
        auth = l.auth-places;
        rssi = w.rssi;
        time = w.time;
        start = omega arith;
      }

  all_give : (held : List Float) (base : ℕ) (bs : List Burst) → Proper rate bs → SinglePeaks bs → base + length held ≤ longest_stream
      → Every (Gives rate (demod_of rate) Readable held base) bs
  all_give held base [] p s h = tt
  all_give held base (b ∷ bs) p s h = (one_gives held base b (omega (arith, p.0)) s.0 h, all_give held base bs p.1 s.1 h)

  gives : (held xs : List Float) (base : ℕ) → Fed rate held base xs → Every (Gives rate (demod_of rate) Readable held base) (held_bursts rate held)
  gives held xs base q =
      all_give held base (held_bursts rate held) (proper rate (length held) 0 (held_bursts rate held) (scan-row rate lo hi held q.room))
      (bursts-single held rate scan_options (noise_floor held) q.singles) (omega (arith, q.stream))

  halve-singles : (l : Ledger by_frames) → Singles l.held → Singles (halve rate l).held
  unfolding halve
  halve-singles l w = ⊎_elim (λ e. rw e (singles-drop (half rate) l.held w)) (λ e. rw e w) (either (eqb (length l.held) (capacity rate)))

  add-singles : (l : Ledger by_frames) (xs : List Float) → Singles l.held → Singles xs → Singles (add rate l xs).held
  unfolding add
  add-singles l xs w v = singles-join l.held (take (amount rate l xs) xs) w (singles-take (amount rate l xs) xs v)

  add-base : (l : Ledger by_frames) (xs : List Float) → (add rate l xs).base ≡ l.base
  unfolding add
  add-base l xs = refl

  fed : (l : Ledger by_frames) (xs : List Float) → Fed rate l.held l.base xs
      → Fed rate (add rate (halve rate l) xs).held (add rate (halve rate l) xs).base (drop (amount rate (halve rate l) xs) xs)
  fed l xs q =
      let k = halve rate l in
      let a = amount rate k xs in
      let less = halve-less rate l (omega arith) q.room in
      let n = add-length rate k xs in
      record {
        singles = add-singles k xs (halve-singles l q.singles) q.coming;
        coming = singles-drop a xs q.coming;
        room = omega (arith, n, amount-room rate k xs (omega arith));
        stream = omega (arith, n, add-base k xs, halve-sum rate l (omega arith) q.room, amount-le rate k xs, length-drop a xs, q.stream);
      }

  pub scans-readable : (l : Ledger by_frames) (c : Call) → Fed rate l.held l.base (given c) → EveryOpen Readable l.waiting
      → Holds Readable (scans rate (demod_of rate) l c)
  scans-readable l c q w = scans-holds rate (demod_of rate) Readable (Fed rate) gives fed l c q w

  pub scans-singles : (l : Ledger by_frames) (c : Call) → Fed rate l.held l.base (given c) → Singles (scans rate (demod_of rate) l c).held
  scans-singles l c q = (scans-known rate (demod_of rate) Readable (Fed rate) gives fed l c q).1.singles
