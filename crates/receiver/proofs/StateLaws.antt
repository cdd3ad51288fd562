-- A state in order. Assumes nothing.
use mathlib.Core.Bool.{Bool, ◌&&◌, false, not, true}
use mathlib.Core.List.{List}
use mathlib.Core.Logic.{◌⊎◌, inl, inr, ⊎_elim}
use mathlib.Core.Path.{◌≡◌, ◌∙◌, refl, sym}
use Prim.Native.Nat.{◌*◌, ◌+◌, ◌-◌, ◌/◌, ◌<◌, ◌^◌, ◌≤◌, ℕ}
use native.Mathlib.Omega.{arith}
use lib.Dec.{leb, ltb}
use lib.Ieee.{Float}
use lib.ListN.{drop, length, length-map, take}
use lib.Seq.{take-append_seam}
use borrow.Author.Tests.{le-leb, le-ltb, leb-false, leb-true, lt-leb, lt-ltb, ltb-false, ltb-true}
use Rattle.ledger.specs.Causes.{most_starts, oldest_s, orderly, starts_ordered}
use Rattle.ledger.specs.Ledger.{capacity}
use Rattle.limits.specs.Limits.{longest_stream}
use Rattle.limits.specs.Samples.{all_dbm}
use Rattle.ledger.proofs.Basics.{and_true}
use Rattle.receiver.specs.State.{counts_of, ledger_of, numbers_ok, samples_ok}
use Rattle.receiver_starts.specs.Starts as starts
use Rattle.receiver_starts.proofs.SampleLaws.{distances_back, order_is}
use Rattle.receiver_waiting.specs.Waiting as waiting
use Rattle.receiver_starts.specs.declared.Starts.{Starts}
use Rattle.receiver.specs.declared.SigfoxReceiver.{SigfoxReceiver}

either : (b : Bool) → (b ≡ true) ⊎ (b ≡ false)
either true = inl refl
either false = inr refl

pub not_true : (b : Bool) → not b ≡ true → b ≡ false
not_true true e = sym e
not_true false e = refl

pub not_false : (b : Bool) → not b ≡ false → b ≡ true
not_false true e = refl
not_false false e = sym e

-- ---- the numbers, without overflow

stream_is : (base held : ℕ) → held ≤ longest_stream → leb base (longest_stream - held) ≡ leb (base + held) longest_stream
stream_is base held h =
    ⊎_elim
    (λ e. let x = leb-true base (longest_stream - held) e in rw e (sym (le-leb (base + held) longest_stream (omega arith))))
    (λ e. let x = leb-false base (longest_stream - held) e in rw e (sym (lt-leb (base + held) longest_stream (omega arith))))
    (either (leb base (longest_stream - held)))

scanned_is : (u rate : ℕ) → ltb u ((rate + 1) / 2) ≡ ltb (2 * u) rate
scanned_is u rate =
    ⊎_elim
    (λ e. let x = ltb-true u ((rate + 1) / 2) e in rw e (sym (lt-ltb (2 * u) rate (omega arith))))
    (λ e. let x = ltb-false u ((rate + 1) / 2) e in rw e (sym (le-ltb (2 * u) rate (omega arith))))
    (either (ltb u ((rate + 1) / 2)))

pub numbers_out : (rate held base u : ℕ) → capacity rate < held → false ≡ numbers_ok rate held base u
numbers_out rate held base u h = rw (lt-leb held (capacity rate) h) refl

pub numbers_in : (rate held base u : ℕ) → rate < 2 ^ 32 → held ≤ capacity rate
    → leb base (longest_stream - held) && ltb u ((rate + 1) / 2) ≡ numbers_ok rate held base u
numbers_in rate held base u r h = rw (le-leb held (capacity rate) h, stream_is base held (omega arith), scanned_is u rate) refl

pub numbers_fit : (rate held base u : ℕ) → numbers_ok rate held base u ≡ true → (held ≤ capacity rate) × (base + held ≤ longest_stream)
numbers_fit rate held base u e =
    let a = and_true (leb held (capacity rate)) _ e in
    let b = and_true (leb (base + held) longest_stream) _ a.1 in
    (leb-true held (capacity rate) a.0, leb-true (base + held) longest_stream b.0)

-- ---- the order of the starts, over distances and over absolute samples

module _ (rate base held : ℕ) where
  module _ (s : Starts) (h : starts.starts_ok rate base held s ≡ true) where
    pub order-parts : (s.count ≤ most_starts) × (starts.all_from base (starts.distances s) ≡ true)
    order-parts =
        let a = and_true (leb s.count most_starts) _ h in
        let b = and_true (starts.all_below held (starts.distances s)) _ a.1 in
        let c = and_true (starts.all_from (oldest_s * rate) (starts.distances s)) _ b.1 in
        (leb-true s.count most_starts a.0, (and_true (starts.all_from base (starts.distances s)) _ c.1).0)

    -- a state in order stands for starts in order
    pub order-given : length (starts.distances s) ≡ s.count → starts_ordered rate base held (starts.remembered base s) ≡ true
    order-given q =
        let l = starts.remembered base s in
        let d : starts.distances_of base l ≡ starts.distances s = distances_back base (starts.distances s) order-parts.1 in
        let n : length l ≡ s.count = length-map (starts.distances s) _ ∙ q in
        sym (order_is rate base held l) ∙ rw (d, n) h

  -- and so the other way round
  pub order_over : (s : Starts) (l : List ℕ) → starts.starts_ok rate base held (starts.over s (starts.distances_of base l)) ≡ starts_ordered rate base held l
  unfolding starts.over
  order_over s l =
      let d = starts.distances_of base l in
      rw (take-append_seam d (drop (length d) s.at), length-map l (starts.distance_of base)) (order_is rate base held l)

-- ---- 01's order in the order of the code

regroup : (a v b u c d : Bool) → a && (v && (b && (u && (c && d)))) ≡ ((a && (b && u)) && (v && c)) && d
regroup false v b u c d = refl
regroup true true true true c d = refl
regroup true true true false c d = refl
regroup true true false u c d = refl
regroup true false true true c d = refl
regroup true false true false c d = refl
regroup true false false u c d = refl

pub orderly_is : (s : SigfoxReceiver) (buf : List Float) → orderly s.rate (counts_of s) (ledger_of s buf)
    ≡ samples_ok s.rate s.held s.base s.unscanned s.starts buf && waiting.waiting_ok s.waiting
unfolding orderly samples_ok
orderly_is s buf =
    regroup (leb s.held (capacity s.rate)) (all_dbm (take s.held buf)) (leb (s.base + s.held) longest_stream) (ltb (2 * s.unscanned) s.rate)
    (starts.starts_ok s.rate s.base s.held s.starts) (waiting.waiting_ok s.waiting)

module _ (rate held base u : ℕ) (s : Starts) (buf : List Float) where
  pub samples_not : numbers_ok rate held base u ≡ false → false ≡ samples_ok rate held base u s buf
  unfolding samples_ok
  samples_not h = rw h refl

  pub samples_are : (v a : Bool) → numbers_ok rate held base u ≡ true → v ≡ all_dbm (take held buf) → a ≡ starts.starts_ok rate base held s
      → v && a ≡ samples_ok rate held base u s buf
  unfolding samples_ok
  samples_are v a h hv ha = rw (hv, ha, h) refl

  -- what a state in order has
  pub samples-fit : samples_ok rate held base u s buf ≡ true
      → (held ≤ capacity rate) × (base + held ≤ longest_stream) × (s.count ≤ most_starts) × (starts.starts_ok rate base held s ≡ true)
  unfolding samples_ok
  samples-fit e =
      let a = and_true (numbers_ok rate held base u) _ e in
      let b = and_true (all_dbm (take held buf)) _ a.1 in
      let n = numbers_fit rate held base u a.0 in
      (n.0, n.1, leb-true s.count most_starts (and_true (leb s.count most_starts) _ b.1).0, b.1)
