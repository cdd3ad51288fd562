-- A burst that is looked at: the code's numbers are the ledger's, and what is done with a burst that is taken. Assumes nothing.
use Rattle.std.proofs.Common.{Option, None, Some}
use mathlib.Core.Path.{◌≡◌, sym, ap, ◌∙◌}
use mathlib.Core.List.{List, [], ◌∷◌, ◌++◌}
use mathlib.Core.Bool.{Bool, true, false, ◌&&◌, cond}
use Prim.Native.Nat.{ℕ, ◌+◌, ◌*◌, ◌≤◌, ◌<◌}
use native.Mathlib.Omega.{arith}
use lib.IntN.{ℤ, pos}
use lib.ListN.{length, length-append, length-map, length-take}
use lib.Seq.{sets}
use lib.Dec.{ltb}
use lib.Ieee.{Float}
use borrow.Author.Tests.{ltb-true}
use Rattle.limits.specs.Limits.{record_size}
use Rattle.bursts.specs.declared.Burst.{Burst}
use Rattle.demod.specs.Decode.{decode_burst}
use Rattle.demod.specs.declared.DecodedFrame.{DecodedFrame}
use Rattle.demod.proofs.DecodedFacts.{Lawful, burst_lawful}
use Rattle.ledger.specs.Frames.{frame_at, right_crc}
use Rattle.ledger.specs.Ledger.{Ledger, by_entry, seconds, join, hear, remember, takes, take_one}
use Rattle.ledger.specs.Room.{open_places, event_places, room, take_one_if}
use Rattle.ledger.specs.Causes.{most_starts}
use Rattle.ledger.specs.Demodulation.{held_frame, demod_of}
use Rattle.ledger.specs.Records.{frame_bytes}
use Rattle.receiver_starts.specs.Starts.{distances}
use Rattle.receiver_starts.proofs.SampleLaws.{near-index, one_more}
use Rattle.receiver_starts.specs.declared.Starts.{Starts}
use Rattle.receiver_waiting.specs.Waiting.{waiting_of}
use Rattle.receiver_waiting.specs.declared.Waiting.{Waiting}
use Rattle.receiver_scan.specs.declared.Scanned.{Scanned}
use Rattle.receiver_scan.specs.Midway.{Midway, Within, Does, has_room, takes_at, taken}
use Rattle.ledger.proofs.Basics.{and_true}
use Rattle.receiver_scan.proofs.EventLaws.{heard-sized, heard-events}

-- ---- a choice by a test that is known

pub if_true : {A : Type 0} (t : Bool) (v x y : A) → t ≡ true → v ≡ x → v ≡ cond t x y
if_true t v x y q e = rw q e

pub if_false : {A : Type 0} (t : Bool) (v x y : A) → t ≡ false → v ≡ y → v ≡ cond t x y
if_false t v x y q e = rw q e

-- ---- the steps of a burst that is taken

module _ (l : Ledger by_entry) (old : List ℕ) (s : Starts) (w : Waiting) (n : ℕ) (e : List ℕ) (m : Midway l old s w n e) where
  mid-remember : (i : ℕ) (t : Starts) → distances t ≡ distances s ++ (pos i ∷ []) → Midway (remember l (l.base + i)) old t w n e
  unfolding remember
  mid-remember i t q =
      record {
        starts = q ∙ ap (λ (r : List ℤ). r ++ (pos i ∷ [])) m.starts ∙ one_more l.base l.starts i;
        waiting = m.waiting;
        count = m.count;
        events = m.events;
        sized = m.sized;
      }

  mid_none : (x : ℕ) → Midway (hear l x None) old s w n e
  unfolding hear
  mid_none x = m

  mid_some : (x : ℕ) (d : DecodedFrame) (v : Waiting) (f : List ℕ) → Lawful d.frame → record_size * (n + 1) ≤ length e
      → waiting_of v ≡ cond d.frame.crc_ok (join by_entry (frame_at x d) (waiting_of w)) (waiting_of w)
      → f ≡ sets e (record_size * n) (frame_bytes (frame_at x d)) → Midway (hear l x (Some d)) old s v (n + 1) f
  unfolding hear right_crc
  mid_some x d v f lawful place q k =
      record {
        starts = m.starts;
        waiting = rw m.waiting at q;
        count = omega (arith, m.count, length-append l.heard (frame_at x d ∷ []));
        events = k ∙ heard-events l.heard (frame_at x d) lawful old m.sized n e m.count m.events place;
        sized = heard-sized l.heard (frame_at x d) lawful old m.sized;
      }

module _ (rate : ℕ) (b : Burst) (held : List Float) (base : ℕ) (s : Scanned) (e : List ℕ) (t : Starts) (x : Option DecodedFrame)
    (q : distances t ≡ distances s.starts ++ (pos b.start ∷ [])) (d : x ≡ decode_burst held rate b (seconds rate base)) where
  decoded_is : (l : Ledger by_entry) → l.held ≡ held → l.base ≡ base → held_frame rate l.held (seconds rate l.base) b ≡ x
  decoded_is l h p = rw (h, p) (sym d)

  pub does_without : x ≡ None → Within (record { starts = t; waiting = s.waiting; count = s.count })
      → Does (taken rate b) held base s e (record { starts = t; waiting = s.waiting; count = s.count }) e
  does_without o inside =
      record {
        midway = λ l old h p m.
            rw (decoded_is l h p ∙ o)
            (mid_none (remember l (l.base + b.start)) old t s.waiting s.count e
            (mid-remember l old s.starts s.waiting s.count e m b.start t q) (l.base + b.start));
        within = inside;
      }

  pub does_frame : (y : DecodedFrame) (v : Waiting) (f : List ℕ) → x ≡ Some y → Within (record { starts = t; waiting = v; count = s.count + 1 })
      → record_size * (s.count + 1) ≤ length e
      → waiting_of v ≡ cond y.frame.crc_ok (join by_entry (frame_at (base + b.start) y) (waiting_of s.waiting)) (waiting_of s.waiting)
      → f ≡ sets e (record_size * s.count) (frame_bytes (frame_at (base + b.start) y))
      → Does (taken rate b) held base s e (record { starts = t; waiting = v; count = s.count + 1 }) f
  does_frame y v f o inside place j k =
      let lawful : Lawful y.frame = burst_lawful held rate b (seconds rate base) y (sym d ∙ o) in
      record {
        midway = λ l old h p m.
            rw (decoded_is l h p ∙ o)
            (mid_some (remember l (l.base + b.start)) old t s.waiting s.count e
            (mid-remember l old s.starts s.waiting s.count e m b.start t q) (l.base + b.start) y v f lawful place
            (rw (← p) at j) (rw (← p) at k));
        within = inside;
      }

-- ---- which burst is taken

pub room_fits : (a b c : ℕ) → has_room a b c ≡ true → (a < most_starts) × (b < open_places) × (c < event_places)
room_fits a b c e =
    let x = and_true (ltb a most_starts) (ltb b open_places && ltb c event_places) e in
    let y = and_true (ltb b open_places) (ltb c event_places) x.1 in
    (ltb-true a most_starts x.0, ltb-true b open_places y.0, ltb-true c event_places y.1)

module _ (held : List Float) (base : ℕ) (s : Scanned) (e : List ℕ) (inside : Within s) (h : length s.starts.at ≡ 96) (k : length s.waiting.messages ≡ open_places) where
  room_of : (l : Ledger by_entry) (old : List ℕ) → Midway l old s.starts s.waiting s.count e → room l ≡ has_room s.starts.count s.waiting.count s.count
  unfolding room
  room_of l old m =
      let a : length l.starts ≡ s.starts.count = sym (length-map l.starts _) ∙ ap length (sym m.starts) ∙ length-take s.starts.count s.starts.at ∙ omega (arith, inside.starts) in
      let c : length l.waiting ≡ s.waiting.count = ap length (sym m.waiting) ∙ length-take s.waiting.count s.waiting.messages ∙ omega (arith, inside.waiting) in
      rw (a, c, ← m.count)

  module _ (rate wait : ℕ) (b : Burst) where
    abbrev One : Scanned → List ℕ → Type 0
    One t f = Does (λ l. take_one_if rate (demod_of rate) wait l b) held base s e t f

    pub does-full : has_room s.starts.count s.waiting.count s.count ≡ false → One s e
    unfolding take_one_if
    does-full q = record { midway = λ l old u p m. rw (room_of l old m ∙ q) m; within = inside }

    takes_of : (l : Ledger by_entry) (old : List ℕ) → l.held ≡ held → l.base ≡ base → Midway l old s.starts s.waiting s.count e
        → takes rate wait l b ≡ takes_at rate wait (distances s.starts) (length held) b
    unfolding takes
    takes_of l old u p m =
        let z = m.starts in
        let y = near-index rate l.base l.starts b.start in
        cc

    pub does_not : has_room s.starts.count s.waiting.count s.count ≡ true → takes_at rate wait (distances s.starts) (length held) b ≡ false → One s e
    unfolding take_one_if take_one
    does_not r q = record { midway = λ l old u p m. rw (room_of l old m ∙ r, takes_of l old u p m ∙ q) m; within = inside }

    pub does-take : has_room s.starts.count s.waiting.count s.count ≡ true → takes_at rate wait (distances s.starts) (length held) b ≡ true
        → (t : Scanned) (f : List ℕ) → Does (taken rate b) held base s e t f → One t f
    unfolding take_one_if take_one
    does-take r q t f g = record { midway = λ l old u p m. rw (room_of l old m ∙ r, takes_of l old u p m ∙ q) (g.midway l old u p m); within = g.within }
