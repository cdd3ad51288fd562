-- The test for room never fails, from any state that is in order.
use mathlib.Core.Path.{◌≡◌, refl, ap}
use mathlib.Core.Logic.{⊎_elim}
use mathlib.Core.List.{List, [], ◌∷◌}
use mathlib.Core.Bool.{true}
use Prim.Native.Nat.{ℕ, zero, suc, ◌+◌, ◌*◌, ◌≤◌, ◌<◌}
use native.Mathlib.Omega.{arith}
use lib.ListN.{length, drop}
use lib.Dec.{leb}
use lib.Ieee.{Float}
use borrow.Author.Tests.{lt-ltb}
use Rattle.ledger.specs.Types.{Burst}
use Rattle.ledger.specs.Ledger.{Kind, Demod, tail, Ledger, Call, push, flush, take_one, take_each, forget, scan, halve, amount, add, scanned, due, fill, fills, start_call, scans}
use Rattle.ledger.specs.Causes.{most_starts, most_waiting}
use Rattle.ledger.specs.Room.{Fair, InOrder, Accepted, ThroughBursts, ThroughFill, ThroughFills, Room, push_frames, flush_frames, open_places, event_places, room, take_one_if, take_each_if, scan_if, due_if, fill_if, fills_if, scans_if}
use Rattle.ledger.proofs.Basics.{either}
use Rattle.ledger.proofs.OpenKinds.{Lawful}
use Rattle.ledger.proofs.Orderly.{bounded}

module _ {K : Kind} where
  -- less than the arrays hold
  pub room_is : (s w h : ℕ) (l : Ledger K) → s < most_starts → w < open_places → h < event_places → Room s w h l → room l ≡ true
  unfolding room
  room_is s w h l a b c r =
      rw (
        lt-ltb (length l.starts) most_starts (omega (arith, r.starts)),
        lt-ltb (length l.waiting) open_places (omega (arith, r.waiting)),
        lt-ltb (length l.heard) event_places (omega (arith, r.heard)),
      )
      refl

  module _ (P : Ledger K → Type 0) (enough : (l : Ledger K) → P l → room l ≡ true) (rate : ℕ) (d : Demod) where
    each-is : (wait : ℕ) (l : Ledger K) (bs : List Burst) → ThroughBursts P rate d wait l bs → take_each_if rate d wait l bs ≡ take_each rate d wait l bs
    unfolding take_each_if take_each take_one_if
    each-is wait l [] t = refl
    each-is wait l (b ∷ bs) t = rw (enough l t.0) (each-is wait (take_one rate d wait l b) bs t.1)

    scan-is : (wait : ℕ) (l : Ledger K) → ThroughBursts P rate d wait l (d.bursts l.held) → scan_if rate d wait l ≡ scan rate d wait l
    unfolding scan_if scan
    scan-is wait l t = ap (forget rate) (each-is wait l (d.bursts l.held) t)

    fill_is : (l : Ledger K) (xs : List Float) → ThroughFill P rate d (add rate (halve rate l) xs) → fill_if rate d l xs ≡ fill rate d l xs
    unfolding fill_if fill due_if due scanned
    fill_is l xs t =
        ⊎_elim
        (λ e. rw e (scan-is (tail rate) (scanned (add rate (halve rate l) xs)) (t e)))
        (λ e. rw e refl)
        (either (leb rate (2 * (add rate (halve rate l) xs).unscanned)))

    fills-is : (n : ℕ) (l : Ledger K) (xs : List Float) → ThroughFills P rate d n l xs → fills_if rate d n l xs ≡ fills rate d n l xs
    unfolding fills_if fills
    fills-is zero l xs t = refl
    fills-is (suc n) l [] t = refl
    fills-is (suc n) l (x ∷ xs) t = rw (fill_is l (x ∷ xs) t.0) (fills-is n (fill rate d l (x ∷ xs)) (drop (amount rate (halve rate l) (x ∷ xs)) (x ∷ xs)) t.1)

  pub no_cap : (rate : ℕ) (d : Demod) → Fair rate d → Lawful K → 1 ≤ rate → (l : Ledger K) (c : Call) → InOrder rate l → Accepted rate l c → scans_if rate d l c ≡ scans rate d l c
  unfolding scans_if scans start_call
  no_cap rate d fair laws pos l (push xs) o a =
      fills-is (Room 84 (most_waiting + push_frames) push_frames) (λ k r. room_is 84 (most_waiting + push_frames) push_frames k (omega arith) (omega arith) (omega arith) r) rate d (length xs) (start_call l) xs
      ((bounded rate d fair laws pos).in_push l xs o a)
  no_cap rate d fair laws pos l flush o a =
      scan-is (Room 64 (most_waiting + flush_frames) flush_frames) (λ k r. room_is 64 (most_waiting + flush_frames) flush_frames k (omega arith) (omega arith) (omega arith) r) rate d 0 (start_call l) ((bounded rate d fair laws pos).in_flush l o)
