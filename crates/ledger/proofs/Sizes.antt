-- How many samples the ledger holds, and where they stand in the stream.
use Rattle.std.proofs.Common.{Option, None, Some}
use mathlib.Core.Path.{◌≡◌, refl, ap, ◌∙◌}
use mathlib.Core.Logic.{⊎_elim}
use mathlib.Core.List.{List, [], ◌∷◌}
use Prim.Native.Nat.{ℕ, zero, suc, ◌+◌, ◌-◌, ◌*◌, ◌≤◌, ◌<◌, min}
use native.Mathlib.Omega.{arith}
use native.Mathlib.Nat.{min-le_left, min-le_right, le_refl}
use lib.ListN.{length, take, drop, length-append, length-drop}
use lib.Seq.{length-take-le}
use lib.Dec.{leb, eqb}
use lib.Ieee.{Float}
use borrow.Author.Tests.{eqb-true, eqb-false, leb-true, leb-false}
use Rattle.ledger.specs.Types.{DecodedFrame, Burst}
use Rattle.ledger.specs.Ledger.{Kind, Demod, capacity, half, tail, seconds, Ledger, Call, push, flush, hear, remember, takes, take_one, take_each, forget, scan, halve, amount, add, scanned, due, fill, fills, start_call, scans}
use Rattle.ledger.proofs.Basics.{either}

-- the samples that a call adds
abbrev pub call_size : Call → ℕ
call_size (push xs) = length xs
call_size flush = 0

module _ {K : Kind} where
  -- a scan leaves what is held where it is
  pub record Still (l k : Ledger K) : Type 0 where
    pub held : k.held ≡ l.held
    pub base : k.base ≡ l.base
    pub unscanned : k.unscanned ≡ l.unscanned

  still_then : {a b c : Ledger K} → Still a b → Still b c → Still a c
  still_then p q = record { held = q.held ∙ p.held; base = q.base ∙ p.base; unscanned = q.unscanned ∙ p.unscanned }

  hear-still : (l : Ledger K) (s : ℕ) (o : Option DecodedFrame) → Still l (hear (remember l s) s o)
  unfolding hear remember
  hear-still l s None = record { held = refl; base = refl; unscanned = refl }
  hear-still l s (Some f) = record { held = refl; base = refl; unscanned = refl }

  pub one_still : (rate : ℕ) (d : Demod) (wait : ℕ) (l : Ledger K) (b : Burst) → Still l (take_one rate d wait l b)
  unfolding take_one
  one_still rate d wait l b =
      ⊎_elim
      (λ e. rw e (hear-still l (l.base + b.start) (d.decode l.held (seconds rate l.base) b)))
      (λ e. rw e (record { held = refl; base = refl; unscanned = refl }))
      (either (takes rate wait l b))

  pub each_still : (rate : ℕ) (d : Demod) (wait : ℕ) (l : Ledger K) (bs : List Burst) → Still l (take_each rate d wait l bs)
  unfolding take_each
  each_still rate d wait l [] = record { held = refl; base = refl; unscanned = refl }
  each_still rate d wait l (b ∷ bs) = still_then (one_still rate d wait l b) (each_still rate d wait (take_one rate d wait l b) bs)

  pub scan-still : (rate : ℕ) (d : Demod) (wait : ℕ) (l : Ledger K) → Still l (scan rate d wait l)
  unfolding scan forget
  scan-still rate d wait l =
      let s = each_still rate d wait l (d.bursts l.held) in
      record { held = s.held; base = s.base; unscanned = s.unscanned }

  -- ---- a filling

  pub due_held : (rate : ℕ) (d : Demod) (l : Ledger K) → ((due rate d l).held ≡ l.held) × ((due rate d l).base ≡ l.base)
  unfolding due scanned
  due_held rate d l =
      let s = scan-still rate d (tail rate) (scanned l) in
      ⊎_elim (λ e. rw e (s.held, s.base)) (λ e. rw e (refl, refl)) (either (leb rate (2 * l.unscanned)))

  module _ (rate : ℕ) (l : Ledger K) (pos : 1 ≤ rate) (small : length l.held ≤ capacity rate) where
    pub halve-less : length (halve rate l).held < capacity rate
    unfolding halve
    halve-less =
        ⊎_elim
        (λ e. let q = eqb-true (length l.held) (capacity rate) e in rw e (omega (arith, length-drop (half rate) l.held)))
        (λ e. rw e (less (length l.held) (capacity rate) small (eqb-false (length l.held) (capacity rate) e)))
        (either (eqb (length l.held) (capacity rate)))
      where
        less : (a b : ℕ) → a ≤ b → (a ≡ b → ⊥) → a < b
        less a b h n = ⊎_elim (λ e. leb-true (suc a) b e) (λ e. let g = leb-false (suc a) b e in absurd (n (omega arith))) (either (leb (suc a) b))

    pub halve-sum : (halve rate l).base + length (halve rate l).held ≡ l.base + length l.held
    unfolding halve
    halve-sum =
        ⊎_elim
        (λ e. let q = eqb-true (length l.held) (capacity rate) e in rw e (omega (arith, length-drop (half rate) l.held)))
        (λ e. rw e refl)
        (either (eqb (length l.held) (capacity rate)))

  pub add-length : (rate : ℕ) (l : Ledger K) (xs : List Float) → length (add rate l xs).held ≡ length l.held + amount rate l xs
  unfolding add amount
  add-length rate l xs =
      length-append l.held (take (min (length xs) (capacity rate - length l.held)) xs)
      ∙ ap (λ (k : ℕ). length l.held + k) (length-take-le (min (length xs) (capacity rate - length l.held)) xs (min-le_left (length xs) (capacity rate - length l.held)))

  pub amount-le : (rate : ℕ) (l : Ledger K) (xs : List Float) → amount rate l xs ≤ length xs
  unfolding amount
  amount-le rate l xs = min-le_left (length xs) (capacity rate - length l.held)

  pub amount-room : (rate : ℕ) (l : Ledger K) (xs : List Float) → length l.held ≤ capacity rate → length l.held + amount rate l xs ≤ capacity rate
  unfolding amount
  amount-room rate l xs h = omega (arith, min-le_right (length xs) (capacity rate - length l.held))

  pub amount-pos : (rate : ℕ) (l : Ledger K) (xs : List Float) → length l.held < capacity rate → 1 ≤ length xs → 1 ≤ amount rate l xs
  unfolding amount
  amount-pos rate l xs h k = one_of (length xs) (capacity rate - length l.held) k (omega arith)
    where
      one_of : (a b : ℕ) → 1 ≤ a → 1 ≤ b → 1 ≤ min a b
      one_of a b p q = omega arith

  -- one filling: room is kept, and the stream is as much longer
  pub fill-small : (rate : ℕ) (d : Demod) (l : Ledger K) (xs : List Float) → 1 ≤ rate → length l.held ≤ capacity rate
      → (length (fill rate d l xs).held ≤ capacity rate) × ((fill rate d l xs).base + length (fill rate d l xs).held ≡ l.base + length l.held + amount rate (halve rate l) xs)
  unfolding fill add
  fill-small rate d l xs h s =
      let k = halve rate l in
      let less : length k.held < capacity rate = halve-less rate l h s in
      let room = amount-room rate k xs (omega arith) in
      let q = due_held rate d (add rate k xs) in
      let a = add-length rate k xs in
      (rw q.0 (omega (arith, a, room)), rw (q.0, q.1, a) (plus rate k xs (halve-sum rate l h s)))
    where
      plus : (rate : ℕ) (k : Ledger K) (xs : List Float) → k.base + length k.held ≡ l.base + length l.held
          → (add rate k xs).base + (length k.held + amount rate k xs) ≡ l.base + length l.held + amount rate k xs
      plus rate k xs e = omega arith

  pub fills-small : (rate : ℕ) (d : Demod) (n : ℕ) (l : Ledger K) (xs : List Float) → 1 ≤ rate → length l.held ≤ capacity rate → length xs ≤ n
      → (length (fills rate d n l xs).held ≤ capacity rate) × ((fills rate d n l xs).base + length (fills rate d n l xs).held ≡ l.base + length l.held + length xs)
  unfolding fills
  fills-small rate d zero l [] h s e = (s, omega arith)
  fills-small rate d zero l (x ∷ xs) h s e = absurd (omega arith)
  fills-small rate d (suc n) l [] h s e = (s, omega arith)
  fills-small rate d (suc n) l (x ∷ xs) h s e =
      let k = halve rate l in
      let f = fill-small rate d l (x ∷ xs) h s in
      let a = amount rate k (x ∷ xs) in
      let p : 1 ≤ a = amount-pos rate k (x ∷ xs) (halve-less rate l h s) (omega arith) in
      let u : a ≤ length (x ∷ xs) = amount-le rate k (x ∷ xs) in
      let ld : length (drop a (x ∷ xs)) ≡ length (x ∷ xs) - a = length-drop a (x ∷ xs) in
      let i = fills-small rate d n (fill rate d l (x ∷ xs)) (drop a (x ∷ xs)) h f.0 (omega arith) in
      (i.0, omega (arith, i.1, f.1, ld, u))

  -- ---- a call

  pub scans-small : (rate : ℕ) (d : Demod) (l : Ledger K) (c : Call) → 1 ≤ rate → length l.held ≤ capacity rate
      → (length (scans rate d l c).held ≤ capacity rate)
      × ((scans rate d l c).base + length (scans rate d l c).held ≡ l.base + length l.held + call_size c)
  unfolding scans start_call
  scans-small rate d l (push xs) h s =
      let f = fills-small rate d (length xs) (start_call l) xs h s (le_refl (length xs)) in
      (f.0, f.1)
  scans-small rate d l flush h s =
      let q = scan-still rate d 0 (start_call l) in
      (rw q.held s, rw (q.held, q.base) (omega arith))

  -- "only the former sets the unscanned count to 0": a flush leaves it
  pub flush-unscanned : (rate : ℕ) (d : Demod) (l : Ledger K) → (scans rate d l flush).unscanned ≡ l.unscanned
  unfolding scans start_call
  flush-unscanned rate d l = (scan-still rate d 0 (start_call l)).unscanned
