-- A push leaves in the sample buffer what the ledger holds after it.
use mathlib.Core.List.{List, [], ◌∷◌}
use mathlib.Core.Path.{◌≡◌, sym, ◌∙◌}
use Prim.Native.Nat.{ℕ, zero, suc, ◌≤◌}
use native.Mathlib.Nat.{min-le_left}
use native.Mathlib.Omega.{arith}
use lib.Ieee.{Float}
use lib.ListN.{length, take, drop}
use lib.Seq.{length-paste}
use Rattle.ledger.specs.Ledger.{Kind, Demod, capacity, Ledger, halve, amount, add, fill, fills}
use Rattle.ledger.proofs.Sizes.{amount-room, due_held}
use Rattle.receiver_samples.specs.Buffer.{Buffer, left_held, left_places, share, filled, all_filled}
use Rattle.receiver_samples.proofs.Fillings.{left_less, left_length, held_length, halve-holds, room_is, fill_holds}

-- the buffer b has n places and holds what the ledger l holds
pub record Keeps {K : Kind} (rate n : ℕ) (b : Buffer) (l : Ledger K) : Type 0 where
  pub size : length b.places ≡ n
  pub fits : b.held ≤ capacity rate
  pub holds : take b.held b.places ≡ l.held

module _ {K : Kind} (rate n : ℕ) (d : Demod) (pos : 1 ≤ rate) (wide : capacity rate ≤ n) where
  share_is : (b : Buffer) (l : Ledger K) (xs : List Float) → Keeps rate n b l → share rate b xs ≡ amount rate (halve rate l) xs
  share_is b l xs k =
      let less = left_less rate b.held pos k.fits in
      let same = left_length rate b.held b.places (omega (arith, k.size)) in
      room_is rate (left_held rate b.held) (left_places rate b.held b.places) (halve rate l) (omega arith) (omega (arith, k.size))
      (halve-holds rate b.held b.places l k.fits (omega (arith, k.size)) k.holds) xs

  fill-keeps : (b : Buffer) (l : Ledger K) (xs : List Float) → Keeps rate n b l → Keeps rate n (filled rate b xs) (fill rate d l xs)
  unfolding filled fill
  fill-keeps b l xs k =
      let h = left_held rate b.held in
      let places = left_places rate b.held b.places in
      let less = left_less rate b.held pos k.fits in
      let same = left_length rate b.held b.places (omega (arith, k.size)) in
      let half = halve-holds rate b.held b.places l k.fits (omega (arith, k.size)) k.holds in
      let count = held_length rate h places (halve rate l) (omega arith) (omega (arith, k.size)) half in
      let room = amount-room rate (halve rate l) xs (omega arith) in
      let s = share_is b l xs k in
      record {
        size = length-paste places h xs (share rate b xs) (omega (arith, k.size)) (min-le_left (length xs) _) ∙ same ∙ k.size;
        fits = omega arith;
        holds = fill_holds rate h places (halve rate l) (omega arith) (omega (arith, k.size)) half xs ∙ sym (due_held rate d (add rate (halve rate l) xs)).0;
      }

  pub fills-keeps : (m : ℕ) (b : Buffer) (l : Ledger K) (xs : List Float) → Keeps rate n b l → Keeps rate n (all_filled rate m b xs) (fills rate d m l xs)
  unfolding all_filled fills
  fills-keeps zero b l xs k = k
  fills-keeps (suc m) b l [] k = k
  fills-keeps (suc m) b l (x ∷ xs) k =
      rw (share_is b l (x ∷ xs) k)
      (fills-keeps m (filled rate b (x ∷ xs)) (fill rate d l (x ∷ xs)) (drop (amount rate (halve rate l) (x ∷ xs)) (x ∷ xs)) (fill-keeps b l (x ∷ xs) k))
