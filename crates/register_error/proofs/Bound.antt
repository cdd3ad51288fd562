-- The claim: two answers of a frame that was read twice. Assumes nothing.
use mathlib.Core.Path.{◌≡◌, refl, sym, ap, ◌∙◌, subst}
use mathlib.Core.Bool.{Bool, true, false, cond}
use mathlib.Core.List.{List, [], ◌∷◌, map}
use mathlib.Core.Logic.{◌⊎◌, inl, inr, ⊎_elim}
use Prim.Native.Nat.{ℕ, zero, suc, ◌+◌, ◌-◌, ◌*◌, ◌^◌, ◌≤◌, ◌<◌, min}
use native.Mathlib.Omega.{arith}
use borrow.Author.Tests.{ltb-true, ltb-false}
use lib.Dec.{ltb, eqb}
use lib.IntN.{ℤ, pos, negsuc, nat_abs}
use lib.ListN.{length}
use lib.Ieee.{Float}
use Rattle.order.proofs.Rank.{less_or_not}
use Rattle.cfo.specs.Cfo.{round_hz}
use Rattle.frequency_lists.specs.Lists.{last_or}
use Rattle.frequency_lists.specs.Marks.{retained}
use Rattle.frequency_measure.specs.Measured.{median, near, inside, first_of, past_of}
use Rattle.record.specs.declared.FrameSpan.{FrameSpan}
use Rattle.register_error.specs.Bound.{RawReading, Pairwise, end, next, ReadTwice, U32, in_frame, against_last, frame1_readings, distance, asked, least, Bound, StreamBound, Claims}
use Rattle.register_error.proofs.Negative.{Rounds, rounds, negative-rounds}
use Rattle.register_error.proofs.Readings.{At, above, under, place, Small}
use Rattle.register_error.proofs.Offsets.{Few, few-steps, exactly, apart_by}
use Rattle.register_error.proofs.Medians.{hz, Placed, first, second, medians-near, Twin, twins_too}
use Rattle.register_error.proofs.Frames.{Against, answer_is}

-- ---- one answer

few : (lo : ℕ) (z : ℤ) → lo < 2 ^ 32 → Small z → place lo z < 2 ^ 50
few lo (pos c) L C = omega arith
few lo (negsuc j) L C = omega arith

-- round_hz of a float that lies within 2 of n 1,024ths, or below zero
answer : (v : Float) (n : ℕ) → n < 2 ^ 50 → At v n → Rounds (round_hz v) (n + 510) (n + 514)
answer v n N (above h) = let r = rounds h (omega arith) in record { whole = r.whole; is = r.is; high = omega (arith, r.high); low = omega (arith, r.low) }
answer v n N (under h b) = record { whole = 0; is = negative-rounds v h; high = omega arith; low = omega arith }

-- the filter, of one that does not lie at zero or below
inside-filter : (v : Float) (lo : ℕ) → lo < 2 ^ 32 → (p : Placed lo v) → near v lo ≡ true → 2 < place lo p.steps → Few p.steps
inside-filter v lo L p c s = go p.at
  where
    go : At v (place lo p.steps) → Few p.steps
    go (above h) = few-steps v lo L p.steps p.small s h c
    go (under h b) = absurd (omega arith)

-- ---- two answers

-- of readings z and w steps from lo
module _ (lo d r s : ℕ) (z w : ℤ) (a : Rounds r (place lo z + 510) (place lo z + 514)) (b : Rounds s (place lo w + 510) (place lo w + 514))
    (h : 11904 * place lo z ≤ 11904 * place lo w + (1600000000 * d + 10 * 11904)) where
  abbrev Goal : Type 0
  Goal = 11904 * r ≤ 11904 * s + (1562500 * d + least)

  -- about zero, where one of the two is 0
  at_zero : (place lo z ≤ 2) ⊎ (place lo w ≤ 2) → Goal
  at_zero e =
      let p : r ≡ min a.whole (2 ^ 32 - 1) = a.is in
      let u : 1024 * a.whole ≤ place lo z + 514 = a.high in
      ⊎_elim (λ x. omega arith) (λ x. omega arith) e

  elsewhere : 2 < place lo z → 2 < place lo w → Few z → Few w → Goal
  elsewhere x y f g =
      let p : r ≡ min a.whole (2 ^ 32 - 1) = a.is in
      let q : s ≡ min b.whole (2 ^ 32 - 1) = b.is in
      let e = apart_by lo d z w a.whole b.whole x y f g (exactly lo z a.whole x f a.high a.low) (exactly lo w b.whole y g b.high b.low) h in
      omega arith

  one_side : (2 < place lo z → Few z) → (2 < place lo w → Few w) → Goal
  one_side f g =
      ⊎_elim (λ x. ⊎_elim (λ y. elsewhere x y (f x) (g y)) (λ y. at_zero (inr y)) (less_or_not 2 (place lo w))) (λ x. at_zero (inl x)) (less_or_not 2 (place lo z))

-- the medians of a frame read twice
side : {lo d : ℕ} {l m : List RawReading} → lo < 2 ^ 32 → Pairwise (Twin lo d) l m → 0 < length l → near (median (map hz l)) lo ≡ true → near (median (map hz m)) lo ≡ true
    → 11904 * round_hz (median (map hz l)) ≤ 11904 * round_hz (median (map hz m)) + (1562500 * d + least)
side {lo} {d} {l} {m} L t s c e =
    let a = first L t s in
    let b = second L t s in
    one_side lo d (round_hz (median (map hz l))) (round_hz (median (map hz m))) a.steps b.steps (answer (median (map hz l)) (place lo a.steps) (few lo a.steps L a.small) a.at)
    (answer (median (map hz m)) (place lo b.steps) (few lo b.steps L b.small) b.at) (medians-near L t s) (inside-filter (median (map hz l)) lo L a c) (inside-filter (median (map hz m)) lo L b e)

-- |a − b| from both sides
between : (a b k : ℕ) → 11904 * a ≤ 11904 * b + k → 11904 * b ≤ 11904 * a + k → 11904 * distance (pos a) (pos b) ≤ k
between a zero k g h = omega arith
between a (suc b) k g h = go (ltb a (suc b)) (ltb-true a (suc b)) (ltb-false a (suc b))
  where
    go : (t : Bool) → (t ≡ true → a < suc b) → (t ≡ false → suc b ≤ a) → 11904 * nat_abs (cond t (negsuc (suc b - suc a)) (pos (a - suc b))) ≤ k
    go true f e = let x = f refl in omega arith
    go false f e = let x = e refl in omega arith

-- ---- the receiver frequency

u32-retained : (bs : List Bool) (l : List RawReading) → U32 l → U32 (retained bs l)
unfolding retained
u32-retained [] l u = tt
u32-retained (b ∷ bs) [] u = tt
u32-retained (true ∷ bs) (x ∷ l) u = (u.0, u32-retained bs l u.1)
u32-retained (false ∷ bs) (x ∷ l) u = u32-retained bs l u.1

u32-against : (l : List RawReading) → U32 l → U32 (against_last l)
unfolding against_last
u32-against [] u = tt
u32-against (x ∷ l) u = u32-retained (map (λ (r : RawReading). eqb r.lo (last_or x.lo (map (λ (r : RawReading). r.lo) l))) (x ∷ l)) (x ∷ l) u

u32-counted : (rate : ℕ) (spans : List FrameSpan) (l : List RawReading) → U32 l → U32 (frame1_readings rate spans l)
unfolding frame1_readings
u32-counted rate [] l u = tt
u32-counted rate (f ∷ spans) l u = go (eqb f.rank 0) (against_last (in_frame rate f l)) (frame1_readings rate spans l) (u32-against (in_frame rate f l) (u32-retained _ l u)) (u32-counted rate spans l u)
  where
    go : (t : Bool) (m n : List RawReading) → U32 m → U32 n → U32 (cond t m n)
    go true m n h k = h
    go false m n h k = k

first_small : (lo : ℕ) (l : List RawReading) → 0 < length l → Against lo l → U32 l → lo < 2 ^ 32
first_small lo [] s a u = absurd (omega arith)
first_small lo (x ∷ l) s a u = subst (λ (n : ℕ). n < 2 ^ 32) a.0 u.0

first_same : {d : ℕ} (lo lo' : ℕ) {l m : List RawReading} → 0 < length l → Against lo l → Against lo' m → ReadTwice d l m → lo' ≡ lo
first_same lo lo' s a b end = absurd (omega arith)
first_same lo lo' s a b (next p t) = sym b.0 ∙ sym p.same ∙ a.0

twins : {d lo : ℕ} {l m : List RawReading} → Against lo l → ReadTwice d l m → Pairwise (Twin lo d) l m
twins a end = end
twins a (next p t) = next (record { here = a.0; there = sym p.same ∙ a.0; close = p.close }) (twins a.1 t)

bound : Bound least
bound d rate rate' raw raw' spans spans' downlink downlink' a b u t p q =
    let x = answer_is rate raw spans downlink a p in
    let y = answer_is rate' raw' spans' downlink' b q in
    let lo = x.lo in
    let L : lo < 2 ^ 32 = first_small lo (frame1_readings rate spans raw) (some x.some) x.against (u32-counted rate spans raw u) in
    let w = twins x.against t in
    let e : near (median (map hz (frame1_readings rate' spans' raw'))) lo ≡ true = subst (λ (n : ℕ). near (median (map hz (frame1_readings rate' spans' raw'))) n ≡ true) (first_same lo y.lo (some x.some) x.against y.against t) y.close in
    let f = side L w (some x.some) x.close e in
    let g = side L (twins_too w) (some y.some) e x.close in
    let r = between a b (1562500 * d + least) (omega (arith, x.is, y.is, f)) (omega (arith, x.is, y.is, g)) in
    omega arith
  where
    some : {n : ℕ} → 5 ≤ n → 0 < n
    some h = omega arith

-- ---- streams

module _ {d : ℕ} where
  kept : {l m : List RawReading} (bs : List Bool) → ReadTwice d l m → ReadTwice d (retained bs l) (retained bs m)
  unfolding retained
  kept [] end = end
  kept [] (next a t) = end
  kept (b ∷ bs) end = end
  kept (true ∷ bs) (next a t) = next a (kept bs t)
  kept (false ∷ bs) (next a t) = kept bs t

  los : {l m : List RawReading} → ReadTwice d l m → map (λ (r : RawReading). r.lo) l ≡ map (λ (r : RawReading). r.lo) m
  los end = refl
  los (next a t) = cc (a.same, los t)

by_mark : {A : Type 0} (f : RawReading → A) (p : A → Bool) (l m : List RawReading) → map f l ≡ map f m → map (λ (r : RawReading). p (f r)) l ≡ map (λ (r : RawReading). p (f r)) m
by_mark f p l m e = each l ∙ ap (map p) e ∙ sym (each m)
  where
    each : (l : List RawReading) → map (λ (r : RawReading). p (f r)) l ≡ map p (map f l)
    each [] = refl
    each (x ∷ l) = ap (λ (z : List Bool). p (f x) ∷ z) (each l)

module _ {d : ℕ} where
  frame_kept : (rate : ℕ) (f : FrameSpan) (l m : List RawReading) → map (λ (r : RawReading). r.at) l ≡ map (λ (r : RawReading). r.at) m → ReadTwice d l m → ReadTwice d (in_frame rate f l) (in_frame rate f m)
  unfolding in_frame
  frame_kept rate f l m e t =
      let p : ℕ → Bool = inside (first_of rate f.time) (past_of rate f.end) in
      subst (λ (bs : List Bool). ReadTwice d (in_frame rate f l) (retained bs m)) (by_mark (λ (r : RawReading). r.at) p l m e) (kept (map (λ (r : RawReading). p r.at) l) t)

  against_kept : {l m : List RawReading} → ReadTwice d l m → ReadTwice d (against_last l) (against_last m)
  unfolding against_last
  against_kept end = end
  against_kept (next {x} {y} {l} {m} a t) =
      let u : ReadTwice d (x ∷ l) (y ∷ m) = next a t in
      let n = last_or x.lo (map (λ (r : RawReading). r.lo) l) in
      let k = last_or y.lo (map (λ (r : RawReading). r.lo) m) in
      let e : n ≡ k = cc (a.same, los t) in
      let g : map (λ (r : RawReading). eqb r.lo n) (x ∷ l) ≡ map (λ (r : RawReading). eqb r.lo k) (y ∷ m) =
      by_mark (λ (r : RawReading). r.lo) (λ (i : ℕ). eqb i n) (x ∷ l) (y ∷ m) (los u) ∙ ap (λ (j : ℕ). map (λ (r : RawReading). eqb r.lo j) (y ∷ m)) e in
      subst (λ (bs : List Bool). ReadTwice d (retained (map (λ (r : RawReading). eqb r.lo n) (x ∷ l)) (x ∷ l)) (retained bs (y ∷ m))) g (kept (map (λ (r : RawReading). eqb r.lo n) (x ∷ l)) u)

  counted_kept : (rate : ℕ) (spans : List FrameSpan) (l m : List RawReading) → map (λ (r : RawReading). r.at) l ≡ map (λ (r : RawReading). r.at) m → ReadTwice d l m → ReadTwice d (frame1_readings rate spans l) (frame1_readings rate spans m)
  unfolding frame1_readings
  counted_kept rate [] l m e t = end
  counted_kept rate (f ∷ spans) l m e t = go (eqb f.rank 0) (against_kept (frame_kept rate f l m e t)) (counted_kept rate spans l m e t)
    where
      go : (b : Bool) → ReadTwice d (against_last (in_frame rate f l)) (against_last (in_frame rate f m)) → ReadTwice d (frame1_readings rate spans l) (frame1_readings rate spans m)
          → ReadTwice d (cond b (against_last (in_frame rate f l)) (frame1_readings rate spans l)) (cond b (against_last (in_frame rate f m)) (frame1_readings rate spans m))
      go true g h = g
      go false g h = h

-- ---- the claims

wider : (n m : ℕ) → n ≤ m → Bound n → Bound m
wider n m h f d rate rate' raw raw' spans spans' downlink downlink' a b u t p q = let w = f d rate rate' raw raw' spans spans' downlink downlink' a b u t p q in omega arith

streams : (more : ℕ) → Bound more → StreamBound more
streams more f d rate raw raw' spans downlink downlink' a b u e t p q = f d rate rate raw raw' spans spans downlink downlink' a b u (counted_kept rate spans raw raw' e t) p q

pub claims : Claims
claims = record { request = wider least asked (omega arith) bound; sharpest = bound; streams = streams least bound }
