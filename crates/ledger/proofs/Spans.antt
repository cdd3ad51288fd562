-- The places of an entry's spans: which ranks are there, and that a frame of a missing rank finds a free place.
use mathlib.Core.Path.{◌≡◌, refl, sym, ap}
use mathlib.Core.Logic.{◌⊎◌, inl, inr, ⊎_elim}
use mathlib.Core.List.{List, [], ◌∷◌}
use mathlib.Core.Bool.{Bool, true, false, not, ◌&&◌, ◌||◌, cond, or-true, or_assoc, or_comm}
use Prim.Native.Nat.{ℕ, zero, suc, ◌+◌, ◌≤◌}
use native.Mathlib.Omega.{arith}
use lib.ListN.{length}
use lib.Dec.{leb, eqb}
use borrow.Author.Tests.{le-leb, eqb-true, eq-eqb, ne_eqb, leb-true, not-true}
use Rattle.ledger.specs.Types.{FrameSpan}
use Rattle.ledger.specs.Frames.{Frame, rank_of}
use Rattle.ledger.specs.Merge.{no_span, empty_span, span_of, has, place, meet}
use Rattle.ledger.specs.Causes.{spans_fit, in_front}
use Rattle.ledger.proofs.Basics.{either, clash, or_false, and_true}

-- a rank 0 to 2 is not that of an empty place
pub not_empty : (n r : ℕ) → eqb n no_span ≡ true → r ≤ 2 → eqb n r ≡ false
not_empty n r e h = ⊎_elim (λ g. absurd (apart (eqb-true n no_span e) (eqb-true n r g))) (λ g. g) (either (eqb n r))
  where
    apart : n ≡ no_span → n ≡ r → ⊥
    apart p q = omega arith

-- ---- a frame into a free place

place_yes : (f : Frame) (s : FrameSpan) (l : List FrameSpan) → eqb s.rank no_span ≡ true → place f (s ∷ l) ≡ span_of f ∷ l
unfolding place
place_yes f s l e = rw e refl

place_no : (f : Frame) (s : FrameSpan) (l : List FrameSpan) → eqb s.rank no_span ≡ false → place f (s ∷ l) ≡ s ∷ place f l
unfolding place
place_no f s l e = rw e refl

has_place_lem : (r : ℕ) (f : Frame) (l : List FrameSpan) → r ≤ 2 → has no_span l ≡ true → has r (place f l) ≡ has r l || eqb (rank_of f) r
unfolding has span_of
has_place_lem r f [] h e = clash false e refl
has_place_lem r f (s ∷ l) h e =
    ⊎_elim
    (λ g. rw (place_yes f s l g, not_empty s.rank r g h) (or_comm (eqb (rank_of f) r) (has r l)))
    (λ g. let i : has no_span l ≡ true = rw g at e in
    rw (place_no f s l g, has_place_lem r f l h i) (sym (or_assoc (eqb s.rank r) (has r l) (eqb (rank_of f) r))))
    (either (eqb s.rank no_span))

-- a rank that is neither there nor the frame's
has_place_none : (r : ℕ) (f : Frame) (l : List FrameSpan) → has r l ≡ false → eqb (rank_of f) r ≡ false → has r (place f l) ≡ false
unfolding has place span_of
has_place_none r f [] e h = refl
has_place_none r f (s ∷ l) e h =
    let o = or_false (eqb s.rank r) (has r l) e in
    ⊎_elim
    (λ g. rw (place_yes f s l g, h) o.1)
    (λ g. rw (place_no f s l g, o.0) (has_place_none r f l o.1 h))
    (either (eqb s.rank no_span))

-- a rank that is there stays
has_place_kept : (r : ℕ) (f : Frame) (l : List FrameSpan) → r ≤ 2 → has r l ≡ true → has r (place f l) ≡ true
unfolding has span_of
has_place_kept r f [] h e = clash false e refl
has_place_kept r f (s ∷ l) h e =
    ⊎_elim
    (λ g. let i : has r l ≡ true = rw (not_empty s.rank r g h) at e in rw (place_yes f s l g, i) (or-true (eqb (rank_of f) r)))
    (λ g. rw (place_no f s l g) (stays (eqb s.rank r) e (λ i. has_place_kept r f l h i)))
    (either (eqb s.rank no_span))
  where
    stays : (b : Bool) → b || has r l ≡ true → (has r l ≡ true → has r (place f l) ≡ true) → b || has r (place f l) ≡ true
    stays true e i = refl
    stays false e i = i e

place-length : (f : Frame) (l : List FrameSpan) → length (place f l) ≡ length l
unfolding place
place-length f [] = refl
place-length f (s ∷ l) = ⊎_elim (λ g. rw g refl) (λ g. rw g (ap suc (place-length f l))) (either (eqb s.rank no_span))

pub meet-length : (l : List FrameSpan) (f : Frame) → length (meet l f) ≡ length l
unfolding meet
meet-length l f = ⊎_elim (λ g. rw g refl) (λ g. rw g (place-length f l)) (either (has (rank_of f) l))

-- ---- different ranks 0 to 2

pub fit-head : (s : FrameSpan) (l : List FrameSpan) → spans_fit (s ∷ l) ≡ true
    → (eqb s.rank no_span || (leb s.rank 2 && not (has s.rank l)) ≡ true) × (spans_fit l ≡ true)
unfolding spans_fit
fit-head s l e = and_true (eqb s.rank no_span || (leb s.rank 2 && not (has s.rank l))) (spans_fit l) e

fit-cons : (s : FrameSpan) (l : List FrameSpan) → leb s.rank 2 ≡ true → has s.rank l ≡ false → spans_fit l ≡ true → spans_fit (s ∷ l) ≡ true
unfolding spans_fit
fit-cons s l p q e = rw (p, q, or-true (eqb s.rank no_span)) e

-- a place that holds a span
pub fit-used : (s : FrameSpan) (l : List FrameSpan) → eqb s.rank no_span ≡ false → spans_fit (s ∷ l) ≡ true
    → (leb s.rank 2 ≡ true) × (has s.rank l ≡ false)
fit-used s l g e =
    let h : leb s.rank 2 && not (has s.rank l) ≡ true = rw g at (fit-head s l e).0 in
    let a = and_true (leb s.rank 2) (not (has s.rank l)) h in
    (a.0, not-true (has s.rank l) a.1)

place-fit : (f : Frame) (l : List FrameSpan) → rank_of f ≤ 2 → has (rank_of f) l ≡ false → spans_fit l ≡ true → spans_fit (place f l) ≡ true
unfolding has place span_of
place-fit f [] h n e = e
place-fit f (s ∷ l) h n e =
    let o = or_false (eqb s.rank (rank_of f)) (has (rank_of f) l) n in
    let t = (fit-head s l e).1 in
    ⊎_elim
    (λ g. rw (place_yes f s l g) (fit-cons (span_of f) l (le-leb (rank_of f) 2 h) o.1 t))
    (λ g. let u = fit-used s l g e in
    rw (place_no f s l g) (fit-cons s (place f l) u.0 (has_place_none s.rank f l u.1 (flip s.rank (rank_of f) o.0)) (place-fit f l h o.1 t)))
    (either (eqb s.rank no_span))
  where
    flip : (a b : ℕ) → eqb a b ≡ false → eqb b a ≡ false
    flip a b q = ⊎_elim (λ g. clash (eqb a b) (eq-eqb a b (sym (eqb-true b a g))) q) (λ g. g) (either (eqb b a))

pub meet-fit : (l : List FrameSpan) (f : Frame) → rank_of f ≤ 2 → spans_fit l ≡ true → spans_fit (meet l f) ≡ true
unfolding meet
meet-fit l f h e = ⊎_elim (λ g. rw g e) (λ g. rw g (place-fit f l h g e)) (either (has (rank_of f) l))

-- ---- spans in front

front-tail : (s : FrameSpan) (l : List FrameSpan) → in_front (s ∷ l) ≡ true → in_front l ≡ true
unfolding in_front
front-tail s [] e = refl
front-tail s (t ∷ l) e = (and_true (eqb t.rank no_span || not (eqb s.rank no_span)) (in_front (t ∷ l)) e).1

front-cons : (s : FrameSpan) (l : List FrameSpan) → eqb s.rank no_span ≡ false → in_front l ≡ true → in_front (s ∷ l) ≡ true
unfolding in_front
front-cons s [] g e = refl
front-cons s (t ∷ l) g e = rw (g, or-true (eqb t.rank no_span)) e

place-front : (f : Frame) (l : List FrameSpan) → rank_of f ≤ 2 → in_front l ≡ true → in_front (place f l) ≡ true
unfolding place span_of
place-front f [] h e = e
place-front f (s ∷ l) h e =
    let t = front-tail s l e in
    ⊎_elim
    (λ g. rw (place_yes f s l g) (front-cons (span_of f) l (ne_eqb (rank_of f) no_span (λ q. omega arith)) t))
    (λ g. rw (place_no f s l g) (front-cons s (place f l) g (place-front f l h t)))
    (either (eqb s.rank no_span))

pub meet-front : (l : List FrameSpan) (f : Frame) → rank_of f ≤ 2 → in_front l ≡ true → in_front (meet l f) ≡ true
unfolding meet
meet-front l f h e = ⊎_elim (λ g. rw g e) (λ g. rw g (place-front f l h e)) (either (has (rank_of f) l))

meet_kept : (r : ℕ) (l : List FrameSpan) (f : Frame) → r ≤ 2 → has r l ≡ true → has r (meet l f) ≡ true
unfolding meet
meet_kept r l f h e = ⊎_elim (λ g. rw g e) (λ g. rw g (has_place_kept r f l h e)) (either (has (rank_of f) l))

-- ---- a missing rank finds a free place among three

unfoldable bit : Bool → ℕ
bit b = cond b 1 0

bit-small : (b : Bool) → bit b ≤ 1
unfolding bit
bit-small true = omega arith
bit-small false = omega arith

-- the places that hold a span
unfoldable used : List FrameSpan → ℕ
used [] = 0
used (s ∷ l) = bit (not (eqb s.rank no_span)) + used l

used_no : (s : FrameSpan) (l : List FrameSpan) → eqb s.rank no_span ≡ true → used (s ∷ l) ≡ used l
unfolding used bit
used_no s l e = rw e (omega arith)

used_yes : (s : FrameSpan) (l : List FrameSpan) → eqb s.rank no_span ≡ false → used (s ∷ l) ≡ 1 + used l
unfolding used bit
used_yes s l e = rw e refl

all_used : (l : List FrameSpan) → has no_span l ≡ false → used l ≡ length l
unfolding used has bit
all_used [] e = refl
all_used (s ∷ l) e =
    let o = or_false (eqb s.rank no_span) (has no_span l) e in
    rw (used_yes s l o.0) (omega (arith, all_used l o.1))

-- one more rank
one_more : (r : ℕ) (l : List FrameSpan) → r ≤ 2 → has r l ≡ false
    → bit (eqb r 0 || has 0 l) + (bit (eqb r 1 || has 1 l) + bit (eqb r 2 || has 2 l)) ≡ 1 + (bit (has 0 l) + (bit (has 1 l) + bit (has 2 l)))
unfolding bit
one_more zero l h e = rw e (omega arith)
one_more (suc zero) l h e = rw e (omega arith)
one_more (suc (suc zero)) l h e = rw e (omega arith)
one_more (suc (suc (suc r))) l h e = absurd (omega arith)

-- as many as there are ranks
used-ranks : (l : List FrameSpan) → spans_fit l ≡ true → used l ≡ bit (has 0 l) + (bit (has 1 l) + bit (has 2 l))
unfolding used has bit
used-ranks [] e = refl
used-ranks (s ∷ l) e =
    let i = used-ranks l (fit-head s l e).1 in
    ⊎_elim
    (λ g. rw (used_no s l g, not_empty s.rank 0 g (omega arith), not_empty s.rank 1 g (omega arith), not_empty s.rank 2 g (omega arith)) i)
    (λ g. let u = fit-used s l g e in rw (used_yes s l g, i) (sym (one_more s.rank l (leb-true s.rank 2 u.0) u.1)))
    (either (eqb s.rank no_span))

missing : (r : ℕ) (l : List FrameSpan) → r ≤ 2 → has r l ≡ false → bit (has 0 l) + (bit (has 1 l) + bit (has 2 l)) ≤ 2
unfolding bit
missing zero l h e = rw e (omega (arith, bit-small (has 1 l), bit-small (has 2 l)))
missing (suc zero) l h e = rw e (omega (arith, bit-small (has 0 l), bit-small (has 2 l)))
missing (suc (suc zero)) l h e = rw e (omega (arith, bit-small (has 0 l), bit-small (has 1 l)))
missing (suc (suc (suc r))) l h e = absurd (omega arith)

free-place : (r : ℕ) (l : List FrameSpan) → length l ≡ 3 → spans_fit l ≡ true → r ≤ 2 → has r l ≡ false → has no_span l ≡ true
free-place r l n e h g =
    ⊎_elim
    (λ p. p)
    (λ p. absurd (omega (arith, all_used l p, used-ranks l e, missing r l h g)))
    (either (has no_span l))

-- the ranks that are there are those that were, and the frame's
pub has_meet : (r : ℕ) (l : List FrameSpan) (f : Frame) → length l ≡ 3 → spans_fit l ≡ true → rank_of f ≤ 2 → r ≤ 2 → has r (meet l f) ≡ has r l || eqb (rank_of f) r
unfolding meet
has_meet r l f n e q h =
    ⊎_elim
    (λ g. rw g (old (either (eqb (rank_of f) r)) g))
    (λ g. rw g (has_place_lem r f l h (free-place (rank_of f) l n e q g)))
    (either (has (rank_of f) l))
  where
    old : (eqb (rank_of f) r ≡ true) ⊎ (eqb (rank_of f) r ≡ false) → has (rank_of f) l ≡ true → has r l ≡ has r l || eqb (rank_of f) r
    old (inl g) t = let h : has r l ≡ true = rw (← eqb-true (rank_of f) r g) t in rw h refl
    old (inr g) t = rw g (or_comm false (has r l))

-- ---- the spans of a message that a frame opens

empty_none : (r : ℕ) → r ≤ 2 → has r (empty_span ∷ empty_span ∷ []) ≡ false
unfolding has
empty_none r h = rw (not_empty no_span r refl h) refl

pub open_has : (r : ℕ) (f : Frame) → r ≤ 2 → has r (span_of f ∷ empty_span ∷ empty_span ∷ []) ≡ eqb (rank_of f) r
unfolding has span_of
open_has r f h = rw (not_empty no_span r refl h) (or_comm (eqb (rank_of f) r) false)

pub open-spans : (f : Frame) → rank_of f ≤ 2 → spans_fit (span_of f ∷ empty_span ∷ empty_span ∷ []) ≡ true
unfolding spans_fit span_of
open-spans f h = fit-cons (span_of f) (empty_span ∷ empty_span ∷ []) (le-leb (rank_of f) 2 h) (empty_none (rank_of f) h) refl

pub open-front : (f : Frame) → in_front (span_of f ∷ empty_span ∷ empty_span ∷ []) ≡ true
unfolding in_front
open-front f = refl

-- a message keeps some rank
pub any_kept : (l : List FrameSpan) (f : Frame) → has 0 l || (has 1 l || has 2 l) ≡ true → has 0 (meet l f) || (has 1 (meet l f) || has 2 (meet l f)) ≡ true
any_kept l f e =
    any (has 0 l) (has 1 l) (has 2 l) (has 0 (meet l f)) (has 1 (meet l f)) (has 2 (meet l f)) (meet_kept 0 l f (omega arith)) (meet_kept 1 l f (omega arith))
    (meet_kept 2 l f (omega arith)) e
  where
    any : (a b c x y z : Bool) → (a ≡ true → x ≡ true) → (b ≡ true → y ≡ true) → (c ≡ true → z ≡ true) → a || (b || c) ≡ true → x || (y || z) ≡ true
    any true b c x y z p q r e = rw (p refl) refl
    any false true c x y z p q r e = rw (q refl) (or-true x)
    any false false c x y z p q r e = rw (r e, or-true y) (or-true x)
