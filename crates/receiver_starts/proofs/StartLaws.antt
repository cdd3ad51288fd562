-- Turns of the loops over remembered starts, on plain lists. Assumes nothing.
use mathlib.Core.Bool.{true, false}
use mathlib.Core.List.{List, [], ◌++◌, ◌∷◌}
use mathlib.Core.Logic.{⊎_elim}
use mathlib.Core.Path.{◌∙◌, ◌≡◌, ap, ap₂, refl, sym}
use Prim.Native.Nat.{◌*◌, ◌+◌, ◌-◌, ◌<◌, ◌^◌, ◌≤◌, suc, ℕ}
use native.Mathlib.Numerals.{add-one}
use native.Mathlib.Omega.{arith}
use Rattle.std.proofs.lemmas.List.{get_or_at}
use lib.Dec.{ltb}
use lib.IntN.{ℤ, pos, negsuc, neg_ℤ, nat_abs, sub_ℕ, ◌+ℤ◌, ◌-ℤ◌}
use lib.Signed.{le_z, lt_z, mag}
use lib.ListN.{drop, get_or, length, length-append, length-map, length-set, set, take, take-append-drop}
use lib.Seq.{drop-cons, drop-set-lt, length-take-le, take-append_seam, take-suc}
use borrow.Author.Tests.{le-leb, le-ltb, leb-true, lt-leb, lt-ltb}
use Rattle.ledger.specs.Ledger.{close, dist}
use Rattle.ledger.proofs.Basics.{and_true, either}
use Rattle.receiver_starts.specs.Starts.{distances, over, near_one, lately, moved, all_below, all_from, all_apart}
use Rattle.receiver_starts.specs.declared.Starts.{Starts}
use Rattle.receiver_starts.proofs.Places.{laid_over, over_again, store_next, take-few, take_store}
use Rattle.receiver_starts.proofs.Signed.{ahead, behind, apart_is, below_is, biased_is, from_is, minus_is, sub_same}
use Rattle.endian.specs.Bytes.{signed_of}

-- ---- a distance by what it is with 2^31 added

abbrev pub Biased : ℤ → ℕ → Type 0
Biased d r = pos r ≡ d +ℤ pos (2 ^ 31)

module _ (d : ℤ) (r : ℕ) (b : Biased d r) where
  close_by : (rate : ℕ) (x : ℤ) (at : ℕ) → Biased x at → close rate r at ≡ ltb (10 * nat_abs (d -ℤ x)) (3 * rate)
  close_by rate x at c =
      let p = biased_is d r (2 ^ 31) b in
      let q = biased_is x at (2 ^ 31) c in
      let e : dist r at ≡ dist (ahead d + behind x) (ahead x + behind d) = omega arith in
      ap (λ (k : ℕ). ltb (10 * k) (3 * rate)) (e ∙ sym (apart_is d x))

  at_end : (held : ℕ) → 2 ^ 31 + held ≤ r → lt_z d (pos held) ≡ false
  at_end held h =
      let p = biased_is d r (2 ^ 31) b in
      below_is d held ∙ le-ltb (ahead d) (held + behind d) (omega arith)

  before_end : (held : ℕ) → r < 2 ^ 31 + held → lt_z d (pos held) ≡ true
  before_end held h =
      let p = biased_is d r (2 ^ 31) b in
      below_is d held ∙ lt-ltb (ahead d) (held + behind d) (omega arith)

  too_old : (back : ℕ) → r + back < 2 ^ 31 → le_z (neg_ℤ (pos back)) d ≡ false
  too_old back h =
      let p = biased_is d r (2 ^ 31) b in
      from_is d back ∙ lt-leb (behind d) back (omega arith)

  not_old : (back : ℕ) → 2 ^ 31 ≤ r + back → le_z (neg_ℤ (pos back)) d ≡ true
  not_old back h =
      let p = biased_is d r (2 ^ 31) b in
      from_is d back ∙ le-leb (behind d) back (either-part d back r (2 ^ 31) p h)
    where
      either-part : (d : ℤ) (back r m : ℕ) → r + behind d ≡ m + ahead d → m ≤ r + back → behind d ≤ back
      either-part (pos n) back r m p h = omega arith
      either-part (negsuc k) back r m p h = omega arith

  pub biased-lt : mag d < 2 ^ 31 → r < 2 ^ 32
  biased-lt f = small d r (biased_is d r (2 ^ 31) b) f
    where
      small : (d : ℤ) (r : ℕ) → r + behind d ≡ 2 ^ 31 + ahead d → mag d < 2 ^ 31 → r < 2 ^ 32
      small (pos n) r p f = omega arith
      small (negsuc k) r p f = omega arith

  -- moved by no more than it can be
  pub less_fits : (by : ℕ) → by ≤ 2 ^ 30 → le_z (neg_ℤ (pos (2 ^ 30))) d ≡ true → by ≤ r
  less_fits by h e =
      let p = biased_is d r (2 ^ 31) b in
      let q = leb-true (behind d) (2 ^ 30) (sym (from_is d (2 ^ 30)) ∙ e) in
      omega arith

  pub less_is : (by : ℕ) → by ≤ r → sub_ℕ (r - by) (2 ^ 31) ≡ d -ℤ pos by
  less_is by h =
      let p = biased_is d r (2 ^ 31) b in
      sub_same (r - by) (2 ^ 31) (ahead d) (behind d + by) (omega arith) ∙ sym (minus_is d by)

-- ---- loops that look at each start: i is the place, and drop i l what is left; r is the distance there with 2^31 added

module _ (l : List ℤ) (i : ℕ) (here : i < length l) (r : ℕ) (b : Biased (get_or l i (pos 0)) r) where
  abbrev at : ℤ
  at = get_or l i (pos 0)

  pub near_hit : (rate : ℕ) (x : ℤ) (y : ℕ) → Biased x y → close rate r y ≡ true → near_one rate (drop i l) x ≡ true
  unfolding near_one
  near_hit rate x y c e = rw (drop-cons l i (pos 0) here, sym (close_by at r b rate x y c) ∙ e) refl

  pub near_miss : (rate : ℕ) (x : ℤ) (y : ℕ) → Biased x y → close rate r y ≡ false → near_one rate (drop i l) x ≡ near_one rate (drop (i + 1) l) x
  unfolding near_one
  near_miss rate x y c e = rw (drop-cons l i (pos 0) here, sym (close_by at r b rate x y c) ∙ e, add-one) refl

  pub below_not : (held : ℕ) → 2 ^ 31 + held ≤ r → all_below held (drop i l) ≡ false
  unfolding all_below
  below_not held h = rw (drop-cons l i (pos 0) here, at_end at r b held h) refl

  pub below_more : (held : ℕ) → r < 2 ^ 31 + held → all_below held (drop i l) ≡ all_below held (drop (i + 1) l)
  unfolding all_below
  below_more held h = rw (drop-cons l i (pos 0) here, before_end at r b held h, add-one) refl

  pub from_not : (back oldest : ℕ) → oldest ≡ 2 ^ 31 - back → r < oldest → all_from back (drop i l) ≡ false
  unfolding all_from
  from_not back oldest e h = rw (drop-cons l i (pos 0) here, too_old at r b back (omega arith)) refl

  pub from_more : (back oldest : ℕ) → oldest ≡ 2 ^ 31 - back → oldest ≤ r → all_from back (drop i l) ≡ all_from back (drop (i + 1) l)
  unfolding all_from
  from_more back oldest e h = rw (drop-cons l i (pos 0) here, not_old at r b back (omega arith), add-one) refl

module _ (l : List ℤ) (i : ℕ) (here : i < length l) where
  pub apart_not : (rate : ℕ) → near_one rate (take i l) (get_or l i (pos 0)) ≡ true → all_apart rate (take i l) (drop i l) ≡ false
  unfolding all_apart
  apart_not rate e = rw (drop-cons l i (pos 0) here, e) refl

  pub apart_more : (rate : ℕ) → near_one rate (take i l) (get_or l i (pos 0)) ≡ false
      → all_apart rate (take i l) (drop i l) ≡ all_apart rate (take (i + 1) l) (drop (i + 1) l)
  unfolding all_apart
  apart_more rate e = rw (drop-cons l i (pos 0) here, e, add-one, take-suc l i (pos 0) here) refl

-- ---- what is forgotten

module _ (d : ℤ) (r : ℕ) (b : Biased d r) (back : ℕ) where
  pub keep_old : r + back < 2 ^ 31 → lately back (d ∷ []) ≡ []
  unfolding lately
  keep_old h = rw (too_old d r b back h) refl

  pub keep-recent : 2 ^ 31 ≤ r + back → lately back (d ∷ []) ≡ d ∷ []
  unfolding lately
  keep-recent h = rw (not_old d r b back h) refl

lately-join : (back : ℕ) (a b : List ℤ) → lately back (a ++ b) ≡ lately back a ++ lately back b
unfolding lately
lately-join back [] b = refl
lately-join back (x ∷ a) b =
    ⊎_elim (λ e. rw e (ap (λ (l : List ℤ). x ∷ l) (lately-join back a b))) (λ e. rw e (lately-join back a b)) (either (le_z (neg_ℤ (pos back)) x))

lately-few : (back : ℕ) (l : List ℤ) → length (lately back l) ≤ length l
unfolding lately
lately-few back [] = omega arith
lately-few back (x ∷ l) =
    let i = lately-few back l in ⊎_elim (λ e. rw e (omega arith)) (λ e. rw e (omega arith)) (either (le_z (neg_ℤ (pos back)) x))

-- ---- what is moved

-- the next one is not too old, nor are those behind it
pub from_next : (back : ℕ) (l : List ℤ) (i : ℕ) → i < length l → all_from back (drop i l) ≡ true
    → (le_z (neg_ℤ (pos back)) (get_or l i (pos 0)) ≡ true) × (all_from back (drop (i + 1) l) ≡ true)
unfolding all_from
from_next back l i h e =
    let a = and_true (le_z (neg_ℤ (pos back)) (get_or l i (pos 0))) (all_from back (drop (suc i) l)) (rw (drop-cons l i (pos 0) h) at e) in
    (a.0, rw add-one a.1)

moved-join : (by : ℕ) (a b : List ℤ) → moved by (a ++ b) ≡ moved by a ++ moved by b
moved-join by [] b = refl
moved-join by (d ∷ a) b = ap (λ (l : List ℤ). (d -ℤ pos by) ∷ l) (moved-join by a b)

-- a turn of the loop that moves them in place
pub moved-turn : (by : ℕ) (l r : List ℤ) (i : ℕ) → i < length l → r ≡ moved by (take i l) ++ drop i l
    → set r i (get_or l i (pos 0) -ℤ pos by) ≡ moved by (take (i + 1) l) ++ drop (i + 1) l
moved-turn by l r i h e =
    let d = get_or l i (pos 0) in
    let n : length (moved by (take i l)) ≡ i = length-map (take i l) _ ∙ length-take-le i l (omega arith) in
    let t : moved by (take (i + 1) l) ≡ moved by (take i l) ++ ((d -ℤ pos by) ∷ []) = rw (add-one, take-suc l i (pos 0) h) (moved-join by (take i l) (d ∷ [])) in
    rw (e, t) (store_next (moved by (take i l)) l i (d -ℤ pos by) n h)

-- what stands where it has come to
pub moved_here : (by : ℕ) (l r : List ℤ) (i : ℕ) → i < length l → r ≡ moved by (take i l) ++ drop i l → get_or r i (pos 0) ≡ get_or l i (pos 0)
moved_here by l r i h e =
    let n : length (moved by (take i l)) ≡ i = length-map (take i l) _ ∙ length-take-le i l (omega arith) in
    rw (e, drop-cons l i (pos 0) h) (get_or_at (moved by (take i l)) (get_or l i (pos 0)) (drop (suc i) l) (pos 0) i n)

-- ---- the array

-- by what it stands for and by the places behind
over_by : (s t : Starts) (l : List ℤ) → t.count ≤ length t.at → distances t ≡ l → drop t.count t.at ≡ drop t.count s.at → t ≡ over s l
unfolding over
over_by s t l h e f = let p = laid_over t.at s.at l t.count h e f in ap₂ (λ (x : List ℤ) (n : ℕ). record { at = x; count = n }) p.1 p.0

-- over itself
pub starts_same : (s : Starts) → s.count ≡ length (distances s) → s ≡ over s (distances s)
unfolding over
starts_same s e = rw (← e, take-append-drop s.count s.at) refl

-- one start more
pub over_store : (s : Starts) (x : ℤ) → s.count < length s.at
    → ◌≡◌ {A = Starts} (record { at = set s.at s.count x; count = s.count + 1 }) (over s (distances s ++ (x ∷ [])))
over_store s x h =
    over_by s (record { at = set s.at s.count x; count = s.count + 1 }) (distances s ++ (x ∷ [])) (omega (arith, length-set s.at s.count x))
    (take_store s.at s.count x h) (drop-set-lt (s.count + 1) s.at s.count x (omega arith))

-- what it stands for
pub stands : (s t : Starts) (l : List ℤ) → t ≡ over s l → (distances t ≡ l) × (t.count ≡ length l)
unfolding over
stands s t l e = (ap distances e ∙ take-append_seam l (drop (length l) s.at), ap (λ (x : Starts). x.count) e)

pub stands_more : (s t : Starts) (l : List ℤ) → t ≡ over s (distances s ++ l) → t.count ≤ s.count + length l
stands_more s t l e = omega (arith, (stands s t (distances s ++ l) e).1, length-append (distances s) l, take-few s.count s.at)

pub stands_from : (back i : ℕ) (s t : Starts) (l : List ℤ) → t ≡ over s (lately back (take i l)) → t.count ≤ i
stands_from back i s t l e = omega (arith, (stands s t (lately back (take i l)) e).1, lately-few back (take i l), take-few i l)

-- a turn of the loop of `forget`: the next start stays, or not
pub forget-turn : (back : ℕ) (s t r : Starts) (l : List ℤ) (i : ℕ) → i < length l → t ≡ over s (lately back (take i l))
    → r ≡ over t (distances t ++ lately back (get_or l i (pos 0) ∷ [])) → r ≡ over s (lately back (take (i + 1) l))
unfolding over
forget-turn back s t r l i h e q =
    let a = lately back (take i l) in
    let c = lately back (get_or l i (pos 0) ∷ []) in
    let n : a ++ c ≡ lately back (take (i + 1) l) = sym (lately-join back (take i l) (get_or l i (pos 0) ∷ [])) ∙ ap (lately back) (sym (rw add-one (take-suc l i (pos 0) h))) in
    q ∙ rw ((stands s t a e).0, e) (rw (over_again s.at a c) (ap (over s) n))

-- the starts after the loop that moved them
pub moved_all : (by : ℕ) (s : Starts) (r : List ℤ) → s.count ≤ length s.at → r ≡ moved by (distances s)
    → ◌≡◌ {A = Starts} (record { at = r ++ drop s.count s.at; count = s.count }) (over s (moved by (distances s)))
unfolding over
moved_all by s r h e =
    let n : length (moved by (distances s)) ≡ s.count = length-map (distances s) _ ∙ length-take-le s.count s.at h in
    rw (e, n) refl

-- ---- a distance by its pattern of 32 bits

module _ (n : ℕ) where
  pub unbiased-low : n < 2 ^ 31 → signed_of 32 (n + 2 ^ 31) ≡ sub_ℕ n (2 ^ 31)
  unfolding signed_of
  unbiased-low h =
      let e : 2 ^ 32 - suc (n + 2 ^ 31) ≡ 2 ^ 31 - suc n = omega arith in
      rw (le-ltb (n + 2 ^ 31) (2 ^ 31) (omega arith), lt-ltb n (2 ^ 31) h, e) refl

  pub unbiased-high : 2 ^ 31 ≤ n → n < 2 ^ 32 → signed_of 32 (n - 2 ^ 31) ≡ sub_ℕ n (2 ^ 31)
  unfolding signed_of
  unbiased-high h k = rw (lt-ltb (n - 2 ^ 31) (2 ^ 31) (omega arith), le-ltb n (2 ^ 31) h) refl

  pub index_is : n < 2 ^ 31 → signed_of 32 n ≡ pos n
  unfolding signed_of
  index_is h = rw (lt-ltb n (2 ^ 31) h) refl
