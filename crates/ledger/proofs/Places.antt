-- Where the remembered starts stand: after every step of a call, from any state that is in order.
use Rattle.std.proofs.Common.{Option, None, Some}
use mathlib.Core.Path.{◌≡◌, refl, ◌∙◌}
use mathlib.Core.Logic.{◌⊎◌, inl, inr, ⊎_elim}
use mathlib.Core.List.{List, [], ◌∷◌, ◌++◌}
use mathlib.Core.Bool.{true, false}
use Prim.Native.Nat.{ℕ, ◌+◌, ◌-◌, ◌*◌, ◌≤◌, ◌<◌}
use native.Mathlib.Omega.{arith}
use lib.ListN.{length, take, drop, length-drop}
use lib.Dec.{leb, eqb}
use lib.Ieee.{Float}
use borrow.Author.Tests.{eqb-true, leb-true}
use Rattle.ledger.specs.Types.{DecodedFrame, Burst}
use Rattle.ledger.specs.Ledger.{Kind, Demod, capacity, half, seconds, near, spaced, starts_from, Ledger, hear, remember, takes, take_one, take_each, forget, halve, amount, add, scanned}
use Rattle.ledger.specs.Room.{Below, Since}
use Rattle.ledger.proofs.Basics.{either}
use Rattle.ledger.proofs.Spacing.{spaced_snoc, taken}
use Rattle.ledger.proofs.Pigeon.{select, spaced-select, Window, third, fits}
use Rattle.ledger.proofs.Bursts.{Proper}
use Rattle.ledger.proofs.Sizes.{add-length, amount-room}

-- ---- lists of starts

below_snoc : (hi : ℕ) (l : List ℕ) (x : ℕ) → Below hi l → x < hi → Below hi (l ++ (x ∷ []))
below_snoc hi [] x w h = (h, tt)
below_snoc hi (s ∷ l) x w h = (w.0, below_snoc hi l x w.1 h)

below_more : (a b : ℕ) (l : List ℕ) → a ≤ b → Below a l → Below b l
below_more a b [] h w = tt
below_more a b (s ∷ l) h w = (omega (arith, w.0), below_more a b l h w.1)

pub since_snoc : (base back : ℕ) (l : List ℕ) (x : ℕ) → Since base back l → base ≤ x → Since base back (l ++ (x ∷ []))
since_snoc base back [] x w h = (omega arith, tt)
since_snoc base back (s ∷ l) x w h = (w.0, since_snoc base back l x w.1 h)

-- where the base moves on by a
since_more : (base back a b : ℕ) (l : List ℕ) → back + a ≤ b → Since base back l → Since (base + a) b l
since_more base back a b [] h w = tt
since_more base back a b (s ∷ l) h w = (omega (arith, w.0), since_more base back a b l h w.1)

pub since_weaken : (base a b : ℕ) (l : List ℕ) → a ≤ b → Since base a l → Since base b l
since_weaken base a b [] h w = tt
since_weaken base a b (s ∷ l) h w = (omega (arith, w.0), since_weaken base a b l h w.1)

module _ (lo : ℕ) where
  from_select : (l : List ℕ) → starts_from lo l ≡ select (leb lo) l
  unfolding starts_from
  from_select [] = refl
  from_select (s ∷ l) = rw (from_select l) refl

  select-below : (hi : ℕ) (l : List ℕ) → Below hi l → Below hi (select (leb lo) l)
  select-below hi [] w = tt
  select-below hi (s ∷ l) w = ⊎_elim (λ e. rw e (w.0, select-below hi l w.1)) (λ e. rw e (select-below hi l w.1)) (either (leb lo s))

  select-since : (base back : ℕ) (l : List ℕ) → base ≤ lo + back → Since base back (select (leb lo) l)
  select-since base back [] h = tt
  select-since base back (s ∷ l) h =
      ⊎_elim
      (λ e. let g = leb-true lo s e in rw e (omega arith, select-since base back l h))
      (λ e. rw e (select-since base back l h))
      (either (leb lo s))

window : (base back hi : ℕ) (l : List ℕ) → Since base back l → Below hi l → Window (base - back) hi l
window base back hi [] p q = tt
window base back hi (s ∷ l) p q = (omega (arith, p.0), q.0, window base back hi l p.1 q.1)

module _ {K : Kind} where
  -- ---- during a scan

  pub record Loose (rate back : ℕ) (l : Ledger K) : Type 0 where
    pub small : length l.held ≤ capacity rate
    pub below : Below (l.base + length l.held) l.starts
    pub apart : spaced rate [] l.starts ≡ true
    pub recent : Since l.base back l.starts

  -- at most m starts, where 12 s and `back` are at most m times 0.3 s
  pub few-starts : (rate back m : ℕ) (l : Ledger K) → capacity rate + back ≤ third rate * m → Loose rate back l → length l.starts ≤ m
  few-starts rate back m l h w =
      fits rate m (l.base - back) (l.base + length l.held) l.starts (omega (arith, w.small)) w.apart (window l.base back (l.base + length l.held) l.starts w.recent w.below)

  hear-loose : (rate back : ℕ) (l : Ledger K) (b : Burst) (o : Option DecodedFrame) → b.start < length l.held → near rate l.starts (l.base + b.start) ≡ false
      → Loose rate back l → Loose rate back (hear (remember l (l.base + b.start)) (l.base + b.start) o)
  unfolding hear remember
  hear-loose rate back l b None h n w =
      record {
        small = w.small;
        below = below_snoc (l.base + length l.held) l.starts (l.base + b.start) w.below (omega arith);
        apart = spaced_snoc rate [] l.starts (l.base + b.start) w.apart n;
        recent = since_snoc l.base back l.starts (l.base + b.start) w.recent (omega arith);
      }
  hear-loose rate back l b (Some f) h n w =
      record {
        small = w.small;
        below = below_snoc (l.base + length l.held) l.starts (l.base + b.start) w.below (omega arith);
        apart = spaced_snoc rate [] l.starts (l.base + b.start) w.apart n;
        recent = since_snoc l.base back l.starts (l.base + b.start) w.recent (omega arith);
      }

  module _ (rate : ℕ) (d : Demod) (back wait : ℕ) where
    pub one-loose : (l : Ledger K) (b : Burst) → b.start < b.end → Loose rate back l → Loose rate back (take_one rate d wait l b)
    unfolding take_one
    one-loose l b h w =
        ⊎_elim
        (λ e. let t = taken rate wait l b e in
        rw e (hear-loose rate back l b (d.decode l.held (seconds rate l.base) b) (omega (arith, t.1)) t.2 w))
        (λ e. rw e w)
        (either (takes rate wait l b))

    pub each-loose : (l : Ledger K) (bs : List Burst) → Proper rate bs → Loose rate back l → Loose rate back (take_each rate d wait l bs)
    unfolding take_each
    each-loose l [] p w = w
    each-loose l (b ∷ bs) p w = each-loose (take_one rate d wait l b) bs p.1 (one-loose l b (omega (arith, p.0)) w)

  pub forget-loose : (rate back : ℕ) (l : Ledger K) → Loose rate back l → Loose rate rate (forget rate l)
  unfolding forget spaced
  forget-loose rate back l w =
      record {
        small = w.small;
        below = rw (from_select (l.base - rate) l.starts) (select-below (l.base - rate) (l.base + length l.held) l.starts w.below);
        apart = rw (from_select (l.base - rate) l.starts) (spaced-select rate (leb (l.base - rate)) [] l.starts w.apart);
        recent = rw (from_select (l.base - rate) l.starts) (select-since (l.base - rate) l.base rate l.starts (omega arith));
      }

  -- ---- between fillings

  -- the starts are at most `back` before the base; or 6 s more, where the list has been halved and not been scanned since
  pub record Placed (rate back : ℕ) (l : Ledger K) : Type 0 where
    pub small : length l.held ≤ capacity rate
    pub below : Below (l.base + length l.held) l.starts
    pub apart : spaced rate [] l.starts ≡ true
    pub recent : Since l.base back l.starts ⊎ (Since l.base (back + half rate) l.starts × (length l.held ≤ half rate + l.unscanned))

  pub loose : (rate back : ℕ) (l : Ledger K) → Placed rate back l → Loose rate (back + half rate) l
  loose rate back l w =
      record {
        small = w.small;
        below = w.below;
        apart = w.apart;
        recent = ⊎_elim (λ a. since_weaken l.base back (back + half rate) l.starts (omega arith) a) (λ a. a.0) w.recent;
      }

  pub placed : (rate back : ℕ) (l : Ledger K) → rate ≤ back → Loose rate rate l → Placed rate back l
  placed rate back l h w =
      record { small = w.small; below = w.below; apart = w.apart; recent = inl (since_weaken l.base rate back l.starts h w.recent) }

  module _ (rate back : ℕ) (l : Ledger K) (pos : 1 ≤ rate) (quiet : 2 * l.unscanned < rate) (w : Placed rate back l) where
    halve-placed : Placed rate back (halve rate l)
    unfolding halve
    halve-placed =
        ⊎_elim
        (λ e. rw e (dropped (eqb-true (length l.held) (capacity rate) e)))
        (λ e. rw e w)
        (either (eqb (length l.held) (capacity rate)))
      where
        dropped : length l.held ≡ capacity rate
            → Placed rate back (record { held = drop (half rate) l.held; base = l.base + half rate; unscanned = l.unscanned; starts = l.starts; waiting = l.waiting; heard = l.heard })
        dropped q =
            let n : length (drop (half rate) l.held) ≡ half rate = length-drop (half rate) l.held ∙ omega arith in
            record {
              small = omega (arith, n);
              below = below_more (l.base + length l.held) (l.base + half rate + length (drop (half rate) l.held)) l.starts (omega (arith, n)) w.below;
              apart = w.apart;
              recent = inr (⊎_elim (λ a. since_more l.base back (half rate) (back + half rate) l.starts (omega arith) a) (λ a. absurd (omega (arith, a.1))) w.recent, omega (arith, n));
            }

  add-placed : (rate back : ℕ) (l : Ledger K) (xs : List Float) → Placed rate back l → Placed rate back (add rate l xs)
  unfolding add
  add-placed rate back l xs w =
      let n : length (l.held ++ take (amount rate l xs) xs) ≡ length l.held + amount rate l xs = add-length rate l xs in
      record {
        small = omega (arith, n, amount-room rate l xs w.small);
        below = below_more (l.base + length l.held) (l.base + length (l.held ++ take (amount rate l xs) xs)) l.starts (omega (arith, n)) w.below;
        apart = w.apart;
        recent = ⊎_elim (λ a. inl a) (λ a. inr (a.0, omega (arith, n, a.1))) w.recent;
      }

  pub filled : (rate back : ℕ) (l : Ledger K) (xs : List Float) → 1 ≤ rate → 2 * l.unscanned < rate → Placed rate back l → Placed rate back (add rate (halve rate l) xs)
  filled rate back l xs h q w = add-placed rate back (halve rate l) xs (halve-placed rate back l h q w)

  pub scanned-loose : (rate back : ℕ) (l : Ledger K) → Loose rate back l → Loose rate back (scanned l)
  unfolding scanned
  scanned-loose rate back l w = record { small = w.small; below = w.below; apart = w.apart; recent = w.recent }
