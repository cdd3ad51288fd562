-- Three spans and what is merged into them, case by case. Assumes nothing.
use Rattle.std.proofs.Common.{None, Some, Option}
use mathlib.Core.Bool.{Bool, ◌&&◌, ◌||◌, cond, false, not, true}
use mathlib.Core.List.{List, [], ◌∷◌, map}
use mathlib.Core.Path.{◌∙◌, ◌≡◌, ap, refl, sym}
use Prim.Native.Nat.{◌<◌, ◌≤◌, ℕ}
use native.Mathlib.Omega.{arith}
use lib.Dec.{eqb, leb}
use lib.Ieee.{Float, binary64, is_nan, nan, of_bits, of_int, round}
use lib.IntN.{ℤ}
use lib.ListN.{get_or, length, length-map, set}
use borrow.Author.Tests.{eq-eqb, le-leb, lt-leb, lt-ltb, ne_eqb}
use Rattle.floats.specs.Number.{num}
use Rattle.ledger.specs.Causes.{end_nan, span_nan, spans_fit, in_front}
use Rattle.ledger.specs.Frames.{Frame, rank_of}
use Rattle.ledger.specs.Merge.{end_after, estimate, frame_gap_s, has, known_of, later, lower, lowest_later, meet, no_span, open_entry, place, span_of}
use Rattle.record.specs.Spans.{spans_ok}
use Rattle.receiver_message.specs.Messages.{frame_of}
use Rattle.record.specs.declared.FrameSpan.{FrameSpan}
use Rattle.ledger.specs.declared.Pending.{Pending}
use Rattle.frame.specs.declared.UplinkFrame.{UplinkFrame}
use Rattle.record.specs.declared.Reception.{Reception}

-- the check's value for a place outside an array
abbrev pub outside : FrameSpan
outside = record { rank = 0; time = nan; end = nan }

pub length_mapped : (X Y : Type 0) (f : X → Y) (l : List X) (n : ℕ) → length (map f l) ≡ n → length l ≡ n
length_mapped X Y f l n e = sym (length-map l f) ∙ e

-- the list of an array of three
pub three : {A : Type 0} (l : List A) (d : A) → length l ≡ 3 → l ≡ get_or l 0 d ∷ get_or l 1 d ∷ get_or l 2 d ∷ []
three [] d e = absurd (omega arith)
three (a ∷ []) d e = absurd (omega arith)
three (a ∷ b ∷ []) d e = absurd (omega arith)
three (a ∷ b ∷ c ∷ []) d e = refl
three (a ∷ b ∷ c ∷ x ∷ l) d e = absurd (omega arith)

or_false : (b : Bool) → b || false ≡ b
or_false true = refl
or_false false = refl

has_of : (r : ℕ) (a b c : FrameSpan) → eqb a.rank r || (eqb b.rank r || eqb c.rank r) ≡ has r (a ∷ b ∷ c ∷ [])
unfolding has
has_of r a b c = rw (or_false (eqb c.rank r)) refl

pub has_is : (r : ℕ) (l : List FrameSpan) → length l ≡ 3
    → eqb (get_or l 0 outside).rank r || (eqb (get_or l 1 outside).rank r || eqb (get_or l 2 outside).rank r) ≡ has r l
has_is r l e = has_of r (get_or l 0 outside) (get_or l 1 outside) (get_or l 2 outside) ∙ ap (has r) (sym (three l outside e))

-- ---- into the first place that holds no span

module _ (f : Frame) (s : FrameSpan) (same : s ≡ span_of f) where
  put_first : (a : FrameSpan) (l : List FrameSpan) → a.rank ≡ no_span → set (a ∷ l) 0 s ≡ place f (a ∷ l)
  unfolding place
  put_first a l e = rw (eq-eqb a.rank no_span e, same) refl

  put-later : (a : FrameSpan) (l k : List FrameSpan) → (a.rank ≡ no_span → ⊥) → k ≡ place f l → a ∷ k ≡ place f (a ∷ l)
  unfolding place
  put-later a l k n e = rw (ne_eqb a.rank no_span n, e) refl

  put_none : [] ≡ place f []
  unfolding place
  put_none = refl

  pub place-0 : (l : List FrameSpan) → length l ≡ 3 → (get_or l 0 outside).rank ≡ no_span → set l 0 s ≡ place f l
  place-0 [] e h = absurd (omega arith)
  place-0 (a ∷ l) e h = put_first a l h

  pub place-1 : (l : List FrameSpan) → length l ≡ 3 → ((get_or l 0 outside).rank ≡ no_span → ⊥) → (get_or l 1 outside).rank ≡ no_span → set l 1 s ≡ place f l
  place-1 [] e g h = absurd (omega arith)
  place-1 (a ∷ []) e g h = absurd (omega arith)
  place-1 (a ∷ b ∷ l) e g h = put-later a (b ∷ l) (set (b ∷ l) 0 s) g (put_first b l h)

  pub place-2 : (l : List FrameSpan) → length l ≡ 3 → ((get_or l 0 outside).rank ≡ no_span → ⊥) → ((get_or l 1 outside).rank ≡ no_span → ⊥)
      → (get_or l 2 outside).rank ≡ no_span → set l 2 s ≡ place f l
  place-2 [] e g h k = absurd (omega arith)
  place-2 (a ∷ []) e g h k = absurd (omega arith)
  place-2 (a ∷ b ∷ []) e g h k = absurd (omega arith)
  place-2 (a ∷ b ∷ c ∷ l) e g h k =
      put-later a (b ∷ c ∷ l) (b ∷ set (c ∷ l) 0 s) g (put-later b (c ∷ l) (set (c ∷ l) 0 s) h (put_first c l k))

  pub place_none : (l : List FrameSpan) → length l ≡ 3 → ((get_or l 0 outside).rank ≡ no_span → ⊥) → ((get_or l 1 outside).rank ≡ no_span → ⊥)
      → ((get_or l 2 outside).rank ≡ no_span → ⊥) → l ≡ place f l
  place_none [] e g h k = absurd (omega arith)
  place_none (a ∷ []) e g h k = absurd (omega arith)
  place_none (a ∷ b ∷ []) e g h k = absurd (omega arith)
  place_none (a ∷ b ∷ c ∷ []) e g h k =
      put-later a (b ∷ c ∷ []) (b ∷ c ∷ []) g (put-later b (c ∷ []) (c ∷ []) h (put-later c [] [] k put_none))
  place_none (a ∷ b ∷ c ∷ x ∷ l) e g h k = absurd (omega arith)

  pub meet_there : (l : List FrameSpan) → has s.rank l ≡ true → l ≡ meet l f
  unfolding meet span_of rank_of
  meet_there l h = let g : has (rank_of f) l ≡ true = (rw same at h) in rw g refl

  pub meet-place : (l k : List FrameSpan) → has s.rank l ≡ false → k ≡ place f l → k ≡ meet l f
  unfolding meet span_of rank_of
  meet-place l k h e = let g : has (rank_of f) l ≡ false = (rw same at h) in rw (g, e) refl

-- ---- the lowest later rank

-- one span before those that are looked at
abbrev pub before : FrameSpan → Option FrameSpan → Option FrameSpan
before s o = cond (later s) (Some (lower s o)) o

module _ (s : FrameSpan) (some-rank : s.rank ≡ 0 → ⊥) (no-empty : s.rank ≡ no_span → ⊥) where
  is_later : later s ≡ true
  is_later = rw (ne_eqb s.rank no_span no-empty, lt-ltb 0 s.rank (omega arith)) refl

  pub lower_other : (o : Option FrameSpan) (t : FrameSpan) → o ≡ Some t → t.rank < s.rank → Some t ≡ before s o
  unfolding lower
  lower_other o t e h = rw (is_later, e, lt-leb s.rank t.rank h) refl

  pub lower_this : (o : Option FrameSpan) (t : FrameSpan) → o ≡ Some t → s.rank ≤ t.rank → Some s ≡ before s o
  unfolding lower
  lower_this o t e h = rw (is_later, e, le-leb s.rank t.rank h) refl

  pub lower_only : (o : Option FrameSpan) → o ≡ None → Some s ≡ before s o
  unfolding lower
  lower_only o e = rw (is_later, e) refl

pub estimate_is : (l : List FrameSpan) (o p q : Option FrameSpan) → length l ≡ 3
    → q ≡ before (get_or l 2 outside) None → p ≡ before (get_or l 1 outside) q → o ≡ before (get_or l 0 outside) p → known_of o ≡ estimate l
unfolding lowest_later
estimate_is l o p q e h2 h1 h0 = rw (h0, h1, h2) (ap estimate (sym (three l outside e)))

-- ---- numbers of the code

pub gap_is : of_bits binary64 0x4003_70a3_d70a_3d71 ≡ frame_gap_s
unfolding of_bits of_int round
gap_is = refl

pub zero_is : of_bits binary64 0 ≡ num 0
unfolding of_bits of_int round
zero_is = refl

-- ---- the records

pub opened_is : (f : UplinkFrame) (r : Reception) (e : (Option Float)) (s : FrameSpan) (z : ℤ)
    → e ≡ cond (eqb f.rank 0) (Some r.end) None → s ≡ span_of (frame_of f r) → z ≡ r.clock_error_ppm
    → ◌≡◌ {A = Pending}
    (record {
      message =
          record {
            device_id = f.device_id;
            counter = f.counter;
            payload = f.payload;
            payload_len = f.payload_len;
            bit = f.bit;
            downlink = f.downlink;
            control = f.control;
            auth = f.auth;
            auth_len = f.auth_len;
            time = r.time;
            first_frame_end = e;
            rssi = r.rssi;
            spans =
                s ∷ record { rank = no_span; time = of_bits binary64 0; end = of_bits binary64 0 }
                ∷ record { rank = no_span; time = of_bits binary64 0; end = of_bits binary64 0 } ∷ [];
            clock_error_ppm = z;
            start = r.start;
            depth = r.depth;
          };
      last = r.time;
    })
    (open_entry (frame_of f r))
unfolding open_entry end_after rank_of
opened_is f r e s z he hs hz = rw (he, hs, hz, zero_is) refl

-- ---- a given state's messages, and given spans

and_true : (b : Bool) → b && true ≡ b
and_true true = refl
and_true false = refl

abbrev one_fits : ℕ → Bool → Bool
one_fits r again = eqb r no_span || (leb r 2 && not again)

fit_of : (a b c : FrameSpan)
    → one_fits a.rank (eqb b.rank a.rank || eqb c.rank a.rank) && (one_fits b.rank (eqb c.rank b.rank) && one_fits c.rank false)
    ≡ spans_fit (a ∷ b ∷ c ∷ [])
unfolding spans_fit has
fit_of a b c = rw (or_false (eqb c.rank a.rank), or_false (eqb c.rank b.rank), and_true (eqb c.rank no_span || (leb c.rank 2 && true))) refl

pub fit_is : (l : List FrameSpan) (x y z : Bool) → length l ≡ 3
    → x ≡ one_fits (get_or l 0 outside).rank (eqb (get_or l 1 outside).rank (get_or l 0 outside).rank || eqb (get_or l 2 outside).rank (get_or l 0 outside).rank)
    → y ≡ one_fits (get_or l 1 outside).rank (eqb (get_or l 2 outside).rank (get_or l 1 outside).rank) → z ≡ one_fits (get_or l 2 outside).rank false
    → x && (y && z) ≡ spans_fit l
fit_is l x y z e hx hy hz = rw (hx, hy, hz) (fit_of (get_or l 0 outside) (get_or l 1 outside) (get_or l 2 outside) ∙ ap spans_fit (sym (three l outside e)))

front_of : (a b c : FrameSpan) → (eqb b.rank no_span || not (eqb a.rank no_span)) && (eqb c.rank no_span || not (eqb b.rank no_span)) ≡ in_front (a ∷ b ∷ c ∷ [])
unfolding in_front
front_of a b c = rw (and_true (eqb c.rank no_span || not (eqb b.rank no_span))) refl

pub front_is : (l : List FrameSpan) → length l ≡ 3
    → (eqb (get_or l 1 outside).rank no_span || not (eqb (get_or l 0 outside).rank no_span)) && (eqb (get_or l 2 outside).rank no_span || not (eqb (get_or l 1 outside).rank no_span))
    ≡ in_front l
front_is l e = front_of (get_or l 0 outside) (get_or l 1 outside) (get_or l 2 outside) ∙ ap in_front (sym (three l outside e))

abbrev one_nan : FrameSpan → Bool
one_nan s = not (eqb s.rank no_span) && (is_nan s.time || is_nan s.end)

nan_of : (a b c : FrameSpan) → one_nan a || (one_nan b || one_nan c) ≡ span_nan (a ∷ b ∷ c ∷ [])
unfolding span_nan
nan_of a b c = rw (or_false (one_nan c)) refl

pub spans-nan_is : (l : List FrameSpan) (x y z : Bool) → length l ≡ 3 → x ≡ one_nan (get_or l 0 outside) → y ≡ one_nan (get_or l 1 outside) → z ≡ one_nan (get_or l 2 outside)
    → x || (y || z) ≡ span_nan l
spans-nan_is l x y z e hx hy hz = rw (hx, hy, hz) (nan_of (get_or l 0 outside) (get_or l 1 outside) (get_or l 2 outside) ∙ ap span_nan (sym (three l outside e)))

-- the answer of `spans_ok`, by the array
pub ok_is : (l : List FrameSpan) (b : Bool) → length l ≡ 3 → b ≡ spans_ok (get_or l 0 outside ∷ get_or l 1 outside ∷ get_or l 2 outside ∷ []) → b ≡ spans_ok l
ok_is l b e h = h ∙ ap spans_ok (sym (three l outside e))

pub end_known : (o : (Option Float)) (t : Float) (b : Bool) → o ≡ Some t → b ≡ is_nan t → b ≡ end_nan o
unfolding end_nan
end_known o t b e h = rw e h

pub end_unknown : (o : (Option Float)) → o ≡ None → false ≡ end_nan o
unfolding end_nan
end_unknown o e = rw e refl
