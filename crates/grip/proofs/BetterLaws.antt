-- `better` is an order of the messages that qualify: by the whole numbers that their distances and times stand for. Assumes nothing.
use mathlib.Core.Path.{◌≡◌, refl, sym, ◌∙◌}
use mathlib.Core.Bool.{true, false, ◌&&◌}
use mathlib.Core.List.{List}
use Prim.Native.Nat.{ℕ}
use lib.Ieee.{Float, nan, inf, fin, binary64, sub, lt, eq, le}
use Rattle.floats.specs.Trig.{magnitude}
use Rattle.limits.proofs.Samples.{and_left, and_right}
use Rattle.record.specs.Readers.{time_of}
use Rattle.event_list.specs.Events.{is_message}
use Rattle.grip.specs.Times.{is_finite}
use Rattle.grip.specs.Nearest.{distance, qualifies, better}
use Rattle.grip.proofs.OrderLaws.{cases, clash, Numbers, numbers}
use Rattle.grip.proofs.RankLaws.{ahead, ahead-total, ahead-self, ahead-trans}

-- what is not over a finite number is finite
near_finite : (x w : Float) → is_finite w ≡ true → le (magnitude x) w ≡ true → is_finite (magnitude x) ≡ true
unfolding is_finite le lt eq magnitude
near_finite nan w W h = h
near_finite (inf s) nan W h = W
near_finite (inf s) (inf t) W h = W
near_finite (inf s) (fin t m e) W h = h
near_finite (fin s m e) w W h = refl

module _ (grip within : Float) (W : is_finite within ≡ true) where
  module _ (r : List ℕ) (q : qualifies grip within r ≡ true) where
    in-time : is_finite (time_of r) && le (distance grip r) within ≡ true
    in-time = and_right (is_message r) (is_finite (time_of r) && le (distance grip r) within) q

    finite-time : is_finite (time_of r) ≡ true
    finite-time = and_left (is_finite (time_of r)) (le (distance grip r) within) in-time

    finite-distance : is_finite (distance grip r) ≡ true
    finite-distance = near_finite (sub binary64 (time_of r) grip) within W (and_right (is_finite (time_of r)) (le (distance grip r) within) in-time)

  module _ (r : List ℕ) (i : ℕ) (q : qualifies grip within r ≡ true) (s : List ℕ) (j : ℕ) (p : qualifies grip within s ≡ true) (t : List ℕ) (k : ℕ) (o : qualifies grip within t ≡ true) where
    far : Numbers (distance grip r) (distance grip s) (distance grip t)
    far = numbers (distance grip r) (distance grip s) (distance grip t) (finite-distance r q) (finite-distance s p) (finite-distance t o)

    when : Numbers (time_of r) (time_of s) (time_of t)
    when = numbers (time_of r) (time_of s) (time_of t) (finite-time r q) (finite-time s p) (finite-time t o)

    first-is : better grip r i s j ≡ ahead far.a when.a i far.b when.b j
    first-is = rw (far.ab.less, far.ab.equal, when.ab.less, when.ab.equal) refl

    back_is : better grip s j r i ≡ ahead far.b when.b j far.a when.a i
    back_is = rw (far.ba.less, far.ba.equal, when.ba.less, when.ba.equal) refl

    second_is : better grip s j t k ≡ ahead far.b when.b j far.c when.c k
    second_is = rw (far.bc.less, far.bc.equal, when.bc.less, when.bc.equal) refl

    both_is : better grip r i t k ≡ ahead far.a when.a i far.c when.c k
    both_is = rw (far.ac.less, far.ac.equal, when.ac.less, when.ac.equal) refl

    pub better-trans : better grip r i s j ≡ true → better grip s j t k ≡ true → better grip r i t k ≡ true
    better-trans u v =
        both_is ∙ ahead-trans far.a when.a i far.b when.b j far.c when.c k (sym first-is ∙ u) (sym second_is ∙ v)

    pub better-total : better grip r i s j ≡ false → better grip s j r i ≡ false → i ≡ j
    better-total u v = ahead-total far.a when.a i far.b when.b j (sym first-is ∙ u) (sym back_is ∙ v)

  pub better-self : (r : List ℕ) (i : ℕ) → qualifies grip within r ≡ true → better grip r i r i ≡ false
  better-self r i q =
      let f = far r i q r i q r i q in
      let w = when r i q r i q r i q in
      cases (better grip r i r i)
      (λ p. clash (ahead f.a w.a i f.a w.a i)
      (ahead-trans f.a w.a i f.b w.b i f.a w.a i (sym (first-is r i q r i q r i q) ∙ p) (sym (back_is r i q r i q r i q) ∙ p))
      (ahead-self f.a w.a i))
      (λ p. p)
