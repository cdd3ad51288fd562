-- Laws of the clusters of loud samples, on plain lists. Assumes nothing.
use Rattle.std.proofs.Common.{◌≡◌, ℕ, suc, ◌+◌, ◌-◌, ◌<◌, ◌≤◌, true, false, List, [], ◌∷◌, length, get_or, drop, sym, refl, ap, ◌∙◌, add-one, arith, drop_of_length-le, drop-cons, le-ltb, lt-ltb}
use lib.Ieee.{Float, nan}
use Rattle.bursts.specs.Bursts.{Cluster, cluster, Open, none, since, loud, clusters}
use Rattle.bursts.specs.Found.{LastLoud}

module _ (t : Float) (gap : ℕ) (l : List Float) where
  -- the clusters from index i on
  abbrev pub left : Open → ℕ → List Cluster
  left o i = clusters t gap o i (drop i l)

  pub left_end : (i : ℕ) → length l ≤ i → left none i ≡ []
  unfolding clusters
  left_end i h = rw (drop_of_length-le l {i = i} h)

  pub closed_end : (s k i : ℕ) → length l ≤ i → left (since s k) i ≡ cluster s k ∷ []
  unfolding clusters
  closed_end s k i h = rw (drop_of_length-le l {i = i} h)

  module _ (i : ℕ) (h : i < length l) where
    pub quiet-passed : loud t (get_or l i nan) ≡ false → left none i ≡ left none (i + 1)
    unfolding clusters
    quiet-passed q = rw (drop-cons l i nan h, q, add-one i)

    pub opened : loud t (get_or l i nan) ≡ true → left none i ≡ left (since i i) (suc i)
    unfolding clusters
    opened q = rw (drop-cons l i nan h, q)

    pub kept-loud : (s k : ℕ) → loud t (get_or l i nan) ≡ true → left (since s k) i ≡ left (since s i) (i + 1)
    unfolding clusters
    kept-loud s k q = rw (drop-cons l i nan h, q, add-one i)

    pub kept-quiet : (s k : ℕ) → loud t (get_or l i nan) ≡ false → i - k ≤ gap → left (since s k) i ≡ left (since s k) (i + 1)
    unfolding clusters
    kept-quiet s k q g = rw (drop-cons l i nan h, q, le-ltb gap (i - k) g, add-one i)

    pub closed-here : (s k : ℕ) → loud t (get_or l i nan) ≡ false → gap < i - k
        → left (since s k) i ≡ cluster s k ∷ left none (i + 1)
    unfolding clusters
    closed-here s k q g = rw (drop-cons l i nan h, q, lt-ltb gap (i - k) g, add-one i)

-- at index i the cluster that `first` opened is open, and all samples after its last loud one are quiet
pub record OpenAt (t : Float) (gap : ℕ) (l : List Float) (first last i : ℕ) : Type 0 where
  pub still : left t gap l (since first first) (suc first) ≡ left t gap l (since first last) i
  pub quiet : left t gap l none (suc last) ≡ left t gap l none i
  pub after : first ≤ last
  pub below : last < i
  pub inside : i ≤ length l

module _ (t : Float) (gap : ℕ) (l : List Float) (first : ℕ) where
  pub open_first : first < length l → OpenAt t gap l first first (first + 1)
  open_first h = rw (add-one first) (record { still = refl; quiet = refl; after = omega arith; below = omega arith; inside = omega arith })

  module _ (last i : ℕ) (o : OpenAt t gap l first last i) where
    pub open-loud : i < length l → loud t (get_or l i nan) ≡ true → OpenAt t gap l first i (i + 1)
    open-loud h q =
        record {
          still = o.still ∙ kept-loud t gap l i h first last q;
          quiet = rw (add-one i);
          after = omega (arith, o.after, o.below);
          below = omega arith;
          inside = omega arith;
        }

    pub open-quiet : i < length l → loud t (get_or l i nan) ≡ false → i - last ≤ gap → OpenAt t gap l first last (i + 1)
    open-quiet h q g =
        record {
          still = o.still ∙ kept-quiet t gap l i h first last q g;
          quiet = o.quiet ∙ quiet-passed t gap l i h q;
          after = o.after;
          below = omega (arith, o.below);
          inside = omega arith;
        }

    pub open-closed : i < length l → loud t (get_or l i nan) ≡ false → gap < i - last → LastLoud t gap l first last
    open-closed h q g =
        record {
          closed = o.still ∙ closed-here t gap l i h first last q g ∙ ap (λ (cs : List Cluster). cluster first last ∷ cs) (sym (o.quiet ∙ quiet-passed t gap l i h q));
          after = o.after;
          inside = omega (arith, o.below);
        }

    pub open-end : length l ≤ i → LastLoud t gap l first last
    open-end h =
        record {
          closed = o.still ∙ closed_end t gap l first last i h ∙ ap (λ (cs : List Cluster). cluster first last ∷ cs) (sym (o.quiet ∙ left_end t gap l i h));
          after = o.after;
          inside = omega (arith, o.below, o.inside);
        }
