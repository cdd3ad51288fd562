-- The search for the first burst at or after an index, cluster by cluster. Assumes nothing.
use Rattle.std.proofs.Common.{◌≡◌, ℕ, zero, suc, ◌+◌, ◌-◌, ◌<◌, ◌≤◌, Bool, true, false, cond, List, ◌∷◌, length, get_or, take, drop, length-drop, sym, refl, ap, ◌∙◌, add-one, arith, le-leb, Option, None, Some}
use lib.Ieee.{Float, nan}
use lib.Seq.{get_or-drop, take-length}
use Rattle.std.specs.List.{position, position_or_len}
use Rattle.std.proofs.lemmas.Grind.{common_steps}
use Rattle.std.proofs.lemmas.List.Quantifiers.{position-Some}
use Rattle.std.proofs.lemmas.List.Sums.{fails_before_first}
use borrow.Author.Tests.{lt-leb}
use Rattle.bursts.specs.Bursts.{Cluster, cluster, none, loud, long_enough, threshold, gap_samples, burst_of, bursts_in, bursts_of, first_from}
use Rattle.bursts.specs.Found.{bursts_from, FirstLoud, LastLoud}
use Rattle.bursts.specs.declared.BurstOptions.{BurstOptions}
use Rattle.bursts.specs.declared.Burst.{Burst}
use Rattle.bursts.proofs.ClusterLaws.{left, left_end, quiet-passed, opened}

module _ (t : Float) (l : List Float) (from : ℕ) where
  -- quiet samples from an index on open no cluster
  all_quiet : (gap k : ℕ) → from + k ≤ length l → ((j : ℕ) → j < k → loud t (get_or (drop from l) j nan) ≡ false) → left t gap l none from ≡ left t gap l none (from + k)
  all_quiet gap zero h q = let e : from ≡ from + 0 = omega arith in ap (λ (n : ℕ). left t gap l none n) e
  all_quiet gap (suc k) h q =
      let e : from + k + 1 ≡ from + suc k = omega arith in
      all_quiet gap k (omega arith) (λ j lt. q j (omega arith))
      ∙ quiet-passed t gap l (from + k) (omega arith) (ap (loud t) (sym (get_or-drop from l k nan)) ∙ q k (omega arith))
      ∙ ap (λ (n : ℕ). left t gap l none n) e

  ahead : take (length l - from) (drop from l) ≡ drop from l
  ahead = ap (λ (n : ℕ). take n (drop from l)) (sym (length-drop from l)) ∙ take-length (drop from l)

  module _ (h : from ≤ length l) where
    pub first-found : (k : ℕ) → position (loud t) (take (length l - from) (drop from l)) ≡ Some k → FirstLoud t l from (from + k) × (from + k < length l)
    first-found k e =
        let f = position-Some (loud t) (drop from l) k nan (ap (position (loud t)) (sym ahead) ∙ e) in
        let m : from + k < length l = omega (arith, length-drop from l, f.0) in
        (record { passed = λ gap. all_quiet gap k (omega arith) f.2; after = omega arith; inside = omega arith; there = λ g. ap (loud t) (sym (get_or-drop from l k nan)) ∙ f.1 }, m)

    pub first_none : position (loud t) (take (length l - from) (drop from l)) ≡ None → FirstLoud t l from (length l)
    first_none e =
        let z : position (loud t) (drop from l) ≡ None = ap (position (loud t)) (sym ahead) ∙ e in
        let n = length l - from in
        let b : length (drop from l) ≤ position_or_len (loud t) (drop from l) = grind (arith, common_steps) in
        let m : from + n ≡ length l = omega arith in
        record {
          passed = λ gap. all_quiet gap n (omega arith) (λ j lt. fails_before_first (loud t) (drop from l) j nan (omega (arith, b, length-drop from l))) ∙ ap (λ (k : ℕ). left t gap l none k) m;
          after = h;
          inside = omega arith;
          there = λ g. absurd (omega arith);
        }

module _ (dbm : List Float) (rate : ℕ) (o : BurstOptions) (floor : Float) where
  -- from index 0 on it is the whole list
  pub from_start : bursts_from dbm rate o floor 0 ≡ bursts_of dbm rate o floor
  unfolding bursts_from bursts_of
  from_start = refl

module _ (dbm : List Float) (rate : ℕ) (o : BurstOptions) (floor : Float) (from : ℕ) where
  -- the answer, from the clusters that are left at an index
  abbrev pub rest : Float → ℕ → ℕ → Option Burst
  rest t gap i = first_from from (bursts_in dbm rate o floor (left t gap dbm none i))

  pub search_start : (t : Float) (gap at : ℕ) → t ≡ threshold o floor → gap ≡ gap_samples o rate → rest t gap at ≡ first_from from (bursts_from dbm rate o floor at)
  unfolding bursts_from
  search_start t gap at e g = rw (e, g)

  module _ (t : Float) (gap i : ℕ) (w : Option Burst) (p : rest t gap i ≡ w) where
    pub search-end : length dbm ≤ i → None ≡ w
    unfolding bursts_in first_from
    search-end h = rw (left_end t gap dbm i h) at p

    module _ (first : ℕ) (f : FirstLoud t dbm i first) where
      pub search_none : first ≡ length dbm → None ≡ w
      unfolding bursts_in first_from
      search_none e = rw (f.passed gap ∙ left_end t gap dbm first (omega arith)) at p

      module _ (h : first < length dbm) (last : ℕ) (l : LastLoud t gap dbm first last) where
        next : left t gap dbm none i ≡ cluster first last ∷ left t gap dbm none (last + 1)
        next = f.passed gap ∙ opened t gap dbm first h (f.there h) ∙ l.closed ∙ rw (add-one last)

        taken : first_from from (bursts_in dbm rate o floor (cluster first last ∷ left t gap dbm none (last + 1))) ≡ w
        taken = sym (ap (λ (cs : List Cluster). first_from from (bursts_in dbm rate o floor cs)) next) ∙ p

        pub search-found : (b : Burst) → from ≤ first → long_enough o rate (cluster first last) ≡ true → b ≡ burst_of dbm floor (cluster first last) → Some b ≡ w
        unfolding bursts_in first_from burst_of
        search-found b a g e = rw e (rw (g, le-leb from first a) at taken)

        pub search_short : long_enough o rate (cluster first last) ≡ false → rest t gap (last + 1) ≡ w
        unfolding bursts_in
        search_short g = rw g at taken

        pub search-early : first < from → rest t gap (last + 1) ≡ w
        unfolding bursts_in first_from burst_of
        search-early a = go (long_enough o rate (cluster first last)) taken
          where
            go : (b : Bool) → first_from from (cond b (burst_of dbm floor (cluster first last) ∷ bursts_in dbm rate o floor (left t gap dbm none (last + 1))) (bursts_in dbm rate o floor (left t gap dbm none (last + 1)))) ≡ w
                → rest t gap (last + 1) ≡ w
            go true q = rw (lt-leb from first a) at q
            go false q = q
