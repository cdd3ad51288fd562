-- The bursts of a list lie in a row: each inside the samples and long enough, the next one more than the gap after it, and from a burst's end on the
-- loop finds the rest of the list. Assumes nothing.
use Rattle.std.proofs.Common.{◌≡◌, ℕ, suc, ◌+◌, ◌-◌, ◌<◌, ◌≤◌, Bool, true, false, cond, T, ltb, List, [], ◌∷◌, length, drop, sym, refl, ap, ◌∙◌, add-one, arith, length-drop, drop-drop, ltb-true, le-leb, Option, None, Some}
use lib.Ieee.{Float}
use Rattle.bursts.specs.Bursts.{Cluster, cluster, Open, none, since, loud, clusters, long_enough, threshold, gap_samples, burst_of, bursts_in, bursts_of, first_from}
use Rattle.bursts.specs.Found.{bursts_from}
use Rattle.bursts.specs.declared.BurstOptions.{BurstOptions}
use Rattle.bursts.specs.declared.Burst.{Burst}
use Rattle.bursts.proofs.ClusterLaws.{left}
use Rattle.bursts.proofs.SearchLaws.{from_start}

-- ---- clusters

module _ (t : Float) (gap : ℕ) (l : List Float) where
  -- clusters in a row from index i on
  pub data Row : ℕ → List Cluster → Type 0 where
    no_more : {i : ℕ} → Row i []
    then : {i f k : ℕ} {cs : List Cluster} → i ≤ f → f ≤ k → k < length l → cs ≡ left t gap l none (suc k) → Row (k + gap + 2) cs → Row i (cluster f k ∷ cs)

  earlier : {i j : ℕ} {cs : List Cluster} → j ≤ i → Row i cs → Row j cs
  earlier h no_more = no_more
  earlier {i} {j} h (then {f = f} a b c e r) = then {i = j} {f = f} (omega arith) b c e r

  -- where the first cluster that is still to come may start, and what is known of one that is open
  from : Open → ℕ → ℕ
  from none i = i
  from (since s k) i = s

  Sound : Open → ℕ → Type 0
  Sound none i = T true
  Sound (since s k) i = (s ≤ k) × (k < i) × (left t gap l none (suc k) ≡ left t gap l none i)

  -- the list from i on, by its first sample
  tail_of : (i : ℕ) (x : Float) (xs : List Float) → x ∷ xs ≡ drop i l → xs ≡ drop (suc i) l
  tail_of i x xs e = ap (drop 1) e ∙ drop-drop 1 i l ∙ rw (add-one i)

  passed : (i : ℕ) (x : Float) (xs : List Float) → x ∷ xs ≡ drop i l → loud t x ≡ false → left t gap l none i ≡ left t gap l none (suc i)
  unfolding clusters
  passed i x xs e q = rw (← e, q, ← tail_of i x xs e)

  -- the clusters that come of the samples xs from index i on
  Rows : List Float → Type 0
  Rows xs = (o : Open) (i : ℕ) → xs ≡ drop i l → i + length xs ≡ length l → Sound o i → Row (from o i) (clusters t gap o i xs)

  row_end : Rows []
  unfolding clusters from Sound Rows
  row_end none i e n s = no_more
  row_end (since f k) i e n s =
      let z : left t gap l none i ≡ [] = rw (← e) in
      then {i = f} {f = f} {k = k} (omega arith) s.0 (omega (arith, s.1)) (sym (s.2 ∙ z)) no_more

  row_more : (x : Float) (xs : List Float) → Rows xs → Rows (x ∷ xs)
  unfolding clusters from Sound Rows
  row_more x xs more none i e n s = go (loud t x)
    where
      go : (b : Bool) → Row i (cond b (clusters t gap (since i i) (suc i) xs) (clusters t gap none (suc i) xs))
      go true = more (since i i) (suc i) (tail_of i x xs e) (omega arith) (omega arith, omega arith, refl)
      go false = earlier (omega arith) (more none (suc i) (tail_of i x xs e) (omega arith) tt)
  row_more x xs more (since f k) i e n s = go (loud t x) refl (ltb gap (i - k)) refl
    where
      go : (b : Bool) → loud t x ≡ b → (g : Bool) → ltb gap (i - k) ≡ g
          → Row f (cond b (clusters t gap (since f i) (suc i) xs) (cond g (cluster f k ∷ clusters t gap none (suc i) xs) (clusters t gap (since f k) (suc i) xs)))
      go true q g p = more (since f i) (suc i) (tail_of i x xs e) (omega arith) (omega (arith, s.0, s.1), omega arith, refl)
      go false q true p =
          let z : left t gap l none (suc i) ≡ clusters t gap none (suc i) xs = rw (← tail_of i x xs e) in
          then {i = f} {f = f} {k = k} (omega arith) s.0 (omega (arith, s.1)) (sym (s.2 ∙ passed i x xs e q ∙ z))
          (earlier (omega (arith, ltb-true gap (i - k) p)) (more none (suc i) (tail_of i x xs e) (omega arith) tt))
      go false q false p = more (since f k) (suc i) (tail_of i x xs e) (omega arith) (s.0, omega (arith, s.1), s.2 ∙ passed i x xs e q)

  row_of : (xs : List Float) → Rows xs
  row_of [] = row_end
  row_of (x ∷ xs) = row_more x xs (row_of xs)

  pub clusters_in_row : (i : ℕ) → i ≤ length l → Row i (left t gap l none i)
  unfolding Rows Sound from
  clusters_in_row i h = row_of (drop i l) none i refl (simp length-drop (omega arith)) tt

-- ---- bursts

module _ (dbm : List Float) (rate : ℕ) (o : BurstOptions) (floor : Float) where
  -- bursts in a row from index i on
  pub data InRow : ℕ → List Burst → Type 0 where
    done : {i : ℕ} → InRow i []
    next : {i : ℕ} {b : Burst} {bs : List Burst} → i ≤ b.start → b.start < b.end → b.end ≤ length dbm
        → long_enough o rate (cluster b.start (b.end - 1)) ≡ true → bs ≡ bursts_from dbm rate o floor b.end
        → InRow (b.end + gap_samples o rate + 1) bs → InRow i (b ∷ bs)

  before : {i j : ℕ} {bs : List Burst} → j ≤ i → InRow i bs → InRow j bs
  before h done = done
  before {i} {j} h (next {b = b} p q r l e w) = next {i = j} {b = b} (omega arith) q r l e w

  long_of : {i : ℕ} {cs : List Cluster} → Row (threshold o floor) (gap_samples o rate) dbm i cs → InRow i (bursts_in dbm rate o floor cs)
  unfolding bursts_in burst_of bursts_from
  long_of no_more = done
  long_of (then {i = i} {f = f} {k = k} {cs = cs} a b c e r) = go (long_enough o rate (cluster f k)) refl (long_of r)
    where
      go : (g : Bool) → long_enough o rate (cluster f k) ≡ g → InRow (k + gap_samples o rate + 2) (bursts_in dbm rate o floor cs)
          → InRow i (cond g (burst_of dbm floor (cluster f k) ∷ bursts_in dbm rate o floor cs) (bursts_in dbm rate o floor cs))
      go true p w =
          let z : k + 1 - 1 ≡ k = omega arith in
          next {i = i} {b = burst_of dbm floor (cluster f k)} a (omega arith) (omega arith) (rw z p) (ap (bursts_in dbm rate o floor) e ∙ rw (add-one k)) (before (omega arith) w)
      go false p w = before (omega arith) w

  pub bursts_from_in_row : (i : ℕ) → i ≤ length dbm → InRow i (bursts_from dbm rate o floor i)
  unfolding bursts_from
  bursts_from_in_row i h = long_of (clusters_in_row (threshold o floor) (gap_samples o rate) dbm i h)

  pub bursts_in_row : InRow 0 (bursts_of dbm rate o floor)
  bursts_in_row = rw from_start at (bursts_from_in_row 0 (omega arith))

  -- what the search answers, from an index on: the first burst and the rest of the list from its end on, or that there is none
  pub record Next (i : ℕ) (b : Burst) : Type 0 where
    pub list : bursts_from dbm rate o floor i ≡ b ∷ bursts_from dbm rate o floor b.end
    pub after : i ≤ b.start
    pub order : b.start < b.end
    pub inside : b.end ≤ length dbm
    pub long : long_enough o rate (cluster b.start (b.end - 1)) ≡ true

  pub found_next : (i : ℕ) (b : Burst) → i ≤ length dbm → Some b ≡ first_from 0 (bursts_from dbm rate o floor i) → Next i b
  unfolding first_from
  found_next i b h e = go (bursts_from dbm rate o floor i) refl (bursts_from_in_row i h) e
    where
      go : (bs : List Burst) → bursts_from dbm rate o floor i ≡ bs → InRow i bs → Some b ≡ first_from 0 bs → Next i b
      go [] p w q = let z : ◌≡◌ {A = ℕ} 0 1 = cc in absurd (omega arith)
      go (c ∷ cs) p (next u v r l t w) q =
          let f : Some b ≡ Some c = rw (le-leb 0 c.start (omega arith)) at q in
          let z : b ≡ c = cc in
          rw z (record { list = p ∙ ap (λ (bs : List Burst). c ∷ bs) t; after = u; order = v; inside = r; long = l })

  pub found_none : (i : ℕ) → None ≡ first_from 0 (bursts_from dbm rate o floor i) → bursts_from dbm rate o floor i ≡ []
  unfolding first_from
  found_none i e = go (bursts_from dbm rate o floor i) e
    where
      go : (bs : List Burst) → None ≡ first_from 0 bs → bs ≡ []
      go [] q = refl
      go (c ∷ cs) q =
          let f : ◌≡◌ {A = Option Burst} None (Some c) = rw (le-leb 0 c.start (omega arith)) at q in
          let z : ◌≡◌ {A = ℕ} 0 1 = cc in
          absurd (omega arith)
