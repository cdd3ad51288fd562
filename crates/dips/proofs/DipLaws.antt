-- Laws of the dips, on plain lists: the loops over the windows, the room that a dip takes, and the loop that writes them. Assumes nothing.
use Rattle.std.proofs.Common.{Option, None, Some, ◌≡◌, ℕ, zero, suc, ◌+◌, ◌-◌, ◌*◌, ◌/◌, ◌<◌, ◌≤◌, min, Bool, true, false, cond, not, ◌&&◌, ◌||◌, ltb, ◌⊎◌, List, [], ◌∷◌, ◌++◌, map, length, get_or, take, drop, set, sym, refl, ap, ◌∙◌, inl, inr, ⊎_elim, true≢false, append_assoc, append-nil, suc-mul, add-mul, lt_of_mul-lt-mul_right, add-one, arith, length-drop, length-set, take-append-drop, length-take, length-take-le, get_or-drop, get_or-take, drop-drop, take-suc-set, drop-set-lt, ltb-false, ltb-true, lt-ltb}
use mathlib.Core.List.{map-map}
use lib.Seq.{slice, slice-cons, slice_empty, length-slice, take-set-lt, take-set-le, drop-set-add}
use lib.Ieee.{Float, nan, lt, le, eq}
use Rattle.limits.specs.Limits.{lowest_rate, highest_rate, buffer_s}
use Rattle.limits.specs.Samples.{all_dbm}
use Rattle.rates.specs.Rates.{win_of, half_of}
use Rattle.rates.proofs.Rates.{half_is}
use Rattle.dips.specs.Numbers.{most_dips, depths_at}
use Rattle.dips.specs.Dips.{sides, against, lowest_of, neighbours, is_dip, centre, depth_of, indices_from, dip_indices, Dip, dip_at, found_in, positions_of, depths_of, dips_of, Written, Stored}
use Rattle.dips.specs.Tested.{tested}
use Rattle.limits.proofs.Samples.{and_left, numbers}
use Rattle.dips.proofs.Compares.{compared}

pub lt_or_ge : (a b : ℕ) → (a < b) ⊎ (b ≤ a)
lt_or_ge a b = go (ltb a b) (ltb-true a b) (ltb-false a b)
  where
    go : (t : Bool) → (t ≡ true → a < b) → (t ≡ false → b ≤ a) → (a < b) ⊎ (b ≤ a)
    go true f g = inl (f refl)
    go false f g = inr (g refl)

-- ---- one turn of the window loop

module _ (v : Float) (i : ℕ) (l : List Float) (k to : ℕ) (w : Bool) (p : lowest_of v i k (slice k to l) ≡ w) where
  pub lowest-stop : k < to → to ≤ length l → against v i k (get_or l k nan) ≡ true → false ≡ w
  unfolding lowest_of
  lowest-stop h g e = rw (slice-cons k to l nan h g, e) at p

  pub lowest-turn : k < to → to ≤ length l → against v i k (get_or l k nan) ≡ false → lowest_of v i (k + 1) (slice (k + 1) to l) ≡ w
  unfolding lowest_of
  lowest-turn h g e = rw (add-one k) (rw (slice-cons k to l nan h g, e) at p)

  pub lowest_end : k ≡ to → true ≡ w
  unfolding lowest_of
  lowest_end e = rw (e, slice_empty to l) at p

-- ---- a dip leaves no room for another in its half window

cond-false : (a b : Bool) → cond a false b ≡ true → (a ≡ false) × (b ≡ true)
cond-false true b e = absurd (true≢false (sym e))
cond-false false b e = (refl, e)

pub or_left : (a b : Bool) → a || b ≡ false → a ≡ false
or_left true b e = e
or_left false b e = refl

pub or_right : (a b : Bool) → a || b ≡ false → b ≡ false
or_right true b e = absurd (true≢false e)
or_right false b e = e

and_false_left : (a b : Bool) → b ≡ true → a && b ≡ false → a ≡ false
and_false_left true b t e = absurd (true≢false (sym t ∙ e))
and_false_left false b t e = refl

lowest_at : (v : Float) (i k : ℕ) (l : List Float) (j : ℕ) → j < length l → lowest_of v i k l ≡ true → against v i (k + j) (get_or l j nan) ≡ false
unfolding lowest_of
lowest_at v i k [] j h e = absurd (omega arith)
lowest_at v i k (x ∷ l) zero h e =
    let n : k + 0 ≡ k = omega arith in
    rw n (cond-false (against v i k x) (lowest_of v i (suc k) l) e).0
lowest_at v i k (x ∷ l) (suc j) h e =
    let n : k + suc j ≡ suc k + j = omega arith in
    rw n (lowest_at v i (suc k) l j (omega arith) (cond-false (against v i k x) (lowest_of v i (suc k) l) e).1)

-- no sample within the half window speaks against a minimum
near_at : (half : ℕ) (seg : List Float) (i k : ℕ) → k < length seg → i ≤ k + half → k ≤ i + half → neighbours half seg i ≡ true
    → against (get_or seg i nan) i k (get_or seg k nan) ≡ false
unfolding neighbours
near_at half seg i k h a b e =
    let from = i - half in
    let to = min (i + half + 1) (length seg) in
    let m : from + (k - from) ≡ k = omega arith in
    let len : length (slice from to seg) ≡ to - from = length-slice from to seg (omega arith) in
    let q : against (get_or seg i nan) i (from + (k - from)) (get_or (slice from to seg) (k - from) nan) ≡ false =
    lowest_at (get_or seg i nan) i from (slice from to seg) (k - from) (omega (arith, len)) e in
    let g : get_or (slice from to seg) (k - from) nan ≡ get_or seg k nan =
    get_or-drop from (take to seg) (k - from) nan ∙ rw m (get_or-take to seg k nan (omega arith)) in
    rw (m, g) at q

-- the samples beside a minimum don't speak against it
module _ (half : ℕ) (seg : List Float) (i : ℕ) (h : 0 < half) (a : 0 < i) (b : i + 1 < length seg) where
  beside : neighbours half seg i ≡ true → le (get_or seg (i - 1) nan) (get_or seg i nan) || lt (get_or seg (i + 1) nan) (get_or seg i nan) ≡ false
  unfolding le
  beside e =
      let v = get_or seg i nan in
      let x = get_or seg (i - 1) nan in
      let y = get_or seg (i + 1) nan in
      let l : against v i (i - 1) x ≡ false = near_at half seg i (i - 1) (omega arith) (omega arith) (omega arith) e in
      let r : against v i (i + 1) y ≡ false = near_at half seg i (i + 1) (omega arith) (omega arith) (omega arith) e in
      both (or_left (lt x v) (eq x v && ltb (i - 1) i) l) (and_false_left (eq x v) (ltb (i - 1) i) (lt-ltb (i - 1) i (omega arith)) (or_right (lt x v) (eq x v && ltb (i - 1) i) l))
      (or_left (lt y v) (eq y v && ltb (i + 1) i) r)
    where
      both : {p q r : Bool} → p ≡ false → q ≡ false → r ≡ false → (p || q) || r ≡ false
      both e f g = rw (e, f, g)

  pub no_minimum : not (le (get_or seg (i - 1) nan) (get_or seg i nan) || lt (get_or seg (i + 1) nan) (get_or seg i nan)) ≡ false → neighbours half seg i ≡ false
  no_minimum e = go (neighbours half seg i) beside
    where
      go : (t : Bool) → (t ≡ true → le (get_or seg (i - 1) nan) (get_or seg i nan) || lt (get_or seg (i + 1) nan) (get_or seg i nan) ≡ false) → t ≡ false
      go true f = absurd (true≢false (ap not (sym (f refl)) ∙ e))
      go false f = refl

-- the two tests, one after the other
module _ (level : Float) (win half : ℕ) (seg : List Float) (i : ℕ) where
  pub by_sides : (r : Option Float) (d : Float) → neighbours half seg i ≡ true → r ≡ tested (sides level win seg i) d → r ≡ tested (is_dip level win half seg i) d
  unfolding is_dip
  by_sides r d n e = rw n e

  pub by_neighbours : (d : Float) → neighbours half seg i ≡ false → None ≡ tested (is_dip level win half seg i) d
  unfolding is_dip tested
  by_neighbours d n = rw n

pub as_other : (t s : Bool) (d : Float) → t ≡ true → not t ≡ s → None ≡ tested s d
unfolding tested
as_other t s d e f = rw (← f, e)

pub as_deep : (t s : Bool) (d x : Float) → t ≡ false → not t ≡ s → x ≡ d → Some x ≡ tested s d
unfolding tested
as_deep t s d x e f q = rw (← f, e, q)

-- what an answer says of the test
pub tested-deep : (t : Bool) (d x : Float) → Some x ≡ tested t d → (t ≡ true) × (x ≡ d)
unfolding tested
tested-deep true d x e = (refl, cc)
tested-deep false d x e = absurd (let z : ◌≡◌ {A = ℕ} 0 1 = cc in omega arith)

pub tested_other : (t : Bool) (d : Float) → None ≡ tested t d → t ≡ false
unfolding tested
tested_other true d e = absurd (let z : ◌≡◌ {A = ℕ} 0 1 = cc in omega arith)
tested_other false d e = refl

-- ---- what is left of the list at an index, and the loop that writes it, n so far

module _ (level : Float) (win half : ℕ) (seg : List Float) where
  abbrev pub dips_left : ℕ → List ℕ
  dips_left i = indices_from (is_dip level win half seg) (length seg - 1 - i) i

  pub left_none : (i : ℕ) → length seg ≤ i + 1 → dips_left i ≡ []
  unfolding indices_from
  left_none i h = let z : length seg - 1 - i ≡ 0 = omega arith in rw z

  pub left_dip : (i : ℕ) → i + 1 < length seg → is_dip level win half seg i ≡ true → dips_left i ≡ i ∷ dips_left (i + 1)
  unfolding indices_from
  left_dip i h e =
      let z : length seg - 1 - i ≡ suc (length seg - 1 - suc i) = omega arith in
      rw (z, e, add-one i)

  pub left_other : (i : ℕ) → i + 1 < length seg → is_dip level win half seg i ≡ false → dips_left i ≡ dips_left (i + 1)
  unfolding indices_from
  left_other i h e =
      let z : length seg - 1 - i ≡ suc (length seg - 1 - suc i) = omega arith in
      rw (z, e, add-one i)

  -- of what f says of each dip
  pub record DipsAt (f : ℕ → Float) (whole old : List Float) (n i : ℕ) (now : List Float) : Type 0 where
    pub room : n * (half + 1) + 1 ≤ i
    pub size : length now ≡ length old
    pub within : n ≤ length now
    pub past : drop n now ≡ drop n old
    pub here : take n now ++ map f (dips_left i) ≡ whole

  module _ (v : all_dbm seg ≡ true) where
    apart : (i j : ℕ) → i < j → j < length seg → j ≤ i + half → neighbours half seg i ≡ true → neighbours half seg j ≡ true → ⊥
    apart i j a b h p q =
        let x = get_or seg i nan in
        let y = get_or seg j nan in
        let one : against x i j y ≡ false = near_at half seg i j b (omega arith) h p in
        let two : against y j i x ≡ false = near_at half seg j i (omega arith) h (omega arith) q in
        compared x y (numbers seg v i (omega arith)) (numbers seg v j b)
        (or_left (lt x y) (eq x y && ltb i j) two)
        (or_left (lt y x) (eq y x && ltb j i) one)
        (and_false_left (eq x y) (ltb i j) (lt-ltb i j a) (or_right (lt x y) (eq x y && ltb i j) two))

    lowest : (i : ℕ) → is_dip level win half seg i ≡ true → neighbours half seg i ≡ true
    unfolding is_dip
    lowest i e = and_left (neighbours half seg i) (sides level win seg i) e

    no-dip : (i j : ℕ) → i < j → j < length seg → j ≤ i + half → is_dip level win half seg i ≡ true → is_dip level win half seg j ≡ false
    no-dip i j a b h p = go (is_dip level win half seg j) (lowest j)
      where
        go : (t : Bool) → (t ≡ true → neighbours half seg j ≡ true) → t ≡ false
        go true f = absurd (apart i j a b h (lowest i p) (f refl))
        go false f = refl

    passed : (i j : ℕ) → i < j → j ≤ i + half → is_dip level win half seg i ≡ true → dips_left j ≡ dips_left (j + 1)
    passed i j a h e =
        ⊎_elim
        (λ l. left_other j l (no-dip i j a (omega arith) h e))
        (λ g. left_none j g ∙ sym (left_none (j + 1) (omega arith)))
        (lt_or_ge (j + 1) (length seg))

    -- after a dip at i the next k indices have none
    pub skipped : (i k : ℕ) → k ≤ half → is_dip level win half seg i ≡ true → dips_left (i + 1) ≡ dips_left (i + (k + 1))
    skipped i zero h e = refl
    skipped i (suc k) h e =
        let n : i + (suc k + 1) ≡ i + (k + 1) + 1 = omega arith in
        skipped i k (omega arith) e ∙ rw n (passed i (i + (k + 1)) (omega arith) (omega arith) e)

    -- each dip takes the room of its half window
    abbrev Counted : ℕ → Type 0
    Counted i = length (dips_left i) * (half + 1) + i + 1 ≤ length seg + half

    counted-past : (i : ℕ) → length seg ≤ i + 1 → i + 1 ≤ length seg + half → Counted i
    counted-past i g h = rw (left_none i g) (omega arith)

    counted-here : (i : ℕ) → ((j : ℕ) → i < j → j + 1 ≤ length seg + half → Counted j) → i + 1 < length seg → (t : Bool) → is_dip level win half seg i ≡ t → Counted i
    counted-here i f l true e =
        let n = f (i + (half + 1)) (omega arith) (omega arith) in
        let m = suc-mul (length (dips_left (i + (half + 1)))) (half + 1) in
        let q : dips_left i ≡ i ∷ dips_left (i + (half + 1)) = left_dip i l e ∙ ap (λ (d : List ℕ). i ∷ d) (skipped i half (omega arith) e) in
        rw q (omega (arith, n, m))
    counted-here i f l false e =
        let n = f (i + 1) (omega arith) (omega arith) in
        rw (left_other i l e) (omega (arith, n))

    counted : (n i : ℕ) → length seg ≤ n + i → i + 1 ≤ length seg + half → Counted i
    counted zero i b h = counted-past i (omega arith) h
    counted (suc n) i b h =
        ⊎_elim
        (λ l. counted-here i (λ j a k. counted n j (omega arith) k) l (is_dip level win half seg i) refl)
        (λ g. counted-past i g h)
        (lt_or_ge (i + 1) (length seg))

    module _ (f : ℕ → Float) (whole old : List Float) where
      pub dips-start : whole ≡ map f (dips_left 1) → DipsAt f whole old 0 1 old
      dips-start e = record { room = omega arith; size = refl; within = omega arith; past = refl; here = sym e }

      module _ (n i : ℕ) (now : List Float) (d : DipsAt f whole old n i now) where
        pub dips-few : (r : ℕ) → buffer_s * r ≤ most_dips * (half + 1) + 2 → length seg ≤ buffer_s * r → i + 1 < length seg → n < most_dips
        dips-few r a b h = lt_of_mul-lt-mul_right (half + 1) (omega (arith, d.room))

        pub dips-dip : (x : Float) → n < length now → i + 1 < length seg → is_dip level win half seg i ≡ true → x ≡ f i
            → DipsAt f whole old (n + 1) (i + (half + 1)) (set now n x)
        dips-dip x m h e q =
            record {
              room = rw (add-mul n 1 (half + 1)) (omega (arith, d.room));
              size = length-set now n x ∙ d.size;
              within = rw (length-set now n x) (omega arith);
              past = drop-set-lt (n + 1) now n x (omega arith) ∙ sym (drop-drop 1 n now) ∙ ap (drop 1) d.past ∙ drop-drop 1 n old;
              here =
                  rw (add-one n, take-suc-set now n x m, append_assoc, q)
                  (ap (λ (l : List ℕ). take n now ++ map f l) (ap (λ (l : List ℕ). i ∷ l) (sym (skipped i half (omega arith) e)) ∙ sym (left_dip i h e)) ∙ d.here);
            }

        pub dips-other : i + 1 < length seg → is_dip level win half seg i ≡ false → DipsAt f whole old n (i + 1) now
        dips-other h e =
            record {
              room = omega (arith, d.room);
              size = d.size;
              within = d.within;
              past = d.past;
              here = ap (λ (l : List ℕ). take n now ++ map f l) (sym (left_other i h e)) ∙ d.here;
            }

        pub dips-end : length seg ≤ i + 1 → Written whole old n now
        dips-end h =
            let t : take n now ≡ whole = sym (append-nil (take n now)) ∙ ap (λ (l : List ℕ). take n now ++ map f l) (sym (left_none i h)) ∙ d.here in
            record {
              count = sym (length-take-le n now d.within) ∙ ap length t;
              holds = sym (take-append-drop n now) ∙ ap (λ (l : List Float). l ++ drop n now) t ∙ ap (λ (l : List Float). whole ++ l) d.past;
            }

  -- both halves of the slice: positions in front, depths from place 3,000 on
  pub record StoredAt (found : List Dip) (old : List Float) (n i : ℕ) (now : List Float) : Type 0 where
    pub size : length now ≡ length old
    pub front : DipsAt (centre seg) (positions_of found) (take depths_at old) n i (take depths_at now)
    pub rest : DipsAt (depth_of win seg) (depths_of found) (drop depths_at old) n i (drop depths_at now)

  module _ (v : all_dbm seg ≡ true) (found : List Dip) (old : List Float) where
    pub stored_start : found ≡ map (dip_at win seg) (dips_left 1) → StoredAt found old 0 1 old
    unfolding dip_at
    stored_start e =
        record {
          size = refl;
          front = dips-start v (centre seg) (positions_of found) (take depths_at old) (ap positions_of e ∙ map-map (λ (d : Dip). d.at) (dip_at win seg) (dips_left 1));
          rest = dips-start v (depth_of win seg) (depths_of found) (drop depths_at old) (ap depths_of e ∙ map-map (λ (d : Dip). d.depth) (dip_at win seg) (dips_left 1));
        }

    module _ (n i : ℕ) (now : List Float) (d : StoredAt found old n i now) where
      pub stored-few : (r : ℕ) → buffer_s * r ≤ most_dips * (half + 1) + 2 → length seg ≤ buffer_s * r → i + 1 < length seg → n < most_dips
      stored-few r a b h = dips-few v (centre seg) (positions_of found) (take depths_at old) n i (take depths_at now) d.front r a b h

      pub stored-dip : (x y : Float) → n < depths_at → depths_at + n < length now → i + 1 < length seg → is_dip level win half seg i ≡ true → x ≡ centre seg i → y ≡ depth_of win seg i
          → StoredAt found old (n + 1) (i + (half + 1)) (set (set now n x) (depths_at + n) y)
      stored-dip x y m k h e p q =
          let a : take depths_at (set (set now n x) (depths_at + n) y) ≡ set (take depths_at now) n x =
          take-set-le depths_at (set now n x) (depths_at + n) y (omega arith) ∙ take-set-lt depths_at now n x m in
          let b : drop depths_at (set (set now n x) (depths_at + n) y) ≡ set (drop depths_at now) n y =
          drop-set-add depths_at (set now n x) n y ∙ ap (λ (l : List Float). set l n y) (drop-set-lt depths_at now n x m) in
          record {
            size = length-set (set now n x) (depths_at + n) y ∙ length-set now n x ∙ d.size;
            front = rw a (dips-dip v (centre seg) (positions_of found) (take depths_at old) n i (take depths_at now) d.front x (omega (arith, length-take depths_at now)) h e p);
            rest = rw b (dips-dip v (depth_of win seg) (depths_of found) (drop depths_at old) n i (drop depths_at now) d.rest y (omega (arith, length-drop depths_at now)) h e q);
          }

      pub stored_other : i + 1 < length seg → is_dip level win half seg i ≡ false → StoredAt found old n (i + 1) now
      stored_other h e =
          record {
            size = d.size;
            front = dips-other v (centre seg) (positions_of found) (take depths_at old) n i (take depths_at now) d.front h e;
            rest = dips-other v (depth_of win seg) (depths_of found) (drop depths_at old) n i (drop depths_at now) d.rest h e;
          }

      pub stored_end : length seg ≤ i + 1 → Stored found old n now
      stored_end h =
          record {
            positions = dips-end v (centre seg) (positions_of found) (take depths_at old) n i (take depths_at now) d.front h;
            depths = dips-end v (depth_of win seg) (depths_of found) (drop depths_at old) n i (drop depths_at now) d.rest h;
          }

-- the positions of the dips are their centres
pub dips_are : (seg : List Float) (rate : ℕ) (level : Float) → dips_of seg rate level ≡ map (centre seg) (dip_indices seg rate level)
unfolding dips_of found_in dip_at
dips_are seg rate level = map-map (λ (d : Dip). d.at) (dip_at (win_of rate) seg) (dip_indices seg rate level)

-- no 12 s of samples have more than 2,906 dips
module _ (rate : ℕ) (lo : lowest_rate ≤ rate) (hi : rate ≤ highest_rate) where
  -- from a rate of 3,875 on the half window is one longer
  pub half_room : (h : ℕ) → h ≡ (2 * rate + 250) / 500 → buffer_s * rate ≤ most_dips * (h + 1) + 2
  half_room h e = ⊎_elim (λ l. omega arith) (λ g. omega arith) (lt_or_ge rate 3875)

  module _ (seg : List Float) (level : Float) (fits : length seg ≤ buffer_s * rate) (v : all_dbm seg ≡ true) where
    pub dips-most : length (dip_indices seg rate level) ≤ most_dips
    unfolding dip_indices
    dips-most =
        let win = win_of rate in
        let half = half_of rate in
        let r = half_room half (half_is rate lo hi) in
        ⊎_elim
        (λ l.
        let c = counted level win half seg v (length seg) 1 (omega arith) (omega arith) in
        let m = add-mul most_dips 1 (half + 1) in
        let k : length (dips_left level win half seg 1) < most_dips + 1 = lt_of_mul-lt-mul_right (half + 1) (omega (arith, c, m, r)) in
        omega (arith, k))
        (λ g. rw (left_none level win half seg 1 g) (omega arith))
        (lt_or_ge 2 (length seg))
