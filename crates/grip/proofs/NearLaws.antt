-- The nearest message of a list that is read record by record: what the best so far stands for, and that no other number is right. Assumes nothing.
use mathlib.Core.Path.{◌≡◌, refl, sym, ap, ◌∙◌, subst}
use mathlib.Core.Bool.{Bool, true, false, ◌&&◌, ◌||◌}
use mathlib.Core.List.{List, [], ◌∷◌, ◌++◌, append_assoc, append-nil}
use Prim.Native.Nat.{ℕ, ◌+◌, ◌%◌, ◌≤◌, ◌<◌}
use native.Mathlib.Omega.{arith}
use borrow.Author.Tests.{ltb-true, ltb-false, le-ltb}
use lib.Dec.{ltb, eqb}
use lib.ListN.{length, get_or, length-append, get_or-append}
use lib.Seq.{get_or-append_seam}
use lib.Ieee.{Float, lt, eq}
use Rattle.limits.proofs.Samples.{and_left, and_assoc, and_true}
use Rattle.record.specs.Readers.{time_of}
use Rattle.limits.specs.Limits.{record_size}
use Rattle.event_list.specs.Events.{events_of, record_ok, all_ok, list_ok}
use Rattle.event_list.proofs.EventLaws.{event_next, event_end}
use Rattle.std.specs.Prelude.{Option, Some, None}
use Rattle.grip.specs.declared.Match.{Match}
use Rattle.grip.specs.declared.Best.{Best}
use Rattle.grip.specs.Times.{is_finite}
use Rattle.grip.specs.Nearest.{distance, qualifies, better, IsNearest, NoneQualifies, Found, at, none, Tells}
use Rattle.grip.specs.Reading.{takes, looked, looks, tested, read_part, Stands, Adds, found_of}
use Rattle.grip.proofs.OrderLaws.{cases, clash}
use Rattle.grip.proofs.BetterLaws.{better-trans, better-total, better-self}

-- ---- one record more

module _ (es : List (List ℕ)) (r : List ℕ) where
  one_more : length (es ++ (r ∷ [])) ≡ length es + 1
  one_more = length-append es (r ∷ [])

  -- what holds of each and of the last holds of all
  every : (P : ℕ → List ℕ → Type 0) → ((j : ℕ) → j < length es → P j (get_or es j [])) → P (length es) r
      → (j : ℕ) → j < length (es ++ (r ∷ [])) → P j (get_or (es ++ (r ∷ [])) j [])
  every P f z j h =
      cases (ltb j (length es))
      (λ p. let k = ltb-true j (length es) p in subst (P j) (sym (get_or-append es (r ∷ []) [] j k)) (f j k))
      (λ p. subst (λ (k : ℕ). P k (get_or (es ++ (r ∷ [])) k [])) (omega (arith, ltb-false j (length es) p, one_more)) (subst (P (length es)) (sym (get_or-append_seam es r [] [])) z))

module _ (grip within : Float) (W : is_finite within ≡ true) where
  -- none that qualifies goes before `top`, number i
  abbrev Top : List (List ℕ) → List ℕ → ℕ → Type 0
  Top es top i = (j : ℕ) → j < length es → qualifies grip within (get_or es j []) ≡ true → better grip (get_or es j []) j top i ≡ false

  made : (es : List (List ℕ)) (i : ℕ) (top : List ℕ) → i < length es → get_or es i [] ≡ top → qualifies grip within top ≡ true → Top es top i → IsNearest grip within es i
  made es i top h e q t = record { there = h; good = ap (qualifies grip within) e ∙ q; best = λ j k p. ap (λ (s : List ℕ). better grip (get_or es j []) j s i) e ∙ t j k p }

  -- the later of two is better where its distance, then its time is less
  later : (r : List ℕ) (i : ℕ) (s : List ℕ) (j : ℕ) → j ≤ i
      → better grip r i s j ≡ lt (distance grip r) (distance grip s) || (eq (distance grip r) (distance grip s) && lt (time_of r) (time_of s))
  later r i s j h =
      rw (le-ltb i j h) (go (lt (distance grip r) (distance grip s)) (eq (distance grip r) (distance grip s)) (lt (time_of r) (time_of s)) (eq (time_of r) (time_of s)))
    where
      go : (x y z w : Bool) → x || (y && (z || (w && false))) ≡ x || (y && z)
      go true y z w = refl
      go false false z w = refl
      go false true true w = refl
      go false true false true = refl
      go false true false false = refl

  module _ (es : List (List ℕ)) (r : List ℕ) (b : Best) (st : Stands grip within b es) where
    -- the test of the code, where something was found
    over : (m : Match) → b.nearest ≡ Some m → qualifies grip within r ≡ true → takes grip within b r ≡ better grip r (length es) (get_or es m.number []) m.number
    over m f q =
        rw (q, f, st.far m f, st.when m f) (sym (later r (length es) (get_or es m.number []) m.number (less (st.nearest m f).there)))
      where
        less : {i j : ℕ} → i < j → i ≤ j
        less h = omega arith

    -- r is the best from here on
    taken : takes grip within b r ≡ true → Top (es ++ (r ∷ [])) r (length es)
    taken t = every es r (λ (j : ℕ) (s : List ℕ). qualifies grip within s ≡ true → better grip s j r (length es) ≡ false) (before b.nearest refl) (λ p. better-self grip within W r (length es) q)
      where
        q : qualifies grip within r ≡ true
        q = and_left (qualifies grip within r) _ t

        before : (o : Option Match) → b.nearest ≡ o → (j : ℕ) → j < length es → qualifies grip within (get_or es j []) ≡ true → better grip (get_or es j []) j r (length es) ≡ false
        before None f j h p = clash (qualifies grip within (get_or es j [])) p (st.nothing f j h)
        before (Some m) f j h p =
            let top = get_or es m.number [] in
            cases (better grip (get_or es j []) j r (length es))
            (λ u. clash (better grip (get_or es j []) j top m.number)
            (better-trans grip within W (get_or es j []) j p r (length es) q top m.number (st.nearest m f).good u (sym (over m f q) ∙ t))
            ((st.nearest m f).best j h p))
            (λ u. u)

    -- it is not, and what was found stays
    kept : takes grip within b r ≡ false → (m : Match) → b.nearest ≡ Some m → Top (es ++ (r ∷ [])) (get_or es m.number []) m.number
    kept t m f =
        every es r (λ (j : ℕ) (s : List ℕ). qualifies grip within s ≡ true → better grip s j (get_or es m.number []) m.number ≡ false)
        (st.nearest m f).best
        (λ p. sym (over m f p) ∙ t)

    -- it is not, and nothing was found
    still : takes grip within b r ≡ false → b.nearest ≡ None → NoneQualifies grip within (es ++ (r ∷ []))
    still t f = every es r (λ (j : ℕ) (s : List ℕ). qualifies grip within s ≡ false) (st.nothing f) (cases (qualifies grip within r) (λ q. clash (takes grip within b r) (rw (q, f) refl) t) (λ q. q))

    more : b.count + 1 ≡ length (es ++ (r ∷ []))
    more = omega (arith, one_more es r, st.counted)

    -- r itself, by the number that it gets
    last_is : get_or (es ++ (r ∷ [])) b.count [] ≡ r
    last_is = ap (λ (k : ℕ). get_or (es ++ (r ∷ [])) k []) st.counted ∙ get_or-append_seam es r [] []

    stays : (m : Match) → b.nearest ≡ Some m → get_or es m.number [] ≡ get_or (es ++ (r ∷ [])) m.number []
    stays m f = sym (get_or-append es (r ∷ []) [] m.number (st.nearest m f).there)

    pub stands-next : Stands grip within (looked grip within b r) (es ++ (r ∷ []))
    unfolding looked
    stands-next =
        cases (takes grip within b r)
        (λ t. rw t (record {
          counted = more;
          nothing = λ f. absurd cc;
          nearest = λ m f. subst (λ (x : Match). IsNearest grip within (es ++ (r ∷ [])) x.number) (is _ m f) (subst (IsNearest grip within (es ++ (r ∷ []))) (sym st.counted) (made (es ++ (r ∷ [])) (length es) r (omega (arith, one_more es r)) (get_or-append_seam es r [] []) (and_left (qualifies grip within r) _ t) (taken t)));
          far = λ m f. subst (λ (x : Match). x.distance ≡ distance grip (get_or (es ++ (r ∷ [])) x.number [])) (is _ m f) (ap (distance grip) (sym last_is));
          when = λ m f. subst (λ (x : Match). x.time ≡ time_of (get_or (es ++ (r ∷ [])) x.number [])) (is _ m f) (ap time_of (sym last_is));
        }))
        (λ t. rw t (record {
          counted = more;
          nothing = still t;
          nearest = λ m f. made (es ++ (r ∷ [])) m.number (get_or es m.number []) (omega (arith, one_more es r, (st.nearest m f).there)) (sym (stays m f)) (st.nearest m f).good (kept t m f);
          far = λ m f. st.far m f ∙ ap (distance grip) (stays m f);
          when = λ m f. st.when m f ∙ ap time_of (stays m f);
        }))
      where
        is : (n m : Match) → Some n ≡ Some m → n ≡ m
        is n m f = cc

  -- records behind those that were read
  pub stands_all : (rs es : List (List ℕ)) (b : Best) → Stands grip within b es → Stands grip within (looks grip within b rs) (es ++ rs)
  unfolding looks
  stands_all [] es b st = subst (Stands grip within b) (sym (append-nil es)) st
  stands_all (r ∷ rs) es b st =
      subst (Stands grip within (looks grip within (looked grip within b r) rs)) (append_assoc es (r ∷ []) rs) (stands_all rs (es ++ (r ∷ [])) (looked grip within b r) (stands-next es r b st))

  -- what was found is right
  pub tells : (es : List (List ℕ)) (b : Best) → Stands grip within b es → Tells grip within es (found_of b)
  tells es b st = go b.nearest refl
    where
      go : (o : Option Match) → b.nearest ≡ o → Tells grip within es (found_of b)
      go None f = rw f (st.nothing f)
      go (Some m) f = rw f (st.nearest m f)

  -- and nothing else is
  pub only_one : (es : List (List ℕ)) (v w : Found) → Tells grip within es v → Tells grip within es w → v ≡ w
  only_one es (at i) (at j) v w =
      ap at (better-total grip within W (get_or es i []) i v.good (get_or es j []) j w.good (get_or es i []) i v.good (w.best i v.there v.good) (v.best j w.there w.good))
  only_one es (at i) none v w = clash (qualifies grip within (get_or es i [])) v.good (w i v.there)
  only_one es none (at j) v w = clash (qualifies grip within (get_or es j [])) w.good (v j w.there)
  only_one es none none v w = refl

-- nothing is read
pub stands_none : (grip within : Float) (b : Best) → b.count ≡ 0 → b.nearest ≡ None → Stands grip within b []
stands_none grip within b n f =
    record { counted = n; nothing = λ g j h. absurd (omega arith); nearest = λ m g. absurd (none m g); far = λ m g. absurd (none m g); when = λ m g. absurd (none m g) }
  where
    none : (m : Match) → b.nearest ≡ Some m → ⊥
    none m g = let e = sym f ∙ g in cc

-- ---- the loop, and parts

module _ (grip within : Float) where
  -- l is left of a list, record r comes, and k is left then
  pub looks-next : (l r k : List ℕ) → l ≡ r ++ k → length r ≡ record_size → (b : Best) → looks grip within b (events_of l) ≡ looks grip within (looked grip within b r) (events_of k)
  unfolding looks
  looks-next l r k s n b = ap (looks grip within b) (event_next l r k s n)

  -- none is left
  pub looks-last : (l : List ℕ) → length l < record_size → (b : Best) → looks grip within b (events_of l) ≡ b
  unfolding looks
  looks-last l h b = ap (looks grip within b) (event_end l h)

  -- whether refusal 12 does not apply
  pub looks_ok : (rs : List (List ℕ)) (b : Best) → (looks grip within b rs).ok ≡ b.ok && all_ok rs
  unfolding looks looked all_ok
  looks_ok [] b = sym (and_true b.ok)
  looks_ok (r ∷ rs) b = looks_ok rs (looked grip within b r) ∙ and_assoc b.ok (record_ok r) (all_ok rs)

  pub looked-count : (b : Best) (r : List ℕ) → (looked grip within b r).count ≡ b.count + 1
  unfolding looked
  looked-count b r = refl

-- whether refusal 12 does not apply to what was read with a part
pub part_ok : (grip within : Float) (b : Best) (l : List ℕ) → (read_part grip within b l).ok ≡ b.ok && list_ok l
part_ok grip within b l = looks_ok grip within (events_of l) (tested b l) ∙ and_assoc b.ok (eqb (length l % record_size) 0) (all_ok (events_of l))

-- a part that is read adds up
pub part-adds : (grip within : Float) → is_finite within ≡ true → (b : Best) (l : List ℕ) → Adds grip within b l (read_part grip within b l)
part-adds grip within W b l = record {
  fine = part_ok grip within b l;
  behind = λ es st. stands_all grip within W (events_of l) es (tested b l) (record { counted = st.counted; nothing = st.nothing; nearest = st.nearest; far = st.far; when = st.when });
}
