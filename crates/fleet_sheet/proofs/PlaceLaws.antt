-- The place of a number in a rising list, and moving a part of a list on. Assumes nothing.
use Rattle.std.proofs.Common.{◌≡◌, ℕ, zero, suc, ◌+◌, ◌-◌, ◌<◌, ◌≤◌, Bool, true, false, ◌&&◌, eqb, ltb, List, [], ◌∷◌, ◌++◌, length, get_or, take, drop, sym, refl, ap, ◌∙◌, subst, append_assoc, ⊎_elim, eq-or-lt_of_le, arith, length-append, length-drop, length-take-le, get_or-take, ltb-true, ltb-false, le-ltb, lt-ltb, eqb-true}
use lib.ListN.{length-map}
use lib.Seq.{slice, length-slice}
use Rattle.std.specs.List.Sorted.{IsNonDecreasingBy, IsPartitionPoint}
use Rattle.std.specs.List.{copy_within}
use Rattle.std.proofs.lemmas.List.{drop-take}
use Rattle.limits.proofs.Samples.{and_left, and_right}
use Rattle.fleet_sheet.proofs.TableLaws.{map_at, map-take}
use Rattle.fleet_sheet.specs.declared.table.DeviceRow.{DeviceRow}
use Rattle.fleet_sheet.specs.Table.{place_of, Rising, shifted, is_there, devices_in, no_row}

-- ---- the place

pub place_is : (d : ℕ) (l : List ℕ) (p : ℕ) → p ≤ length l → ((k : ℕ) → k < p → get_or l k 0 < d) → ((k : ℕ) → p ≤ k → k < length l → d ≤ get_or l k 0) → p ≡ place_of d l
unfolding place_of
place_is d [] zero h a b = refl
place_is d [] (suc p) h a b = absurd (omega arith)
place_is d (x ∷ l) zero h a b = rw (le-ltb x d (b 0 (omega arith) (omega arith))) refl
place_is d (x ∷ l) (suc p) h a b =
    rw (lt-ltb x d (a 0 (omega arith))) (ap suc (place_is d l p (omega arith) (λ k u. a (suc k) (omega arith)) (λ k u v. b (suc k) (omega arith) (omega arith))))

module _ (l : List ℕ) (r : Rising l) (d mid : ℕ) (h : mid < length l) where
  -- with one not below d, none after it is
  pub high-turn : d ≤ get_or l mid 0 → (k : ℕ) → mid ≤ k → k < length l → d ≤ get_or l k 0
  high-turn s k u v =
      ⊎_elim (λ e. subst (λ (j : ℕ). d ≤ get_or l j 0) e s) (λ b. let g = r mid k b v in omega arith) (eq-or-lt_of_le {n = mid} {m = k} u)

pub there_same : (d p n : ℕ) (ids : List ℕ) → n ≤ length ids → is_there d p n ids ≡ is_there d p (length (take n ids)) (take n ids)
there_same d p n ids h = ap (λ (k : ℕ). ltb p k && eqb (get_or ids p 0) d) (sym (length-take-le n ids h)) ∙ go (ltb p (length (take n ids))) refl
  where
    go : (t : Bool) → ltb p (length (take n ids)) ≡ t → ltb p (length (take n ids)) && eqb (get_or ids p 0) d ≡ ltb p (length (take n ids)) && eqb (get_or (take n ids) p 0) d
    go true e = ap (λ (k : ℕ). ltb p (length (take n ids)) && eqb k d) (sym (get_or-take n ids p 0 (omega (arith, ltb-true p (length (take n ids)) e, length-take-le n ids h))))
    go false e = rw e refl

-- the front of a table
module _ (n : ℕ) (t : List DeviceRow) (h : n ≤ length t) where
  pub front_devices : devices_in (take n t) ≡ take n (devices_in t)
  front_devices = map-take (λ r. r.device) t n

  pub there_in_front : (d p : ℕ) → is_there d p (length (take n t)) (devices_in (take n t)) ≡ is_there d p n (devices_in t)
  there_in_front d p =
      let k : length (take n t) ≡ length (take n (devices_in t)) = length-take-le n t h ∙ sym (length-take-le n (devices_in t) (omega (arith, length-map t (λ r. r.device)))) in
      cc (k, front_devices) ∙ sym (there_same d p n (devices_in t) (omega (arith, length-map t (λ r. r.device))))

-- a device that stands in a table stands at its place
pub there_place : (d p : ℕ) (t : List DeviceRow) → Rising (devices_in t) → is_there d p (length t) (devices_in t) ≡ true → (p ≡ place_of d (devices_in t)) × (p ≤ length t)
there_place d p t r e =
    let l = devices_in t in
    let m : length l ≡ length t = length-map t (λ x. x.device) in
    let b : p < length t = ltb-true p (length t) (and_left (ltb p (length t)) (eqb (get_or l p 0) d) e) in
    let q : get_or l p 0 ≡ d = eqb-true (get_or l p 0) d (and_right (ltb p (length t)) (eqb (get_or l p 0) d) e) in (
      place_is d l p (omega arith) (λ k u. let v = r k p u (omega arith) in omega arith) (high-turn l r d p (omega arith) (omega arith)),
      omega arith,
    )

-- ---- the search of the library

module _ (t : List DeviceRow) where
  device_at : (k : ℕ) (x : DeviceRow) → k < length t → get_or (devices_in t) k 0 ≡ (get_or t k x).device
  device_at k x h = map_at (λ r. r.device) t k x 0 h

  pub never_down : Rising (devices_in t) → IsNonDecreasingBy (λ r. r.device) t
  never_down r i j x u v =
      ⊎_elim (λ e. let q : (get_or t i x).device ≡ (get_or t j x).device = ap (λ (k : ℕ). (get_or t k x).device) e in omega arith)
      (λ b. let g = r i j b (omega (arith, length-map t (λ x. x.device))) in omega (arith, device_at i x (omega arith), device_at j x v)) (eq-or-lt_of_le {n = i} {m = j} u)

  pub place_at_point : (d p : ℕ) → p ≤ length t → IsPartitionPoint (λ r. ltb r.device d ≡ true) (λ r. ltb r.device d ≡ false) t p → p ≡ place_of d (devices_in t)
  place_at_point d p h point =
      let m : length (devices_in t) ≡ length t = length-map t (λ x. x.device) in
      place_is d (devices_in t) p (omega arith)
      (λ k u. omega (arith, ltb-true _ d (point.0 k none (omega arith) u), device_at k none (omega arith)))
      (λ k u v. omega (arith, ltb-false _ d (point.1 k none u (omega arith)), device_at k none (omega arith)))
    where
      none : DeviceRow
      none = record { device = 0; row = no_row }

-- ---- moving on

pub length-shifted : {A : Type 0} (w k to : ℕ) (l : List A) → k ≤ to → to + w ≤ length l → length (shifted w k to l) ≡ length l
length-shifted w k to l h b =
    omega (arith, length-append (take (k + w) l) (slice k to l ++ drop (to + w) l), length-append (slice k to l) (drop (to + w) l), length-take-le (k + w) l (omega arith), length-slice k to l (omega arith), length-drop (to + w) l)

-- as the library does it
pub moved_on : {A : Type 0} (w from to : ℕ) (l : List A) → from ≤ to → copy_within l from to (from + w) ≡ shifted w from to l
moved_on {A = A} w from to l h =
    append_assoc (take (from + w) l) (take (to - from) (drop from l)) (drop (from + w + (to - from)) l)
    ∙ ap (λ (m : List A). take (from + w) l ++ (m ++ drop (from + w + (to - from)) l)) (sym (drop-take from (to - from) l) ∙ ap (λ (k : ℕ). drop from (take k l)) (back from to h))
    ∙ ap (λ (k : ℕ). take (from + w) l ++ (slice from to l ++ drop k l)) (place from to w h)
  where
    back : (from to : ℕ) → from ≤ to → from + (to - from) ≡ to
    back from to h = omega arith

    place : (from to w : ℕ) → from ≤ to → from + w + (to - from) ≡ to + w
    place from to w h = omega arith
