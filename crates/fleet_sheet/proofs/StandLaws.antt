-- The rows stand for the messages read so far: kept by every record. Assumes nothing.
use Rattle.std.proofs.Common.{◌≡◌, ℕ, ◌+◌, ◌^◌, ◌<◌, ◌≤◌, Bool, true, false, cond, eqb, ltb, List, [], ◌∷◌, ◌++◌, map, length, get_or, take, drop, set, sym, refl, ap, ◌∙◌, subst, true≢false, append_assoc, append-nil, arith, length-append, length-drop, length-set, length-take-le, get_or-take, ltb-false, ltb-true, eq-eqb, ne_eqb, eqb-true}
use mathlib.Core.List.{map-append}
use lib.ListN.{length-map, get_or-map}
use lib.Seq.{take-set-lt}
use Rattle.limits.proofs.Samples.{and_left, and_right}
use Rattle.record.specs.Readers.{device_of}
use Rattle.event_list.specs.Events.{is_message, messages_of}
use Rattle.event_list.specs.Sums.{those}
use Rattle.event_list.proofs.SumLaws.{those-append, those_one, those_none, those-le}
use Rattle.fleet_sheet.specs.declared.rows.Row.{Row}
use Rattle.fleet_sheet.specs.Fleet.{is_of, row_from, row_of, devices_of}
use Rattle.fleet_sheet.specs.Table.{single, merge, Small, devices_in, rows_in, row_at, place_of, shifted, at, is_there, is_known, taken_count, taken_ids, taken_rows, rows_most, Stands, Gathered}
use Rattle.fleet_sheet.specs.declared.table.DeviceRow.{DeviceRow}
use Rattle.fleet_sheet.specs.declared.Tally.{Tally}
use Rattle.fleet_sheet.specs.Tallies.{Held}
use Rattle.fleet_sheet.proofs.PlaceLaws.{length-shifted, there_same}
use Rattle.fleet_sheet.proofs.DeviceLaws.{three, has, devices_more, rising-devices, none_of, some_of, there_is, insert_at, has_at, place-le, insert-le}
use Rattle.fleet_sheet.proofs.RowLaws.{row_one, row_more, row_small}
use Rattle.fleet_sheet.proofs.TableLaws.{map-take, map-drop}
use Rattle.fleet_sheet.proofs.GapLaws.{row_read, gap-filled, map_same, map_one}
use Rattle.fleet_sheet.proofs.TakenLaws.{Took}

-- ---- the rows after one message more

module _ (ms : List (List ℕ)) (m : List ℕ) where
  abbrev more : List (List ℕ)
  more = ms ++ (m ∷ [])

  other_row : (e : ℕ) → (device_of m ≡ e → ⊥) → row_of more e ≡ row_of ms e
  other_row e h =
      ap row_from (those-append (is_of e) ms (m ∷ []) ∙ ap (λ (l : List (List ℕ)). those (is_of e) ms ++ l) (those_none (is_of e) m (ne_eqb (device_of m) e h)) ∙ append-nil (those (is_of e) ms))

  own : those (is_of (device_of m)) more ≡ those (is_of (device_of m)) ms ++ (m ∷ [])
  own =
      those-append (is_of (device_of m)) ms (m ∷ [])
      ∙ ap (λ (l : List (List ℕ)). those (is_of (device_of m)) ms ++ l) (those_one (is_of (device_of m)) m (eq-eqb (device_of m) (device_of m) refl))

  known-row : has (device_of m) (devices_of ms) ≡ true → row_of more (device_of m) ≡ merge (row_of ms (device_of m)) (single m)
  known-row h =
      let s = some_of (device_of m) ms h in
      ap row_from (own ∙ ap (λ (l : List (List ℕ)). l ++ (m ∷ [])) s.is) ∙ row_more s.first s.rest m
      ∙ ap (λ (l : List (List ℕ)). merge (row_from l) (single m)) (sym s.is)

  new_row : has (device_of m) (devices_of ms) ≡ false → row_of more (device_of m) ≡ single m
  new_row h = ap row_from (own ∙ ap (λ (l : List (List ℕ)). l ++ (m ∷ [])) (none_of (device_of m) ms h)) ∙ row_one m

-- ---- the table

module _ (ids : List ℕ) (t : List Row) (n : ℕ) (ms : List (List ℕ)) (st : Stands ids t n ms) (m : List ℕ) where
  abbrev ds : List ℕ
  ds = devices_of ms

  abbrev d : ℕ
  d = device_of m

  abbrev p : ℕ
  p = at m n ids

  abbrev rs : List Row
  rs = map (row_of ms) ds

  inn : n ≤ length ids
  inn = omega (arith, st.room, st.places)

  place_is : p ≡ place_of d ds
  place_is = ap (place_of d) st.named

  known_is : is_known m n ids ≡ is_there d (place_of d ds) (length ds) ds
  known_is =
      there_same d p n ids inn ∙ ap (λ (l : List ℕ). is_there d p (length l) l) st.named ∙ ap (λ (k : ℕ). is_there d k (length ds) ds) place_is

  known_has : is_known m n ids ≡ has d ds
  known_has = known_is ∙ there_is d ds (rising-devices ms)

  rows-many : length rs ≡ n
  rows-many = length-map ds (row_of ms) ∙ sym st.many

  abbrev blank : Row
  blank = row_of ms 0

  -- ---- a device that has a row

  module _ (k : is_known m n ids ≡ true) where
    inside : p < n
    inside = ltb-true p n (and_left (ltb p n) (eqb (get_or ids p 0) d) k)

    device-there : get_or ds p 0 ≡ d
    device-there =
        ap (λ (l : List ℕ). get_or l p 0) (sym st.named) ∙ get_or-take n ids p 0 inside
        ∙ eqb-true (get_or ids p 0) d (and_right (ltb p n) (eqb (get_or ids p 0) d) k)

    devices-kept : devices_of (more ms m) ≡ ds
    devices-kept =
        devices_more ms m ∙ insert_at d ds ∙ ap (λ (b : Bool). cond b ds (take (place_of d ds) ds ++ (d ∷ drop (place_of d ds) ds))) (sym known_is ∙ k)

    others : (j : ℕ) → j < length ds → (j ≡ p → ⊥) → row_of (more ms m) (get_or ds j 0) ≡ row_of ms (get_or ds j 0)
    others j b h =
        other_row ms m (get_or ds j 0)
        (λ e. three j p (λ u. let r = rising-devices ms j p u (omega (arith, inside, st.many)) in omega (arith, r, device-there, e)) h
        (λ u. let r = rising-devices ms p j u b in omega (arith, r, device-there, e)))

    rows-changed : map (row_of (more ms m)) ds ≡ set rs p (merge (row_at t p) (single m))
    rows-changed =
        map_one (row_of ms) (row_of (more ms m)) ds p (omega (arith, inside, st.many)) others
        ∙ ap (set rs p)
        (ap (row_of (more ms m)) device-there ∙ known-row ms m (sym known_has ∙ k)
        ∙ ap (λ (r : Row). merge r (single m)) (ap (row_of ms) (sym device-there) ∙ sym (get_or-map (row_of ms) ds p 0) ∙ sym (row_read t n rs p blank st.held inside (omega (arith, inside, rows-many)))))

    pub stands-joined : Stands ids (set t p (merge (row_at t p) (single m))) n (more ms m)
    stands-joined = record {
      places = st.places;
      long = length-set t p (merge (row_at t p) (single m)) ∙ st.long;
      many = st.many ∙ ap length (sym devices-kept);
      room = st.room;
      named = st.named ∙ sym devices-kept;
      held =
          take-set-lt n t p (merge (row_at t p) (single m)) inside
          ∙ ap (λ (l : List Row). set l p (merge (row_at t p) (single m))) st.held
          ∙ sym rows-changed ∙ ap (map (row_of (more ms m))) (sym devices-kept);
    }

  -- ---- a device without one

  module _ (k : is_known m n ids ≡ false) where
    absent : has d ds ≡ false
    absent = sym known_has ∙ k

    place_in : p ≤ n
    place_in = omega (arith, place-le d (take n ids), length-take-le n ids inn)

    pub devices-grown : devices_of (more ms m) ≡ take p ds ++ (d ∷ drop p ds)
    devices-grown =
        devices_more ms m ∙ insert_at d ds ∙ ap (λ (b : Bool). cond b ds (take (place_of d ds) ds ++ (d ∷ drop (place_of d ds) ds))) (sym known_is ∙ k)
        ∙ ap (λ (j : ℕ). take j ds ++ (d ∷ drop j ds)) (sym place_is)

    pub many-grown : n + 1 ≡ length (devices_of (more ms m))
    many-grown =
        let e = ap length devices-grown in
        omega (arith, e, length-append (take p ds) (d ∷ drop p ds), length-take-le p ds (omega (arith, place_in, st.many)), length-drop p ds, st.many, place_in)

    rows-kept : map (row_of (more ms m)) ds ≡ rs
    rows-kept =
        map_same (row_of ms) (row_of (more ms m)) ds
        (λ j b. other_row ms m (get_or ds j 0) (λ e. true≢false (sym (has_at d ds j b (sym e)) ∙ absent)))

    rows_grown : map (row_of (more ms m)) (devices_of (more ms m)) ≡ take p rs ++ (single m ∷ drop p rs)
    rows_grown =
        ap (map (row_of (more ms m))) devices-grown ∙ map-append (row_of (more ms m)) (take p ds) (d ∷ drop p ds)
        ∙ cc (map-take (row_of (more ms m)) ds p, map-drop (row_of (more ms m)) ds p, rows-kept, new_row ms m absent)

    pub stands-opened : n < rows_most → Stands (set (shifted 1 p n ids) p d) (set (shifted 1 p n t) p (single m)) (n + 1) (more ms m)
    stands-opened h =
        let sizes : n + 1 ≤ length ids = omega (arith, st.places) in
        let wide : n + 1 ≤ length t = omega (arith, st.long) in
        let q = place_in in
        record {
          places = length-set (shifted 1 p n ids) p d ∙ length-shifted 1 p n ids q sizes ∙ st.places;
          long = length-set (shifted 1 p n t) p (single m) ∙ length-shifted 1 p n t q wide ∙ st.long;
          many = many-grown;
          room = omega arith;
          named = gap-filled 1 p n ids (d ∷ []) refl q sizes ∙ ap (λ (l : List ℕ). take p l ++ (d ∷ drop p l)) st.named ∙ sym devices-grown;
          held =
              gap-filled 1 p n t (single m ∷ []) refl q wide
              ∙ ap (λ (l : List Row). take p l ++ (single m ∷ drop p l)) st.held
              ∙ sym rows_grown;
        }

  -- ---- any record

  pub stands-next : (k : ℕ) (ids' : List ℕ) (t' : List Row) → Took m n ids t k ids' t' → Gathered ids' t' k (ms ++ messages_of (m ∷ []))
  unfolding taken_count taken_ids taken_rows
  stands-next k ids' t' w = message (is_message m) refl
    where
      moved : (k₀ : ℕ) (i₀ : List ℕ) (t₀ : List Row) (l : List (List ℕ)) → taken_count m n ids ≡ k₀ → taken_ids m n ids ≡ i₀ → taken_rows m n ids t ≡ t₀
          → Gathered i₀ t₀ k₀ l → Gathered ids' t' k l
      moved k₀ i₀ t₀ l a b c g = rw (w.0 ∙ a, w.1 ∙ b, w.2 ∙ c) g

      full : is_message m ≡ true → is_known m n ids ≡ false → (b : Bool) → ltb n rows_most ≡ b → Gathered ids' t' k (more ms m)
      full e f true h =
          let u = ltb-true n rows_most h in
          moved (n + 1) (set (shifted 1 p n ids) p d) (set (shifted 1 p n t) p (single m)) (more ms m)
          (rw (e, f, h) refl) (rw (e, f, h) refl) (rw (e, f, h) refl)
          (record { under = λ v. stands-opened f u; above = λ v. absurd (omega arith) })
      full e f false h =
          let u = ltb-false n rows_most h in
          moved 257 ids t (more ms m) (rw (e, f, h) refl) (rw (e, f, h) refl) (rw (e, f, h) refl)
          (record { under = λ v. absurd (omega arith); above = λ v. omega (arith, many-grown f) })

      known : is_message m ≡ true → (b : Bool) → is_known m n ids ≡ b → Gathered ids' t' k (more ms m)
      known e true h =
          moved n ids (set t p (merge (row_at t p) (single m))) (more ms m) (rw (e, h) refl) (rw (e, h) refl) (rw (e, h) refl)
          (record { under = λ v. stands-joined h; above = λ v. absurd (omega (arith, st.room)) })
      known e false h = full e h (ltb n rows_most) refl

      message : (b : Bool) → is_message m ≡ b → Gathered ids' t' k (ms ++ messages_of (m ∷ []))
      message true e = subst (λ (l : List (List ℕ)). Gathered ids' t' k (ms ++ l)) (sym (those_one is_message m e)) (known e (is_known m n ids) refl)
      message false e =
          subst (λ (l : List (List ℕ)). Gathered ids' t' k l) (sym (ap (λ (l : List (List ℕ)). ms ++ l) (those_none is_message m e) ∙ append-nil ms))
          (moved n ids t ms (rw e refl) (rw e refl) (rw e refl) (record { under = λ v. st; above = λ v. absurd (omega (arith, st.room)) }))

  -- ---- what `taken` requires

  pub small-rows : length ms ≤ 2 ^ 20 → (j : ℕ) → j < n → Small (row_at t j)
  small-rows h j b =
      subst Small
      (sym (row_read t n rs j blank st.held b (omega (arith, rows-many)) ∙ get_or-map (row_of ms) ds j 0))
      (row_small (those (is_of (get_or ds j 0)) ms) (omega (arith, those-le (is_of (get_or ds j 0)) ms)))

-- the start
pub stands_none : (ids : List ℕ) (t : List Row) → length ids ≡ rows_most → length t ≡ rows_most → Stands ids t 0 []
unfolding devices_of
stands_none ids t a b = record { places = a; long = b; many = refl; room = omega arith; named = refl; held = refl }

-- nothing is read
pub held_none : (t : Tally) (table : List DeviceRow) → t.devices ≡ 0 → length table ≡ rows_most → Held t table []
held_none t table e a = record {
  gathered = subst (λ (n : ℕ). Gathered (devices_in table) (rows_in table) n []) (sym e)
      (record { under = λ u. stands_none (devices_in table) (rows_in table) (length-map table (λ r. r.device) ∙ a) (length-map table (λ r. r.row) ∙ a); above = λ u. absurd (omega arith) });
  few = omega arith;
}

-- more messages, no fewer devices
pub devices_grow : (b a : List (List ℕ)) → length (devices_of a) ≤ length (devices_of (a ++ b))
devices_grow [] a = omega (arith, ap (λ (l : List (List ℕ)). length (devices_of l)) (append-nil a))
devices_grow (m ∷ b) a =
    omega (arith, devices_grow b (a ++ (m ∷ [])), ap (λ (l : List (List ℕ)). length (devices_of l)) (append_assoc a (m ∷ []) b), ap length (devices_more a m), insert-le (device_of m) (devices_of a))
