-- Reading the list into the rows, and the rows into the sheet. Assumes nothing.
use Rattle.std.proofs.Common.{◌≡◌, ℕ, zero, suc, ◌+◌, ◌*◌, ◌<◌, ◌≤◌, List, [], ◌∷◌, ◌++◌, map, length, get_or, take, ℤ, sym, refl, ap, ◌∙◌, subst, append_assoc, append-nil, add-one, arith, length-append, take-suc}
use lib.ListN.{length-map}
use lib.Seq.{sets, take-length}
use Rattle.event_list.specs.Events.{is_message, messages_of}
use Rattle.event_list.specs.Sums.{those}
use Rattle.event_list.proofs.SumLaws.{those-append, those-le, sets_append}
use Rattle.fleet_sheet.specs.declared.rows.Row.{Row}
use Rattle.fleet_sheet.specs.declared.table.DeviceRow.{DeviceRow}
use Rattle.fleet_sheet.specs.Fleet.{row_of, devices_of}
use Rattle.fleet_sheet.specs.Report.{nine, sheet_of, sheet}
use Rattle.fleet_sheet.specs.Table.{row_at, no_row, devices_in, rows_in, rows_most, Stands, Gathered, nines}
use Rattle.fleet_sheet.proofs.TableLaws.{map_at, map-take}
use Rattle.fleet_sheet.proofs.TakenLaws.{Took}
use Rattle.fleet_sheet.proofs.StandLaws.{stands-next, devices_grow}

-- ---- reading

-- messages ms stood before the records, of which `done` were read
module _ (ms done : List (List ℕ)) where
  abbrev pub read_to : List (List ℕ)
  read_to = ms ++ messages_of done

-- one more is
module _ (ms done : List (List ℕ)) (r : List ℕ) where
  read_more : read_to ms (done ++ (r ∷ [])) ≡ read_to ms done ++ messages_of (r ∷ [])
  read_more = ap (λ (l : List (List ℕ)). ms ++ l) (those-append is_message done (r ∷ [])) ∙ sym (append_assoc ms (messages_of done) (messages_of (r ∷ [])))

  -- it is taken in
  pub read_next : (ids : List ℕ) (t : List Row) (n : ℕ) → n ≤ rows_most → Gathered ids t n (read_to ms done) → (k : ℕ) (ids' : List ℕ) (t' : List Row) → Took r n ids t k ids' t'
      → Gathered ids' t' k (read_to ms (done ++ (r ∷ [])))
  read_next ids t n u g k ids' t' w = subst (λ (l : List (List ℕ)). Gathered ids' t' k l) (sym read_more) (stands-next ids t n (read_to ms done) (g.under u) r k ids' t' w)

  -- too many devices stay too many
  pub read_over : (ids : List ℕ) (t : List Row) (n : ℕ) → rows_most < n → Gathered ids t n (read_to ms done) → Gathered ids t n (read_to ms (done ++ (r ∷ [])))
  read_over ids t n u g = record {
    under = λ v. absurd (omega arith);
    above = λ v. omega (arith, g.above u, devices_grow (messages_of (r ∷ [])) (read_to ms done), ap (λ (l : List (List ℕ)). length (devices_of l)) read_more);
  }

pub read_none : (ms : List (List ℕ)) → ms ≡ read_to ms []
unfolding those
read_none ms = sym (append-nil ms)

pub read_few : (ms done : List (List ℕ)) (n : ℕ) → length ms ≤ n → length (read_to ms done) ≤ n + length done
read_few ms done n a = omega (arith, length-append ms (messages_of done), those-le is_message done)

-- ---- writing

length-nines : (p : ℕ) (ids : List ℕ) (t : List Row) → length (nines p ids t) ≡ 9 * p
unfolding nines
length-nines zero ids t = refl
length-nines (suc p) ids t = omega (arith, length-append (nines p ids t) (nine (get_or ids p 0) (row_at t p)), length-nines p ids t)

pub sheet-turn : (p : ℕ) (ids : List ℕ) (t : List Row) (l s r : List ℤ) (d : ℕ) (row : Row) → d ≡ get_or ids p 0 → row ≡ row_at t p → s ≡ sets l 0 (nines p ids t) → r ≡ sets s (9 * p) (nine d row)
    → r ≡ sets l 0 (nines (p + 1) ids t)
unfolding nines
sheet-turn p ids t l s r d row ed er es e =
    e ∙ cc (ed, er, es)
    ∙ ap (λ (k : ℕ). sets (sets l 0 (nines p ids t)) k (nine (get_or ids p 0) (row_at t p))) (sym (place (length (nines p ids t)) p (length-nines p ids t)))
    ∙ sym (sets_append (nines p ids t) (nine (get_or ids p 0) (row_at t p)) l 0)
    ∙ ap (λ (k : ℕ). sets l 0 (nines k ids t)) (sym (add-one p))
  where
    place : (n p : ℕ) → n ≡ 9 * p → 0 + n ≡ 9 * p
    place n p e = omega arith

sheet-append : (ms : List (List ℕ)) (a b : List ℕ) → sheet_of ms (a ++ b) ≡ sheet_of ms a ++ sheet_of ms b
unfolding sheet_of
sheet-append ms [] b = refl
sheet-append ms (d ∷ a) b = ap (λ (l : List ℤ). nine d (row_of ms d) ++ l) (sheet-append ms a b)

module _ (ms : List (List ℕ)) where
  abbrev ds : List ℕ
  ds = devices_of ms

  first_nines : (p : ℕ) → p ≤ length ds → nines p ds (map (row_of ms) ds) ≡ sheet_of ms (take p ds)
  unfolding nines sheet_of
  first_nines zero h = refl
  first_nines (suc p) h =
      let row : row_at (map (row_of ms) ds) p ≡ row_of ms (get_or ds p 0) = map_at (row_of ms) ds p 0 no_row h in
      cc (first_nines p (omega arith), row)
      ∙ ap (λ (l : List ℤ). sheet_of ms (take p ds) ++ l) (sym (append-nil (nine (get_or ds p 0) (row_of ms (get_or ds p 0)))))
      ∙ sym (sheet-append ms (take p ds) (get_or ds p 0 ∷ []))
      ∙ ap (sheet_of ms) (sym (take-suc ds p 0 h))

  pub nines_are : (t : List DeviceRow) (n : ℕ) → Stands (devices_in t) (rows_in t) n ms → nines (length (take n t)) (devices_in (take n t)) (rows_in (take n t)) ≡ sheet ms
  nines_are t n st =
      let e : devices_in (take n t) ≡ ds = map-take (λ r. r.device) t n ∙ st.named in
      let f : rows_in (take n t) ≡ map (row_of ms) ds = map-take (λ r. r.row) t n ∙ st.held in
      let k : length (take n t) ≡ length ds = sym (length-map (take n t) (λ r. r.device)) ∙ ap length e in
      cc (k, e, f) ∙ first_nines (length ds) (omega arith) ∙ ap (sheet_of ms) (take-length ds)
