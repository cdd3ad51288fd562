-- The four ways of taking a record into the rows. Assumes nothing.
use Rattle.std.proofs.Common.{◌≡◌, ℕ, ◌+◌, ◌<◌, ◌≤◌, Bool, true, false, eqb, ltb, List, get_or, take, set, sym, refl, ap, ◌∙◌, ltb-true, le-ltb, lt-ltb}
use Rattle.limits.proofs.Samples.{and_left}
use Rattle.record.specs.Readers.{device_of}
use Rattle.event_list.specs.Events.{is_message}
use Rattle.fleet_sheet.specs.declared.rows.Row.{Row}
use Rattle.fleet_sheet.specs.Table.{single, merge, row_at, place_of, shifted, at, is_there, is_known, taken_count, taken_ids, taken_rows, rows_most}

abbrev pub Took : List ℕ → ℕ → List ℕ → List Row → ℕ → List ℕ → List Row → Type 0
Took m n ids t k ids' t' = (k ≡ taken_count m n ids) × (ids' ≡ taken_ids m n ids) × (t' ≡ taken_rows m n ids t)

-- what the code has found of a message
pub record Found (m : List ℕ) (n : ℕ) (ids : List ℕ) (d p : ℕ) (known : Bool) : Type 0 where
  pub message : is_message m ≡ true
  pub device : d ≡ device_of m
  pub place : p ≡ place_of d (take n ids)
  pub there : is_there d p n ids ≡ known

module _ (m : List ℕ) (n : ℕ) (ids : List ℕ) (t : List Row) where
  pub skips : is_message m ≡ false → Took m n ids t n ids t
  unfolding taken_count taken_ids taken_rows
  skips e = rw e (refl, refl, refl)

  module _ (d p : ℕ) where
    place_at : {b : Bool} → Found m n ids d p b → p ≡ at m n ids
    place_at f = f.place ∙ ap (λ (j : ℕ). place_of j (take n ids)) f.device

    known_is : {b : Bool} → Found m n ids d p b → is_known m n ids ≡ b
    known_is f = ap (λ (j : ℕ). is_there (device_of m) j n ids) (sym (place_at f)) ∙ ap (λ (j : ℕ). is_there j p n ids) (sym f.device) ∙ f.there

    pub inside : Found m n ids d p true → p < n
    inside f = ltb-true p n (and_left (ltb p n) (eqb (get_or ids p 0) d) f.there)

    pub joins : Found m n ids d p true → (t' : List Row) → t' ≡ set t p (merge (row_at t p) (single m)) → Took m n ids t n ids t'
    unfolding taken_count taken_ids taken_rows
    joins f t' e =
        rw (f.message, known_is f)
        (refl, refl, e ∙ ap (λ (j : ℕ). set t j (merge (row_at t j) (single m))) (place_at f))

    pub refuses : Found m n ids d p false → rows_most ≤ n → Took m n ids t 257 ids t
    unfolding taken_count taken_ids taken_rows
    refuses f h = rw (f.message, known_is f, le-ltb n rows_most h) (refl, refl, refl)

    pub opens : Found m n ids d p false → n < rows_most → (ids' : List ℕ) (t' : List Row) → ids' ≡ set (shifted 1 p n ids) p d
        → t' ≡ set (shifted 1 p n t) p (single m) → Took m n ids t (n + 1) ids' t'
    unfolding taken_count taken_ids taken_rows
    opens f h ids' t' e g =
        rw (f.message, known_is f, lt-ltb n rows_most h) (
          refl,
          e ∙ ap (set (shifted 1 p n ids) p) f.device ∙ ap (λ (j : ℕ). set (shifted 1 j n ids) j (device_of m)) (place_at f),
          g ∙ ap (λ (j : ℕ). set (shifted 1 j n t) j (single m)) (place_at f),
        )
