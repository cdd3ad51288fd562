-- Laws of a list of event records: the record at each place, the tests of a list that goes on, and of one in another order. Assumes nothing.
use mathlib.Core.Path.{◌≡◌, refl, sym, ap, ◌∙◌}
use mathlib.Core.Bool.{Bool, true, false, cond, ◌&&◌}
use mathlib.Core.List.{List, [], ◌∷◌, ◌++◌, Permᴰ}
use Prim.Native.Nat.{ℕ, zero, suc, ◌+◌, ◌-◌, ◌*◌, ◌%◌, ◌^◌, ◌≤◌, ◌<◌}
use native.Mathlib.Omega.{arith}
use native.Mathlib.Numerals.{add-one}
use lib.ListN.{length, get_or, take, drop, length-append, length-drop}
use lib.Seq.{drop-cons, drop-drop, take-append-le, drop-append-le, take-append_seam, drop-append_seam}
use Rattle.limits.specs.Limits.{record_size, most_record_bytes}
use Rattle.std.specs.Prelude.{Ok, Err}
use Rattle.limits.specs.declared.Refusal.{Refusal}
use Rattle.limits.proofs.Samples.{and_assoc, and_true}
use Rattle.event_list.specs.Events.{records_of, wholes, events_of, record_ok, all_ok, list_ok, Reordered}

-- ---- the record at a place

pub length-records : (n : ℕ) (l : List ℕ) → length (records_of n l) ≡ n
unfolding records_of
length-records zero l = refl
length-records (suc n) l = ap suc (length-records n (drop record_size l))

pub record_at : (n i : ℕ) (l : List ℕ) → i < n → get_or (records_of n l) i [] ≡ take record_size (drop (record_size * i) l)
unfolding records_of
record_at zero i l h = absurd (omega arith)
record_at (suc n) zero l h = refl
record_at (suc n) (suc i) l h =
    record_at n i (drop record_size l) (omega arith)
    ∙ ap (take record_size) (drop-drop (record_size * i) record_size l ∙ ap (λ (k : ℕ). drop k l) (place i))
  where
    place : (i : ℕ) → 120 + 120 * i ≡ 120 * suc i
    place i = omega arith

-- a whole record ends inside the list
pub inside : (l : List ℕ) (i : ℕ) → i < wholes l → 120 * i + 120 ≤ length l
inside l i h = omega arith

-- the part of the list that it is
pub event_part : (l : List ℕ) (i : ℕ) → i < wholes l → take (120 * i + 120 - 120 * i) (drop (120 * i) l) ≡ get_or (events_of l) i []
event_part l i h = ap (λ (k : ℕ). take k (drop (120 * i) l)) (size i) ∙ sym (record_at (wholes l) i l h)
  where
    size : (i : ℕ) → 120 * i + 120 - 120 * i ≡ 120
    size i = omega arith

-- a list that is not refused with 3 has at most a million
pub events-few : (l : List ℕ) → length l ≤ most_record_bytes → length (events_of l) ≤ 2 ^ 20
events-few l h = omega (arith, length-records (wholes l) l)

-- ---- a list that goes on

records-append : (m n : ℕ) (l k : List ℕ) → length l ≡ record_size * m → records_of (m + n) (l ++ k) ≡ records_of m l ++ records_of n k
unfolding records_of
records-append zero n [] k h = ap (λ (i : ℕ). records_of i k) (none n)
  where
    none : (n : ℕ) → 0 + n ≡ n
    none n = omega arith
records-append zero n (x ∷ l) k h = absurd (omega (arith, h))
records-append (suc m) n l k h =
    ap (λ (i : ℕ). records_of i (l ++ k)) (more m n)
    ∙ cc (
      take-append-le record_size l k (omega (arith, h)),
      ap (records_of (m + n)) (drop-append-le record_size l k (omega (arith, h))) ∙ records-append m n (drop record_size l) k (omega (arith, h, length-drop record_size l)),
    )
  where
    more : (m n : ℕ) → suc m + n ≡ suc (m + n)
    more m n = omega arith

pub events-append : (l k : List ℕ) → length l % record_size ≡ 0 → events_of (l ++ k) ≡ events_of l ++ events_of k
events-append l k h =
    ap (λ (n : ℕ). records_of n (l ++ k)) (omega (arith, h, length-append l k)) ∙ records-append (wholes l) (wholes k) l k (omega (arith, h))

-- ---- the test

pub ok_append : (a b : List (List ℕ)) → all_ok (a ++ b) ≡ (all_ok a && all_ok b)
unfolding all_ok
ok_append [] b = refl
ok_append (r ∷ a) b = ap (λ (t : Bool). record_ok r && t) (ok_append a b) ∙ sym (and_assoc (record_ok r) (all_ok a) (all_ok b))

-- ---- another order

pub ok_perm : {a b : List (List ℕ)} → Permᴰ a b → all_ok a ≡ all_ok b
unfolding all_ok
ok_perm Permᴰ.nil = refl
ok_perm (Permᴰ.cons e p) = cc (ap record_ok e, ok_perm p)
ok_perm (Permᴰ.swap {a} {b} {a'} {b'} {l} e g) = swap (record_ok a) (record_ok b) (all_ok l) ∙ cc (ap record_ok e, ap record_ok g)
  where
    swap : (x y z : Bool) → x && (y && z) ≡ y && (x && z)
    swap true true z = refl
    swap true false z = refl
    swap false true z = refl
    swap false false z = refl
ok_perm (Permᴰ.trans p q) = ok_perm p ∙ ok_perm q

pub ok_reordered : {l k : List ℕ} → Reordered l k → list_ok l ≡ list_ok k
ok_reordered r = cc (r.size, ok_perm r.records)

-- ---- a list that is read record by record: l is left of it, then k

-- a record comes
module _ (l r k : List ℕ) (s : l ≡ r ++ k) (n : length r ≡ record_size) where
  pub event_next : events_of l ≡ r ∷ events_of k
  unfolding records_of
  event_next =
      ap (λ (i : ℕ). records_of i l) more
      ∙ cc (
        ap (take record_size) s ∙ ap (λ (i : ℕ). take i (r ++ k)) (sym n) ∙ take-append_seam r k,
        ap (λ (x : List ℕ). records_of (wholes k) x) (ap (drop record_size) s ∙ ap (λ (i : ℕ). drop i (r ++ k)) (sym n) ∙ drop-append_seam r k),
      )
    where
      more : wholes l ≡ suc (wholes k)
      more = omega (arith, n, ap length s, length-append r k)

  -- by its number
  pub event_at : (es : List (List ℕ)) (i : ℕ) → events_of l ≡ drop i es → (i < length es) × (r ≡ get_or es i []) × (events_of k ≡ drop (i + 1) es)
  event_at es i e =
      let f : r ∷ events_of k ≡ drop i es = sym event_next ∙ e in
      let h : i < length es = omega (arith, ap length f, length-drop i es) in
      let g : r ∷ events_of k ≡ get_or es i [] ∷ drop (suc i) es = f ∙ drop-cons es i [] h in
      (h, cc, rw (add-one i) cc)

  -- its test
  pub ok_next : (ok right w : Bool) → right ≡ record_ok r → ok && all_ok (events_of l) ≡ w → (ok && right) && all_ok (events_of k) ≡ w
  unfolding all_ok
  ok_next ok right w e p =
      ap (λ (t : Bool). (ok && t) && all_ok (events_of k)) e
      ∙ and_assoc ok (record_ok r) (all_ok (events_of k))
      ∙ ap (λ (es : List (List ℕ)). ok && all_ok es) (sym event_next)
      ∙ p

-- none is left
pub event_end : (l : List ℕ) → length l < record_size → events_of l ≡ []
unfolding records_of
event_end l h = ap (λ (i : ℕ). records_of i l) (none l h)
  where
    none : (l : List ℕ) → length l < record_size → wholes l ≡ 0
    none l h = omega arith

pub none_left : (l : List ℕ) → length l < record_size → (es : List (List ℕ)) (i : ℕ) → i ≤ length es → events_of l ≡ drop i es → i ≡ length es
none_left l h es i n e = omega (arith, ap length (sym (event_end l h) ∙ e), length-drop i es)

pub ok_last : (l : List ℕ) → length l < record_size → (ok w : Bool) → ok && all_ok (events_of l) ≡ w → ok ≡ w
unfolding all_ok
ok_last l h ok w p = sym (and_true ok) ∙ ap (λ (es : List (List ℕ)). ok && all_ok es) (sym (event_end l h)) ∙ p

-- ---- what is read of a list that may be refused: v, or the refusal

module _ {A : Type 0} (v : A) (refusal : Refusal) where
  pub when_ok : (ok : Bool) (t : A) → Ok t ≡ cond ok (Ok v) (Err refusal) → (ok ≡ true) × (t ≡ v)
  when_ok true t e = (refl, cc)
  when_ok false t e = absurd cc

  pub when_bad : (ok : Bool) (x : Refusal) → Err x ≡ cond ok (Ok v) (Err refusal) → (ok ≡ false) × (x ≡ refusal)
  when_bad true x e = absurd cc
  when_bad false x e = (refl, cc)
