-- The proof of request 09's claims. Assumes nothing.
use Rattle.std.proofs.Common.{◌≡◌, ℕ, zero, suc, ◌+◌, ◌*◌, ◌<◌, ◌≤◌, Bool, true, false, cond, ◌||◌, eqb, ltb, List, [], ◌∷◌, ◌++◌, length, get_or, drop, ℤ, pos, ◌+ℤ◌, sym, refl, ap, ◌∙◌, ap₂, true≢false, arith, get_or-append-add, ltb-false, eq-eqb, eqb-true}
use mathlib.Core.List.{Permᴰ}
use lib.ListN.{get_or-append}
use lib.Seq.{sets, sets-eq}
use lib.IntN.{+ℤ_idl, +ℤ_assoc, +ℤ_comm}
use lib.Signed.{mag}
use Rattle.limits.specs.Limits.{short, long, bad_records, many_devices, most_record_bytes}
use Rattle.limits.specs.Answer.{said, Answer, accepted, answer, number, leaves}
use Rattle.record.specs.Readers.{device_of, ppm_of}
use Rattle.event_list.specs.Events.{is_message, list_ok}
use Rattle.event_list.specs.Sums.{those, sum_of}
use Rattle.event_list.proofs.EventLaws.{ok_reordered}
use Rattle.event_list.proofs.SumLaws.{sum_perm, those_perm}
use Rattle.std.specs.Prelude.{Result}
use Rattle.limits.specs.declared.Refusal.{Refusal}
use Rattle.fleet_sheet.specs.Fleet.{each, has_ranks, halves_of, min_z, max_z, over_from, over, is_of, row_from, row_of, devices_of}
use Rattle.fleet_sheet.specs.Report.{most_devices, sheet_places, nine, sheet_of, sheet, fleet_messages, sheet_cause, fleet_cause}
use Rattle.fleet_sheet.specs.Claims.{Call, device_at, MessageOf, EveryDevice, column, EverySum, AnyOrder}
use Rattle.fleet_sheet.proofs.NumberLaws.{min_assoc, max_assoc, min_comm, max_comm}
use Rattle.fleet_sheet.proofs.DeviceLaws.{has, has_insert, has_at, devices_perm, rising-devices, none_of, delta, delta-once, sum-insert}

-- ---- an accepted call

module _ (l : List ℕ) (places : ℕ) where
  abbrev many : ℕ
  many = length (devices_of (fleet_messages l))

  no_cause : fleet_cause l places ≡ 0 → (sheet_places ≤ places) × (many ≤ most_devices)
  unfolding fleet_cause sheet_cause
  no_cause e = go (ltb places sheet_places) refl (ltb most_record_bytes (length l)) (list_ok l) (ltb most_devices many) refl e
    where
      go : (a : Bool) → ltb places sheet_places ≡ a → (b c d : Bool) → ltb most_devices many ≡ d
          → cond a short (cond b long (cond c (cond d many_devices 0) bad_records)) ≡ 0 → (sheet_places ≤ places) × (many ≤ most_devices)
      go true p b c d q e = absurd (omega (arith, e))
      go false p true c d q e = absurd (omega (arith, e))
      go false p false false d q e = absurd (omega (arith, e))
      go false p false true true q e = absurd (omega (arith, e))
      go false p false true false q e = (ltb-false places sheet_places p, ltb-false most_devices many q)

length-sheet : (ms : List (List ℕ)) (ds : List ℕ) → length (sheet_of ms ds) ≡ 9 * length ds
unfolding sheet_of
length-sheet ms [] = refl
length-sheet ms (d ∷ ds) = omega (arith, length-sheet ms ds)

-- it counts the devices, and their rows stand in front
record Accepted (l : List ℕ) (before after : List ℤ) (n : ℕ) : Type 0 where
  counted : n ≡ length (devices_of (fleet_messages l))
  wrote : after ≡ sheet (fleet_messages l) ++ drop (0 + length (sheet (fleet_messages l))) before

accepts : (l : List ℕ) (before after : List ℤ) (r : Result ℕ Refusal) (n : ℕ) → Call l before after r → said r ≡ accepted n → Accepted l before after n
unfolding answer number leaves
accepts l before after r n c e = go (fleet_cause l (length before)) refl (sym e ∙ c.answered)
  where
    go : (cause : ℕ) → cause ≡ fleet_cause l (length before) → accepted n ≡ answer cause (length (devices_of (fleet_messages l))) → Accepted l before after n
    go zero k g =
        let ms = fleet_messages l in
        let b = no_cause l (length before) (sym k) in
        let room : 0 + length (sheet ms) ≤ length before = omega (arith, length-sheet ms (devices_of ms), b.0, b.1) in
        record {
          counted = cc;
          wrote = c.left ∙ ap (λ (a : Answer ℕ). leaves (number a) (sets before 0 (sheet ms)) before) e ∙ sets-eq (sheet ms) before 0 room;
        }
    go (suc m) k g = absurd (omega (arith, ap number g))

-- ---- the rows' devices

device_at_lem : (ms : List (List ℕ)) (ds : List ℕ) (rest : List ℤ) (p : ℕ) → p < length ds → get_or (sheet_of ms ds ++ rest) (9 * p) (pos 0) ≡ pos (get_or ds p 0)
unfolding sheet_of
device_at_lem ms [] rest p h = absurd (omega arith)
device_at_lem ms (d ∷ ds) rest zero h = refl
device_at_lem ms (d ∷ ds) rest (suc p) h =
    ap (λ (k : ℕ). get_or (nine d (row_of ms d) ++ (sheet_of ms ds ++ rest)) k (pos 0)) (nine-more p)
    ∙ get_or-append-add (nine d (row_of ms d)) (sheet_of ms ds ++ rest) (9 * p) (pos 0)
    ∙ device_at_lem ms ds rest p (omega arith)
  where
    nine-more : (p : ℕ) → 9 * suc p ≡ 9 + 9 * p
    nine-more p = omega arith

-- a device of the list has a message
heard_of_lem : (d : ℕ) (ms : List (List ℕ)) → has d (devices_of ms) ≡ true → MessageOf ms d
unfolding devices_of
heard_of_lem d [] h = absurd (true≢false (sym h))
heard_of_lem d (m ∷ ms) h = go (eqb (device_of m) d) refl (λ k. heard_of_lem d ms k)
  where
    go : (t : Bool) → eqb (device_of m) d ≡ t → (has d (devices_of ms) ≡ true → MessageOf ms d) → MessageOf (m ∷ ms) d
    go true e f = record { place = 0; inside = omega arith; device = eqb-true (device_of m) d e }
    go false e f =
        let r = f (ap (λ (t : Bool). t || has d (devices_of ms)) (sym e) ∙ sym (has_insert d (device_of m) (devices_of ms)) ∙ h) in
        record { place = suc r.place; inside = omega (arith, r.inside); device = r.device }

-- and the other way round
in_list : (d : ℕ) (ms : List (List ℕ)) (i : ℕ) → i < length ms → device_of (get_or ms i []) ≡ d → has d (devices_of ms) ≡ true
unfolding devices_of
in_list d [] i h e = absurd (omega arith)
in_list d (m ∷ ms) zero h e = has_insert d (device_of m) (devices_of ms) ∙ ap (λ (t : Bool). t || has d (devices_of ms)) (eq-eqb (device_of m) d e)
in_list d (m ∷ ms) (suc i) h e =
    has_insert d (device_of m) (devices_of ms) ∙ ap (λ (t : Bool). eqb (device_of m) d || t) (in_list d ms i (omega arith) e) ∙ or-true (eqb (device_of m) d)
  where
    or-true : (t : Bool) → t || true ≡ true
    or-true true = refl
    or-true false = refl

record At (d : ℕ) (l : List ℕ) : Type 0 where
  place : ℕ
  inside : place < length l
  is : get_or l place 0 ≡ d

at_some : (d : ℕ) (l : List ℕ) → has d l ≡ true → At d l
at_some d [] h = absurd (true≢false (sym h))
at_some d (x ∷ l) h = go (eqb x d) refl (λ k. at_some d l k)
  where
    go : (t : Bool) → eqb x d ≡ t → (has d l ≡ true → At d l) → At d (x ∷ l)
    go true e f = record { place = 0; inside = omega arith; is = eqb-true x d e }
    go false e f =
        let r = f (ap (λ (t : Bool). t || has d l) (sym e) ∙ h) in
        record { place = suc r.place; inside = omega (arith, r.inside); is = r.is }

pub every-device : EveryDevice
every-device l before after r n c e = record {
  rises = λ p q h k d f a b.
      omega (arith, rising-devices ms p q h (omega (arith, k, w.counted)), is p (omega arith) d a, is q k f b);
  named = λ p h d a.
      heard_of_lem d ms (has_at d ds p (omega (arith, h, w.counted)) (is p h d a));
  heard = λ d m.
      let x = at_some d ds (in_list d ms m.place m.inside m.device) in
      record { row = x.place; inside = omega (arith, x.inside, w.counted); device = at x.place (omega (arith, x.inside, w.counted)) ∙ ap pos x.is };
}
  where
    ms : List (List ℕ)
    ms = fleet_messages l

    ds : List ℕ
    ds = devices_of ms

    w : Accepted l before after n
    w = accepts l before after r n c e

    at : (p : ℕ) → p < n → device_at after p ≡ pos (get_or ds p 0)
    at p h = ap (λ (rows : List ℤ). device_at rows p) w.wrote ∙ device_at_lem ms ds (drop (0 + length (sheet ms)) before) p (omega (arith, h, w.counted))

    is : (p : ℕ) → p < n → (d : ℕ) → device_at after p ≡ pos d → get_or ds p 0 ≡ d
    is p h d a = ap mag (sym (at p h) ∙ a)

-- ---- sums

module _ {A : Type 0} where
  sum_same : (f g : A → ℤ) → ((x : A) → f x ≡ g x) → (l : List A) → sum_of f l ≡ sum_of g l
  unfolding sum_of
  sum_same f g h [] = refl
  sum_same f g h (x ∷ l) = cc (h x, sum_same f g h l)

  sum-plus : (f g : A → ℤ) (l : List A) → sum_of (λ x. f x +ℤ g x) l ≡ sum_of f l +ℤ sum_of g l
  unfolding sum_of
  sum-plus f g [] = refl
  sum-plus f g (x ∷ l) = ap (λ (z : ℤ). f x +ℤ g x +ℤ z) (sum-plus f g l) ∙ four (f x) (g x) (sum_of f l) (sum_of g l)
    where
      four : (a b c d : ℤ) → a +ℤ b +ℤ (c +ℤ d) ≡ a +ℤ c +ℤ (b +ℤ d)
      four a b c d =
          +ℤ_assoc a b (c +ℤ d)
          ∙ ap (λ (z : ℤ). a +ℤ z) (sym (+ℤ_assoc b c d) ∙ ap (λ (z : ℤ). z +ℤ d) (+ℤ_comm b c) ∙ +ℤ_assoc c b d)
          ∙ sym (+ℤ_assoc a c (b +ℤ d))

module _ (f : List ℕ → ℤ) where
  abbrev of_device : List (List ℕ) → ℕ → ℤ
  of_device ms d = sum_of f (those (is_of d) ms)

  one_more : (m : List ℕ) (ms : List (List ℕ)) (d : ℕ) → of_device (m ∷ ms) d ≡ delta (device_of m) (f m) d +ℤ of_device ms d
  unfolding those sum_of
  one_more m ms d = go (eqb (device_of m) d)
    where
      go : (t : Bool) → sum_of f (cond t (m ∷ those (is_of d) ms) (those (is_of d) ms)) ≡ cond t (f m) (pos 0) +ℤ sum_of f (those (is_of d) ms)
      go true = refl
      go false = sym (+ℤ_idl (sum_of f (those (is_of d) ms)))

  -- what is added up device by device is added up over all messages
  pub by_devices : (ms : List (List ℕ)) → sum_of (of_device ms) (devices_of ms) ≡ sum_of f ms
  unfolding devices_of sum_of
  by_devices [] = refl
  by_devices (m ∷ ms) =
      sum_same (of_device (m ∷ ms)) (λ d. delta (device_of m) (f m) d +ℤ of_device ms d) (one_more m ms) (devices_of (m ∷ ms))
      ∙ sum-plus (delta (device_of m) (f m)) (of_device ms) (devices_of (m ∷ ms))
      ∙ ap (λ (z : ℤ). z +ℤ sum_of (of_device ms) (devices_of (m ∷ ms))) (delta-once (device_of m) (f m) (devices_of ms) (rising-devices ms))
      ∙ ap (λ (z : ℤ). f m +ℤ z)
      (sum-insert (device_of m) (of_device ms) (devices_of ms) (rising-devices ms) (λ h. ap (sum_of f) (none_of (device_of m) ms h)) ∙ by_devices ms)

-- number j of the rows of some devices, added up
columns : (ms : List (List ℕ)) (j : ℕ) → j < 9 → (ds : List ℕ) (rest : List ℤ)
    → column (length ds) j (sheet_of ms ds ++ rest) ≡ sum_of (λ d. get_or (nine d (row_of ms d)) j (pos 0)) ds
unfolding column sheet_of sum_of
columns ms j h [] rest = refl
columns ms j h (d ∷ ds) rest = ap₂ ◌+ℤ◌ (get_or-append (nine d (row_of ms d)) (sheet_of ms ds ++ rest) (pos 0) j h) (columns ms j h ds rest)

counted : (ms : List (List ℕ)) → sum_of each ms ≡ pos (length ms)
unfolding sum_of
counted [] = refl
counted (m ∷ ms) = ap (λ (z : ℤ). pos 1 +ℤ z) (counted ms) ∙ ap pos (more (length ms))
  where
    more : (n : ℕ) → 1 + n ≡ suc n
    more n = omega arith

pub every-sum : EverySum
unfolding row_from
every-sum l before after r n c e = record {
  messages = col 1 (omega arith) ∙ by_devices each ms ∙ counted ms;
  one = col 2 (omega arith) ∙ by_devices (has_ranks 1) ms;
  two = col 3 (omega arith) ∙ by_devices (has_ranks 2) ms;
  three = col 4 (omega arith) ∙ by_devices (has_ranks 3) ms;
  halves = col 7 (omega arith) ∙ by_devices halves_of ms;
  count = col 8 (omega arith) ∙ by_devices each ms ∙ counted ms;
}
  where
    ms : List (List ℕ)
    ms = fleet_messages l

    col : (j : ℕ) → j < 9 → column n j after ≡ sum_of (λ d. get_or (nine d (row_of ms d)) j (pos 0)) (devices_of ms)
    col j h =
        let w = accepts l before after r n c e in
        ap₂ (λ (k : ℕ) (rows : List ℤ). column k j rows) w.counted w.wrote ∙ columns ms j h (devices_of ms) (drop (0 + length (sheet ms)) before)

-- ---- another order

module _ {A : Type 0} (op : ℤ → ℤ → ℤ) (assoc : (a b c : ℤ) → op (op a b) c ≡ op a (op b c)) (comm : (a b : ℤ) → op a b ≡ op b a) (f : A → ℤ) where
  swapped : (a b c : ℤ) → op a (op b c) ≡ op b (op a c)
  swapped a b c = sym (assoc a b c) ∙ ap (λ (z : ℤ). op z c) (comm a b) ∙ assoc b a c

  from_move : (w z : ℤ) (l : List A) → op w (over_from op f z l) ≡ over_from op f (op w z) l
  unfolding over_from
  from_move w z [] = refl
  from_move w z (x ∷ l) = swapped w (f x) (over_from op f z l) ∙ ap (op (f x)) (from_move w z l)

  from_perm : (z : ℤ) {a b : List A} → Permᴰ a b → over_from op f z a ≡ over_from op f z b
  unfolding over_from
  from_perm z Permᴰ.nil = refl
  from_perm z (Permᴰ.cons e p) = cc (ap f e, from_perm z p)
  from_perm z (Permᴰ.swap {a} {b} {a'} {b'} {l} e g) = swapped (f a) (f b) (over_from op f z l) ∙ cc (ap f e, ap f g)
  from_perm z (Permᴰ.trans p q) = from_perm z p ∙ from_perm z q

  over_perm : {a b : List A} → Permᴰ a b → over op f a ≡ over op f b
  unfolding over over_from
  over_perm Permᴰ.nil = refl
  over_perm (Permᴰ.cons {a} {b} {l₁} {l₂} e p) = ap (λ (z : ℤ). over_from op f z l₁) (ap f e) ∙ from_perm (f b) p
  over_perm (Permᴰ.swap {a} {b} {a'} {b'} {l} e g) =
      from_move (f b) (f a) l ∙ ap (λ (z : ℤ). over_from op f z l) (comm (f b) (f a)) ∙ sym (from_move (f a) (f b) l) ∙ cc (ap f e, ap f g)
  over_perm (Permᴰ.trans p q) = over_perm p ∙ over_perm q

row_perm : {a b : List (List ℕ)} → Permᴰ a b → row_from a ≡ row_from b
unfolding row_from
row_perm p =
    cc (
      sum_perm each p,
      sum_perm (has_ranks 1) p,
      sum_perm (has_ranks 2) p,
      sum_perm (has_ranks 3) p,
      sum_perm halves_of p,
      over_perm min_z min_assoc min_comm ppm_of p,
      over_perm max_z max_assoc max_comm ppm_of p,
    )

sheet_same : (ms ns : List (List ℕ)) → ((d : ℕ) → row_of ms d ≡ row_of ns d) → (ds : List ℕ) → sheet_of ms ds ≡ sheet_of ns ds
unfolding sheet_of
sheet_same ms ns h [] = refl
sheet_same ms ns h (d ∷ ds) = cc (h d, sheet_same ms ns h ds)

-- the sheet of the messages in another order
pub sheet_perm : {ms ns : List (List ℕ)} → Permᴰ ms ns → sheet ms ≡ sheet ns
sheet_perm {ms} {ns} p = sheet_same ms ns (λ d. row_perm (those_perm (is_of d) p)) (devices_of ms) ∙ ap (sheet_of ns) (devices_perm p)

pub any_order : AnyOrder
unfolding fleet_cause sheet_cause
any_order l k before after after' r r' o c c' =
    let q = those_perm is_message o.records in
    let d : devices_of (fleet_messages l) ≡ devices_of (fleet_messages k) = devices_perm q in
    let s : sheet (fleet_messages l) ≡ sheet (fleet_messages k) = sheet_perm q in
    let u : list_ok l ≡ list_ok k = ok_reordered o in
    let a : said r ≡ said r' = c.answered ∙ cc (o.size, d, u) ∙ sym c'.answered in
    (a, c.left ∙ cc (a, s) ∙ sym c'.left)
