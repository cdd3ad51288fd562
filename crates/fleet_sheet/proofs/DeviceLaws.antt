-- The devices that have a message: a rising list, whatever the order of the messages. Assumes nothing.
use Rattle.std.proofs.Common.{◌≡◌, ℕ, zero, suc, ◌<◌, ◌≤◌, Bool, true, false, cond, ◌&&◌, ◌||◌, eqb, ltb, List, [], ◌∷◌, ◌++◌, length, get_or, take, drop, ℤ, pos, ◌+ℤ◌, sym, refl, ap, ◌∙◌, subst, true≢false, arith, ltb-false, ltb-true, le-ltb, lt-ltb, eq-eqb, ne_eqb}
use mathlib.Core.List.{Permᴰ}
use lib.Dec.{leb-suc-suc}
use Rattle.record.specs.Readers.{device_of}
use lib.IntN.{+ℤ_idl, +ℤ_idr}
use Rattle.event_list.specs.Sums.{those, sum_of}
use Rattle.fleet_sheet.specs.Fleet.{is_of, insert, devices_of}
use Rattle.fleet_sheet.specs.Table.{place_of, Rising, is_there}

-- ---- three cases

pub three : {X : Type 0} (a b : ℕ) → (a < b → X) → (a ≡ b → X) → (b < a → X) → X
three {X = X} a b f g h = go (ltb a b) refl (ltb b a) refl
  where
    go : (s : Bool) → ltb a b ≡ s → (t : Bool) → ltb b a ≡ t → X
    go true p t q = f (ltb-true a b p)
    go false p true q = h (ltb-true b a q)
    go false p false q = let u = ltb-false a b p in let v = ltb-false b a q in g (omega arith)

module _ (d x : ℕ) (l : List ℕ) where
  insert_before : d < x → insert d (x ∷ l) ≡ d ∷ x ∷ l
  unfolding insert
  insert_before h = rw (lt-ltb d x h) refl

  insert_same : d ≡ x → insert d (x ∷ l) ≡ x ∷ l
  unfolding insert
  insert_same e = rw (le-ltb d x (omega arith), eq-eqb d x e) refl

  insert-later : x < d → insert d (x ∷ l) ≡ x ∷ insert d l
  unfolding insert
  insert-later h = rw (le-ltb d x (omega arith), ne_eqb d x (λ e. omega arith)) refl

insert_none : (d : ℕ) → insert d [] ≡ d ∷ []
unfolding insert
insert_none d = refl

-- ---- the order of two insertions

insert-pair : (a b : ℕ) → a < b → (l : List ℕ) → insert a (insert b l) ≡ insert b (insert a l)
insert-pair a b h [] =
    ap (insert a) (insert_none b) ∙ insert_before a b [] h
    ∙ sym (ap (insert b) (insert_none a) ∙ insert-later b a [] h ∙ ap (λ (l : List ℕ). a ∷ l) (insert_none b))
insert-pair a b h (x ∷ l) =
    three b x
    (λ u. ap (insert a) (insert_before b x l u) ∙ insert_before a b (x ∷ l) h
    ∙ sym (ap (insert b) (insert_before a x l (omega arith)) ∙ insert-later b a (x ∷ l) h ∙ ap (λ (m : List ℕ). a ∷ m) (insert_before b x l u)))
    (λ u. ap (insert a) (insert_same b x l u) ∙ insert_before a x l (omega arith)
    ∙ sym (ap (insert b) (insert_before a x l (omega arith)) ∙ insert-later b a (x ∷ l) h ∙ ap (λ (m : List ℕ). a ∷ m) (insert_same b x l u)))
    (λ u. ap (insert a) (insert-later b x l u) ∙
    three a x
    (λ v. insert_before a x (insert b l) v
    ∙ sym (ap (insert b) (insert_before a x l v) ∙ insert-later b a (x ∷ l) h ∙ ap (λ (m : List ℕ). a ∷ m) (insert-later b x l u)))
    (λ v. insert_same a x (insert b l) v ∙ sym (ap (insert b) (insert_same a x l v) ∙ insert-later b x l u))
    (λ v. insert-later a x (insert b l) v ∙ ap (λ (m : List ℕ). x ∷ m) (insert-pair a b h l)
    ∙ sym (ap (insert b) (insert-later a x l v) ∙ insert-later b x (insert a l) u)))

pub insert_comm : (a b : ℕ) (l : List ℕ) → insert a (insert b l) ≡ insert b (insert a l)
insert_comm a b l = three a b (λ h. insert-pair a b h l) (λ e. ap (λ (j : ℕ). insert j (insert b l)) e ∙ ap (λ (j : ℕ). insert b (insert j l)) (sym e)) (λ h. sym (insert-pair b a h l))

-- ---- one message more, and another order

pub devices_more : (ms : List (List ℕ)) (m : List ℕ) → devices_of (ms ++ (m ∷ [])) ≡ insert (device_of m) (devices_of ms)
unfolding devices_of
devices_more [] m = refl
devices_more (x ∷ ms) m = ap (insert (device_of x)) (devices_more ms m) ∙ insert_comm (device_of x) (device_of m) (devices_of ms)

pub devices_perm : {a b : List (List ℕ)} → Permᴰ a b → devices_of a ≡ devices_of b
unfolding devices_of
devices_perm Permᴰ.nil = refl
devices_perm (Permᴰ.cons e p) = cc (ap device_of e, devices_perm p)
devices_perm (Permᴰ.swap {a} {b} {a'} {b'} {l} e g) = insert_comm (device_of a) (device_of b) (devices_of l) ∙ cc (ap device_of e, ap device_of g)
devices_perm (Permᴰ.trans p q) = devices_perm p ∙ devices_perm q

-- ---- rising

abbrev Above : ℕ → List ℕ → Type 0
Above x l = (j : ℕ) → j < length l → x < get_or l j 0

rising-cons : (x : ℕ) (l : List ℕ) → Above x l → Rising l → Rising (x ∷ l)
rising-cons x l a r zero zero h b = absurd (omega arith)
rising-cons x l a r (suc i) zero h b = absurd (omega arith)
rising-cons x l a r zero (suc j) h b = a j (omega arith)
rising-cons x l a r (suc i) (suc j) h b = r i j (omega arith) (omega arith)

rising-tail : (x : ℕ) (l : List ℕ) → Rising (x ∷ l) → Rising l
rising-tail x l r i j h b = r (suc i) (suc j) (omega arith) (omega arith)

rising-above : (x : ℕ) (l : List ℕ) → Rising (x ∷ l) → Above x l
rising-above x l r j b = r 0 (suc j) (omega arith) (omega arith)

above-cons : (d x : ℕ) (l : List ℕ) → d < x → Above d l → Above d (x ∷ l)
above-cons d x l h a zero b = h
above-cons d x l h a (suc j) b = a j (omega arith)

above_less : (d x : ℕ) (l : List ℕ) → d < x → Above x l → Above d l
above_less d x l h a j b = let u = a j b in omega arith

above-tail : (d x : ℕ) (l : List ℕ) → Above d (x ∷ l) → Above d l
above-tail d x l a j b = a (suc j) (omega arith)

above-insert : (x d : ℕ) (l : List ℕ) → x < d → Above x l → Above x (insert d l)
above-insert x d [] h a = subst (Above x) (sym (insert_none d)) (above-cons x d [] h a)
above-insert x d (y ∷ l) h a =
    three d y
    (λ u. subst (Above x) (sym (insert_before d y l u)) (above-cons x d (y ∷ l) h a))
    (λ u. subst (Above x) (sym (insert_same d y l u)) a)
    (λ u. subst (Above x) (sym (insert-later d y l u)) (above-cons x y (insert d l) (a 0 (omega arith)) (above-insert x d l h (above-tail x y l a))))

rising-insert : (d : ℕ) (l : List ℕ) → Rising l → Rising (insert d l)
rising-insert d [] r = subst Rising (sym (insert_none d)) (rising-cons d [] (λ j b. absurd (omega arith)) r)
rising-insert d (x ∷ l) r =
    three d x
    (λ u. subst Rising (sym (insert_before d x l u)) (rising-cons d (x ∷ l) (above-cons d x l u (above_less d x l u (rising-above x l r))) r))
    (λ u. subst Rising (sym (insert_same d x l u)) r)
    (λ u. subst Rising (sym (insert-later d x l u)) (rising-cons x (insert d l) (above-insert x d l u (rising-above x l r)) (rising-insert d l (rising-tail x l r))))

-- "in rising device number"
pub rising-devices : (ms : List (List ℕ)) → Rising (devices_of ms)
unfolding devices_of
rising-devices [] = λ i j h b. absurd (omega arith)
rising-devices (m ∷ ms) = rising-insert (device_of m) (devices_of ms) (rising-devices ms)

-- ---- who is there

abbrev pub has : ℕ → List ℕ → Bool
has d [] = false
has d (x ∷ l) = eqb x d || has d l

or_false : (a b : Bool) → a || b ≡ false → (a ≡ false) × (b ≡ false)
or_false true b e = absurd (true≢false e)
or_false false b e = (refl, e)

pub has_insert : (e d : ℕ) (l : List ℕ) → has e (insert d l) ≡ eqb d e || has e l
has_insert e d [] = ap (has e) (insert_none d)
has_insert e d (x ∷ l) =
    three d x
    (λ u. ap (has e) (insert_before d x l u))
    (λ u. ap (has e) (insert_same d x l u) ∙ ap (λ (j : ℕ). eqb j e || has e l) (sym u) ∙ twice (eqb d e) (has e l) ∙ ap (λ (j : ℕ). eqb d e || (eqb j e || has e l)) u)
    (λ u. ap (has e) (insert-later d x l u) ∙ ap (λ (t : Bool). eqb x e || t) (has_insert e d l) ∙ swap (eqb x e) (eqb d e) (has e l))
  where
    twice : (a b : Bool) → a || b ≡ a || (a || b)
    twice true b = refl
    twice false b = refl

    swap : (a b c : Bool) → a || (b || c) ≡ b || (a || c)
    swap true true c = refl
    swap true false c = refl
    swap false true c = refl
    swap false false c = refl

-- a device without a message
pub none_of : (d : ℕ) (ms : List (List ℕ)) → has d (devices_of ms) ≡ false → those (is_of d) ms ≡ []
unfolding devices_of those
none_of d [] h = refl
none_of d (m ∷ ms) h =
    let e = or_false (eqb (device_of m) d) (has d (devices_of ms)) (sym (has_insert d (device_of m) (devices_of ms)) ∙ h) in
    rw e.0 (none_of d ms e.1)

-- and one with a message
pub record Some (l : List (List ℕ)) : Type 0 where
  pub first : List ℕ
  pub rest : List (List ℕ)
  pub is : l ≡ first ∷ rest

pub some_of : (d : ℕ) (ms : List (List ℕ)) → has d (devices_of ms) ≡ true → Some (those (is_of d) ms)
unfolding devices_of those
some_of d [] h = absurd (true≢false (sym h))
some_of d (m ∷ ms) h = go (eqb (device_of m) d) refl (λ k. some_of d ms k)
  where
    go : (t : Bool) → eqb (device_of m) d ≡ t → (has d (devices_of ms) ≡ true → Some (those (is_of d) ms)) → Some (cond (eqb (device_of m) d) (m ∷ those (is_of d) ms) (those (is_of d) ms))
    go true e f = record { first = m; rest = those (is_of d) ms; is = rw e refl }
    go false e f = rw e (f (ap (λ (t : Bool). t || has d (devices_of ms)) (sym e) ∙ sym (has_insert d (device_of m) (devices_of ms)) ∙ h))

-- ---- where the code looks

has_above : (d : ℕ) (l : List ℕ) → Above d l → has d l ≡ false
has_above d [] a = refl
has_above d (x ∷ l) a =
    let h = a 0 (omega arith) in
    rw (ne_eqb x d (λ e. omega arith)) (has_above d l (above-tail d x l a))

-- in a rising list a number is there just where it stands at its place
pub there_is : (d : ℕ) (l : List ℕ) → Rising l → is_there d (place_of d l) (length l) l ≡ has d l
unfolding place_of
there_is d [] r = refl
there_is d (x ∷ l) r =
    three x d
    (λ u. rw (lt-ltb x d u, ne_eqb x d (λ e. omega arith)) (ap (λ (t : Bool). t && eqb (get_or l (place_of d l) 0) d) (leb-suc-suc (suc (place_of d l)) (length l)) ∙ there_is d l (rising-tail x l r)))
    (λ u. rw (le-ltb x d (omega arith), eq-eqb x d u) (first (length l)))
    (λ u. rw (le-ltb x d (omega arith), ne_eqb x d (λ e. omega arith)) (none (ltb 0 (suc (length l))) ∙ sym (has_above d l (above_less d x l u (rising-above x l r)))))
  where
    first : (n : ℕ) → ltb 0 (suc n) && true ≡ true || has d l
    first n = rw (lt-ltb 0 (suc n) (omega arith)) refl

    none : (t : Bool) → t && false ≡ false
    none true = refl
    none false = refl

-- an insertion is at the place, or changes nothing
pub insert_at : (d : ℕ) (l : List ℕ) → insert d l ≡ cond (is_there d (place_of d l) (length l) l) l (take (place_of d l) l ++ (d ∷ drop (place_of d l) l))
unfolding place_of
insert_at d [] = insert_none d
insert_at d (x ∷ l) =
    three x d
    (λ u. insert-later d x l u ∙ ap (λ (m : List ℕ). x ∷ m) (insert_at d l)
    ∙ rw (lt-ltb x d u) (inside (place_of d l) (is_there d (place_of d l) (length l) l) (sym (ap (λ (t : Bool). t && eqb (get_or l (place_of d l) 0) d) (leb-suc-suc (suc (place_of d l)) (length l))))))
    (λ u. insert_same d x l (sym u) ∙ rw (le-ltb x d (omega arith), eq-eqb x d u, lt-ltb 0 (suc (length l)) (omega arith)) refl)
    (λ u. insert_before d x l u ∙ rw (le-ltb x d (omega arith), ne_eqb x d (λ e. omega arith), lt-ltb 0 (suc (length l)) (omega arith)) refl)
  where
    inside : (p : ℕ) (t : Bool) {s : Bool} → t ≡ s → x ∷ cond t l (take p l ++ (d ∷ drop p l)) ≡ cond s (x ∷ l) (x ∷ (take p l ++ (d ∷ drop p l)))
    inside p true e = rw (← e) refl
    inside p false e = rw (← e) refl

pub has_at : (d : ℕ) (l : List ℕ) (j : ℕ) → j < length l → get_or l j 0 ≡ d → has d l ≡ true
has_at d [] j b e = absurd (omega arith)
has_at d (x ∷ l) zero b e = rw (eq-eqb x d e) refl
has_at d (x ∷ l) (suc j) b e = rw (has_at d l j (omega arith) e) (or-true (eqb x d))
  where
    or-true : (t : Bool) → t || true ≡ true
    or-true true = refl
    or-true false = refl

pub place-le : (d : ℕ) (l : List ℕ) → place_of d l ≤ length l
unfolding place_of
place-le d [] = omega arith
place-le d (x ∷ l) = go (ltb x d) (place-le d l)
  where
    go : (t : Bool) → place_of d l ≤ length l → cond t (suc (place_of d l)) 0 ≤ length (x ∷ l)
    go true h = omega arith
    go false h = omega arith

pub insert-le : (d : ℕ) (l : List ℕ) → length l ≤ length (insert d l)
insert-le d [] = omega arith
insert-le d (x ∷ l) =
    three d x (λ u. omega (arith, ap length (insert_before d x l u))) (λ u. omega (arith, ap length (insert_same d x l u)))
    (λ u. omega (arith, ap length (insert-later d x l u), insert-le d l))

-- ---- sums over the devices

abbrev pub delta : ℕ → ℤ → ℕ → ℤ
delta d z e = cond (eqb d e) z (pos 0)

delta_none : (d : ℕ) (z : ℤ) (l : List ℕ) → Above d l → sum_of (delta d z) l ≡ pos 0
unfolding sum_of
delta_none d z [] a = refl
delta_none d z (x ∷ l) a = let h = a 0 (omega arith) in rw (ne_eqb d x (λ e. omega arith)) (+ℤ_idl (sum_of (delta d z) l) ∙ delta_none d z l (above-tail d x l a))

-- a device is in its list once
pub delta-once : (d : ℕ) (z : ℤ) (l : List ℕ) → Rising l → sum_of (delta d z) (insert d l) ≡ z
unfolding sum_of
delta-once d z [] r = ap (sum_of (delta d z)) (insert_none d) ∙ rw (eq-eqb d d refl) (+ℤ_idr z)
delta-once d z (x ∷ l) r =
    three d x
    (λ u. ap (sum_of (delta d z)) (insert_before d x l u)
    ∙ rw (eq-eqb d d refl) (ap (λ (y : ℤ). z +ℤ y) (delta_none d z (x ∷ l) (above-cons d x l u (above_less d x l u (rising-above x l r)))) ∙ +ℤ_idr z))
    (λ u. ap (sum_of (delta d z)) (insert_same d x l u)
    ∙ rw (eq-eqb d x u) (ap (λ (y : ℤ). z +ℤ y) (delta_none d z l (subst (λ (j : ℕ). Above j l) (sym u) (rising-above x l r))) ∙ +ℤ_idr z))
    (λ u. ap (sum_of (delta d z)) (insert-later d x l u)
    ∙ rw (ne_eqb d x (λ e. omega arith)) (+ℤ_idl (sum_of (delta d z) (insert d l)) ∙ delta-once d z l (rising-tail x l r)))

-- a device that adds nothing
pub sum-insert : (d : ℕ) (g : ℕ → ℤ) (l : List ℕ) → Rising l → (has d l ≡ false → g d ≡ pos 0) → sum_of g (insert d l) ≡ sum_of g l
unfolding sum_of
sum-insert d g [] r h = ap (sum_of g) (insert_none d) ∙ ap (λ (y : ℤ). y +ℤ pos 0) (h refl)
sum-insert d g (x ∷ l) r h =
    three d x
    (λ u. ap (sum_of g) (insert_before d x l u)
    ∙ ap (λ (y : ℤ). y +ℤ (g x +ℤ sum_of g l)) (h (has_above d (x ∷ l) (above-cons d x l u (above_less d x l u (rising-above x l r))))) ∙ +ℤ_idl (g x +ℤ sum_of g l))
    (λ u. ap (sum_of g) (insert_same d x l u))
    (λ u. ap (sum_of g) (insert-later d x l u)
    ∙ ap (λ (y : ℤ). g x +ℤ y) (sum-insert d g l (rising-tail x l r) (λ e. h (rw (ne_eqb x d (λ q. omega arith)) e))))
