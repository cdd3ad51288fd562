-- Readings rise where each call of `cfo` has one value at most, and then those that go stand in front. Assumes nothing.
use Rattle.std.proofs.Common.{Option}
use mathlib.Core.Path.{◌≡◌, refl, sym, ap, ◌∙◌, subst}
use mathlib.Core.Bool.{Bool, true, false, cond, ◌&&◌}
use mathlib.Core.List.{List, [], ◌∷◌, ◌++◌, map}
use Prim.Native.Nat.{ℕ, zero, suc, ◌^◌, ◌≤◌, ◌<◌}
use native.Mathlib.Nat.{le_of_suc-le-suc}
use native.Mathlib.Omega.{arith}
use borrow.Author.Tests.{leb-true, le-leb}
use lib.Dec.{leb, ltb}
use lib.ListN.{length, take, get_or, length-map}
use lib.Ieee.{Float}
use Rattle.limits.proofs.Samples.{and_left, and_right}
use Rattle.cfo.specs.Cfo.{reading_hz}
use Rattle.frequency_signal.specs.Seconds.{kept, settling}
use Rattle.frequency_signal.specs.Heard.{heard}
use Rattle.std.specs.List.{list_all}
use Rattle.std.proofs.lemmas.List.{map-append}
use Rattle.frequency_lists.specs.declared.Reading.{Reading}
use Rattle.frequency_lists.specs.declared.Tuning.{Tuning}
use Rattle.frequency_lists.specs.Lists.{up_to, ats, last_or, readings_from}
use Rattle.frequency_lists.specs.Marks.{retained}
use Rattle.frequency_lists.proofs.Every.{every_at}
use Rattle.frequency_lists.proofs.Gather.{map-retained, every-retained}
use Rattle.frequency_retain.specs.Retain.{Leads}
use Rattle.frequency.specs.declared.FrequencyTracker.{FrequencyTracker}
use Rattle.frequency.specs.Calls.{SamplesEnd, CfoEnd, TunedEnd, NextEnd, fresh}
use Rattle.frequency.specs.Lent.{Lists, lists, tracker, packed, stored}
use Rattle.frequency.specs.Grown as grown
use Rattle.frequency.specs.Grown.{Grown}
use Rattle.frequency.specs.Tracker as T
use Rattle.frequency.proofs.Grown.{sound, unpack, same}
use Rattle.frequency_grown.specs.Rising.{rises, Single, new, tuned, samples, cfo, next}

-- ---- plain lists

rises-retained : (bs : List Bool) (l : List ℕ) → rises l ≡ true → rises (retained bs l) ≡ true
unfolding rises retained
rises-retained [] l e = refl
rises-retained (b ∷ bs) [] e = refl
rises-retained (true ∷ bs) (x ∷ l) e =
    rw (every-retained (leb x) bs l (and_left (list_all (leb x) l) (rises l) e)) (rises-retained bs l (and_right (list_all (leb x) l) (rises l) e))
rises-retained (false ∷ bs) (x ∷ l) e = rises-retained bs l (and_right (list_all (leb x) l) (rises l) e)

every_last : (p : ℕ → Bool) (l : List ℕ) (a : ℕ) → list_all p l ≡ true → p a ≡ true → list_all p (l ++ (a ∷ [])) ≡ true
every_last p [] a e h = rw h refl
every_last p (x ∷ l) a e h = rw (and_left (p x) (list_all p l) e) (every_last p l a (and_right (p x) (list_all p l) e) h)

rises_last : (l : List ℕ) (a : ℕ) → up_to a l ≡ true → rises l ≡ true → rises (l ++ (a ∷ [])) ≡ true
unfolding rises
rises_last [] a u e = refl
rises_last (x ∷ l) a u e =
    rw (every_last (leb x) l a (and_left (list_all (leb x) l) (rises l) e) (and_left (leb x a) (up_to a l) u)) (rises_last l a (and_right (leb x a) (up_to a l) u) (and_right (list_all (leb x) l) (rises l) e))

up_to_more : (m n : ℕ) (l : List ℕ) → m ≤ n → up_to m l ≡ true → up_to n l ≡ true
up_to_more m n [] h e = refl
up_to_more m n (x ∷ l) h e =
    let k = leb-true x m (and_left (leb x m) (up_to m l) e) in
    rw (le-leb x n (omega arith)) (up_to_more m n l h (and_right (leb x m) (up_to m l) e))

rises_at : (l : List ℕ) → rises l ≡ true → (i j : ℕ) → i ≤ j → j < length l → get_or l i 0 ≤ get_or l j 0
unfolding rises
rises_at [] e i j h k = absurd (omega arith)
rises_at (x ∷ l) e zero zero h k = omega arith
rises_at (x ∷ l) e zero (suc j) h k = leb-true x (get_or l j 0) (every_at (leb x) l 0 (and_left (list_all (leb x) l) (rises l) e) j (le_of_suc-le-suc k))
rises_at (x ∷ l) e (suc i) zero h k = absurd (omega arith)
rises_at (x ∷ l) e (suc i) (suc j) h k = rises_at l (and_right (list_all (leb x) l) (rises l) e) i j (le_of_suc-le-suc h) (le_of_suc-le-suc k)

-- those in front of the first that isn't before low are all that are
pub front-leads : (low lead : ℕ) (l : List Reading) → rises (ats l) ≡ true
    → (lead ≤ length l) × ((i : ℕ) → i < lead → leb low (get_or (ats l) i 0) ≡ false) × (lead < length l → leb low (get_or (ats l) lead 0) ≡ true) → Leads low lead (ats l)
front-leads low lead l e f =
    let n = length-map l (λ (x : Reading). x.at) in
    record {
      leads = omega (arith, f.0);
      gone = f.1;
      stay = λ i a b.
          let z = rises_at (ats l) e lead i a b in
          let w = leb-true low (get_or (ats l) lead 0) (f.2 (omega arith)) in
          le-leb low (get_or (ats l) i 0) (omega arith);
    }

-- ---- the tracker's calls

-- the readings rise, and none is past the start of the last line
record Risen (u : T.Tracker) : Type 0 where
  pub rise : rises (map (λ (x : Reading). x.at) u.readings) ≡ true
  pub upto : up_to u.line (map (λ (x : Reading). x.at) u.readings) ≡ true

risen-tuned : (u : T.Tracker) (f : ℕ) → Risen u → Risen (T.tuned u f)
unfolding T.tuned
risen-tuned u f r = record { rise = r.rise; upto = r.upto }

risen-next : (u : T.Tracker) → Risen u → Risen (T.after_tuning u)
unfolding T.after_tuning
risen-next u r = record { rise = r.rise; upto = r.upto }

risen-samples : (u : T.Tracker) (dbm : List Float) → u.line ≤ u.signal.n → Risen u → Risen (T.samples u dbm)
unfolding T.samples
risen-samples u dbm h r =
    let bs = map (kept u.rate (heard u.rate u.signal dbm).n) (map (λ (x : Reading). x.at) u.readings) in
    let e = map-retained (λ (x : Reading). x.at) bs u.readings in
    record {
      rise = subst (λ (z : List ℕ). rises z ≡ true) (sym e) (rises-retained bs (map (λ (x : Reading). x.at) u.readings) r.rise);
      upto = subst (λ (z : List ℕ). up_to u.signal.n z ≡ true) (sym e)
          (every-retained (λ (a : ℕ). leb a u.signal.n) bs (map (λ (x : Reading). x.at) u.readings) (up_to_more u.line u.signal.n (map (λ (x : Reading). x.at) u.readings) h r.upto));
    }

-- one reading more, at the line's start, or none
append_none : (l : List ℕ) → l ++ [] ≡ l
append_none [] = refl
append_none (x ∷ l) = ap (λ (z : List ℕ). x ∷ z) (append_none l)

added : (rs : List Reading) (b : Bool) (x : Reading) → rises (map (λ (y : Reading). y.at) rs) ≡ true → up_to x.at (map (λ (y : Reading). y.at) rs) ≡ true
    → (rises (map (λ (y : Reading). y.at) (rs ++ cond b [] (x ∷ []))) ≡ true) × (up_to x.at (map (λ (y : Reading). y.at) (rs ++ cond b [] (x ∷ []))) ≡ true)
added rs true x r u =
    let m = map-append (λ (y : Reading). y.at) rs [] ∙ append_none (map (λ (y : Reading). y.at) rs) in
    (subst (λ (z : List ℕ). rises z ≡ true) (sym m) r, subst (λ (z : List ℕ). up_to x.at z ≡ true) (sym m) u)
added rs false x r u =
    let m = map-append (λ (y : Reading). y.at) rs (x ∷ []) in (
      subst (λ (z : List ℕ). rises z ≡ true) (sym m) (rises_last (map (λ (y : Reading). y.at) rs) x.at u r),
      subst (λ (z : List ℕ). up_to x.at z ≡ true) (sym m) (every_last (λ (a : ℕ). leb a x.at) (map (λ (y : Reading). y.at) rs) x.at u (le-leb x.at x.at (omega arith))),
    )

unchanged : (rs : List Reading) → rs ++ [] ≡ rs
unchanged [] = refl
unchanged (x ∷ rs) = ap (λ (z : List Reading). x ∷ z) (unchanged rs)

risen-cfo : (u : T.Tracker) (raw : List ℕ) → length raw ≤ 1 → Risen u → Risen (T.cfo u raw)
unfolding T.cfo readings_from T.freq_of
risen-cfo u [] h r =
    let e = unchanged u.readings in
    record {
      rise = subst (λ (z : List Reading). rises (map (λ (y : Reading). y.at) z) ≡ true) (sym e) r.rise;
      upto = subst (λ (z : List Reading). up_to u.line (map (λ (y : Reading). y.at) z) ≡ true) (sym e) r.upto;
    }
risen-cfo u (v ∷ []) h r =
    let b = settling u.rate (last_or 0 (map (λ (x : Tuning). x.at) u.tunings)) u.line && ltb 1 (length u.tunings) in
    let x : Reading = record { at = u.line; lo = T.freq_of u; hz = reading_hz (T.freq_of u) v u.step } in
    let a = added u.readings b x r.rise r.upto in
    record { rise = a.0; upto = a.1 }
risen-cfo u (v ∷ w ∷ raw) h r = absurd (omega arith)

-- ---- a tracker with one value a call

pub single-grown : {s : FrequencyTracker} {l : Lists} → Single s l → Grown s l
single-grown (new rate base step l b e) = grown.new rate base step l b e
single-grown (tuned f ts h g c) = grown.tuned f ts h (single-grown g) c
single-grown (samples dbm g c) = grown.samples dbm (single-grown g) c
single-grown (cfo raw h g c) = grown.cfo raw (single-grown g) c
single-grown (next out out' tune g c) = grown.next out out' tune (single-grown g) c

stands : (u : T.Tracker) (l : Lists) (t : FrequencyTracker) (m : Lists) → t ≡ packed u → m ≡ stored u l → tracker t m ≡ u
stands u l t m e f = ap (λ (x : FrequencyTracker). tracker x m) e ∙ ap (tracker (packed u)) f ∙ unpack u l

line-upto : (s : FrequencyTracker) (l : Lists) → Grown s l → (tracker s l).line ≤ (tracker s l).signal.n
line-upto s l g = (sound g).good.signals.upto

risen_new : (rate base : ℕ) (step : Float) (l : Lists) → Risen (tracker (fresh rate base step) l)
unfolding tracker rises
risen_new rate base step l = record { rise = refl; upto = refl }

risen : {s : FrequencyTracker} {l : Lists} → Single s l → Risen (tracker s l)
risen (new rate base step l b e) = risen_new rate base step l
risen (tuned {s} {t} {l} f ts h g c) =
    let o = (sound (single-grown g)).counts.readings in
    subst Risen (sym (stands (T.tuned (tracker s l) f) l t (lists l.readings ts) (c.state refl l.readings o) (c.lent refl l.readings o))) (risen-tuned (tracker s l) f (risen g))
risen (samples {s} {t} {l} {m} dbm g c) =
    subst Risen (sym (stands (T.samples (tracker s l) dbm) l t m (c.state refl) (c.lists refl))) (risen-samples (tracker s l) dbm (line-upto s l (single-grown g)) (risen g))
risen (cfo {s} {t} {l} {m} raw h g c) = subst Risen (sym (stands (T.cfo (tracker s l) raw) l t m (c.state refl) (c.lists refl))) (risen-cfo (tracker s l) raw h (risen g))
risen (next {s} {t} {l} out out' tune g c) =
    let o = (sound (single-grown g)).counts in
    subst Risen (sym (ap (λ (x : FrequencyTracker). tracker x l) (c.state refl) ∙ same s l o)) (risen-next (tracker s l) (risen g))

pub single-rises : {s : FrequencyTracker} {l : Lists} → Single s l → rises (ats (take s.readings l.readings)) ≡ true
unfolding tracker
single-rises g = (risen g).rise

-- ---- and after a call, accepted or refused
pub after_samples : {s t : FrequencyTracker} {l m : Lists} (dbm : List Float) (r : ℕ) → Single s l → SamplesEnd s dbm l r t m → Single t m
after_samples dbm zero g c = samples dbm g c
after_samples {s} {t} {l} {m} dbm (suc r) g c =
    subst (λ (x : FrequencyTracker). Single x m) (sym (c.same_state (λ e. omega arith))) (subst (λ (x : Lists). Single s x) (sym (c.same_lists (λ e. omega arith))) g)

pub after_cfo : {s t : FrequencyTracker} {l m : Lists} (raw : List ℕ) (r : ℕ) → length raw ≤ 1 → Single s l → CfoEnd s raw l r t m → Single t m
after_cfo raw zero h g c = cfo raw h g c
after_cfo {s} {t} {l} {m} raw (suc r) h g c =
    subst (λ (x : FrequencyTracker). Single x m) (sym (c.same_state (λ e. omega arith))) (subst (λ (x : Lists). Single s x) (sym (c.same_lists (λ e. omega arith))) g)

pub after_next : {s t : FrequencyTracker} {l : Lists} (out out' : List Float) (tune : (Option ℕ)) (r : ℕ) → Single s l → NextEnd s l out r t tune out' → Single t l
after_next out out' tune zero g c = next out out' tune g c
after_next {l = l} out out' tune (suc r) g c = subst (λ (x : FrequencyTracker). Single x l) (sym (c.same_state (λ e. omega arith))) g

pub after_tuned : {s t : FrequencyTracker} (rs : List Reading) (ts ts' : List Tuning) (f r : ℕ) → f < 2 ^ 32 → Single s (lists rs ts) → TunedEnd s f ts r t ts' → Single t (lists rs ts')
after_tuned rs ts ts' f zero h g c = tuned f ts' h g c
after_tuned {s} {t} rs ts ts' f (suc r) h g c =
    subst (λ (x : FrequencyTracker). Single x (lists rs ts')) (sym (c.same_state (λ e. omega arith)))
    (subst (λ (x : List Tuning). Single s (lists rs x)) (sym (c.same_lent (λ e. omega arith))) g)
