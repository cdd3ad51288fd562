-- What a tracker grown from `new` always has, on the record with its lists: each call keeps it. Assumes nothing.
use mathlib.Core.Path.{◌≡◌, refl, sym, ap, ◌∙◌, subst}
use mathlib.Core.Bool.{Bool, true, false, not, cond, ◌&&◌}
use mathlib.Core.List.{List, [], ◌∷◌, ◌++◌, map}
use Prim.Native.Nat.{ℕ, ◌+◌, ◌*◌, ◌^◌, ◌≤◌, ◌<◌}
use native.Mathlib.Omega.{arith}
use borrow.Author.Tests.{leb-true, le-leb}
use lib.Dec.{T, leb, ltb}
use lib.ListN.{length}
use lib.Ieee.{Float, nan, inf, fin, lt, le, eq, is_nan, round, of_int}
use lib.Ieee.Scale.{finite}
use Rattle.limits.specs.Limits.{most_readings, longest_stream}
use Rattle.limits.specs.Samples.{rate_ok, all_dbm}
use Rattle.limits.proofs.Samples.{and_left, and_right}
use Rattle.cfo.specs.Cfo.{reading_hz}
use Rattle.cfo.proofs.Numbers.{reading-number}
use Rattle.frequency_signal.specs.Seconds.{kept, settling}
use Rattle.frequency_signal.specs.Heard.{heard}
use Rattle.frequency_signal.proofs.Hearing.{heard-n}
use Rattle.frequency_signal.specs.Order.{floor_ok}
use Rattle.frequency_signal.proofs.Kept.{heard_last, heard_from}
use Rattle.frequency_signal.proofs.Ranges.{heard-floor}
use Rattle.std.specs.List.{list_all}
use Rattle.std.proofs.lemmas.List.Folds.{list_all-append}
use Rattle.frequency_lists.specs.declared.Reading.{Reading}
use Rattle.frequency_lists.specs.declared.Tuning.{Tuning}
use Rattle.frequency_lists.specs.Lists.{cfo_every, read_up_to, tuned_up_to, all_numbers, last_or, readings_from}
use Rattle.frequency_lists.specs.Marks.{retained}
use Rattle.frequency_lists.proofs.Every.{last_small}
use Rattle.frequency_lists.proofs.Gather.{every-retained}
use Rattle.frequency_retain.specs.Retain.{stays}
use Rattle.frequency_tuning.specs.Ranges.{step_ok}
use Rattle.frequency.specs.Order.{ahead}
use Rattle.frequency.specs.Tracker.{Tracker, freq_of, due, tuned, samples, cfo, after_tuning}
use Rattle.frequency.proofs.Ordered.{Signals, rate_of}

pub record Good (u : Tracker) : Type 0 where
  pub rates : rate_ok u.rate ≡ true
  pub steps : step_ok u.step ≡ true
  pub base : u.base ≤ 2 ^ 32
  pub signals : Signals u.line u.signal
  pub floors : floor_ok u.signal.floor ≡ true
  pub tuneds : tuned_up_to u.signal.n u.tunings ≡ true
  pub freqs : list_all (λ (x : Tuning). leb x.freq (2 ^ 32)) u.tunings ≡ true
  pub ats : read_up_to (u.signal.n + ahead) u.readings ≡ true
  pub numbers : all_numbers u.readings ≡ true

-- ---- tests of each element
module _ {A : Type 0} (p : A → Bool) where
  all_append : (l m : List A) → list_all p l ≡ true → list_all p m ≡ true → list_all p (l ++ m) ≡ true
  all_append l m a b = list_all-append p l m ∙ rw (a, b) refl

  all_cond : (b : Bool) (l : List A) (x : A) → list_all p l ≡ true → p x ≡ true → list_all p (cond b (l ++ (x ∷ [])) l) ≡ true
  all_cond true l x e h = all_append l (x ∷ []) e (rw h refl)
  all_cond false l x e h = e

  all_but : (b : Bool) (x : A) (rest : List A) → p x ≡ true → list_all p rest ≡ true → list_all p (cond b rest (x ∷ rest)) ≡ true
  all_but true x rest h e = e
  all_but false x rest h e = rw h e

  all_more : (q : A → Bool) (l : List A) → ((x : A) → p x ≡ true → q x ≡ true) → list_all p l ≡ true → list_all q l ≡ true
  all_more q [] f e = refl
  all_more q (x ∷ l) f e = rw (f x (and_left (p x) (list_all p l) e)) (all_more q l f (and_right (p x) (list_all p l) e))

pub up_to_more : {A : Type 0} (g : A → ℕ) (m n : ℕ) (l : List A) → m ≤ n → list_all (λ (x : A). leb (g x) m) l ≡ true → list_all (λ (x : A). leb (g x) n) l ≡ true
up_to_more {A} g m n l h e = all_more (λ (x : A). leb (g x) m) (λ (x : A). leb (g x) n) l (λ x k. let z = leb-true (g x) m k in le-leb (g x) n (omega arith)) e

-- ---- tuned
pub good-tuned : (u : Tracker) (f : ℕ) → f < 2 ^ 32 → Good u → Good (tuned u f)
unfolding tuned
good-tuned u f h g =
    let x : Tuning = record { at = u.signal.n; freq = f } in
    record {
      rates = g.rates;
      steps = g.steps;
      base = g.base;
      signals = g.signals;
      floors = g.floors;
      tuneds = all_cond (λ (x : Tuning). leb x.at u.signal.n) (due u f) u.tunings x g.tuneds (le-leb u.signal.n u.signal.n (omega arith));
      freqs = all_cond (λ (x : Tuning). leb x.freq (2 ^ 32)) (due u f) u.tunings x g.freqs (le-leb f (2 ^ 32) (omega arith));
      ats = g.ats;
      numbers = g.numbers;
    }

-- ---- samples
pub good-samples : (u : Tracker) (dbm : List Float) → u.signal.n + length dbm ≤ longest_stream → all_dbm dbm ≡ true → Good u → Good (samples u dbm)
unfolding samples
good-samples u dbm h v g =
    let e = heard-n u.rate u.signal dbm in
    let r = rate_of u.rate g.rates in
    let n = (heard u.rate u.signal dbm).n in
    let stay = stays u.rate n (map (λ (x : Tuning). x.at) u.tunings) in
    let keep = map (kept u.rate n) (map (λ (x : Reading). x.at) u.readings) in
    record {
      rates = g.rates;
      steps = g.steps;
      base = g.base;
      signals = record {
        stream = subst (λ (n : ℕ). n ≤ longest_stream) (sym e) h;
        upto = subst (λ (n : ℕ). u.signal.n ≤ n) (sym e) (omega arith);
        last = heard_last u.rate u.signal dbm g.signals.last;
        from = heard_from u.rate u.signal dbm g.signals.from;
      };
      floors = heard-floor u.rate (omega arith) (omega arith) u.signal dbm g.floors v;
      tuneds = up_to_more (λ (x : Tuning). x.at) u.signal.n n (retained stay u.tunings) (omega arith) (every-retained (λ (x : Tuning). leb x.at u.signal.n) stay u.tunings g.tuneds);
      freqs = every-retained (λ (x : Tuning). leb x.freq (2 ^ 32)) stay u.tunings g.freqs;
      ats = up_to_more (λ (x : Reading). x.at) (u.signal.n + ahead) (n + ahead) (retained keep u.readings) (omega arith) (every-retained (λ (x : Reading). leb x.at (u.signal.n + ahead)) keep u.readings g.ats);
      numbers = every-retained (λ (x : Reading). not (is_nan x.hz)) keep u.readings g.numbers;
    }

-- ---- cfo
never : false ≡ true → ⊥
never e = subst (λ (b : Bool). T (not b)) e tt

step_finite : (x : Float) → step_ok x ≡ true → finite x ≡ true
unfolding lt le eq of_int round
step_finite nan e = absurd (never e)
step_finite (inf true) e = absurd (never e)
step_finite (inf false) e = absurd (never e)
step_finite (fin s m k) e = refl

module _ (rate : ℕ) (step : Float) (more : Bool) (tuned lo n : ℕ) (L : lo ≤ 2 ^ 32) (S : finite step ≡ true) where
  from_up_to : (at : ℕ) (raw : List ℕ) → at + cfo_every * length raw ≤ n + cfo_every → read_up_to n (readings_from rate step more tuned lo at raw) ≡ true
  unfolding readings_from
  from_up_to at [] h = refl
  from_up_to at (v ∷ raw) h =
      all_but (λ (x : Reading). leb x.at n) (settling rate tuned at && more) (record { at = at; lo = lo; hz = reading_hz lo v step }) (readings_from rate step more tuned lo (at + cfo_every) raw)
      (le-leb at n (omega arith)) (from_up_to (at + cfo_every) raw (omega arith))

  from_number : (at : ℕ) (raw : List ℕ) → all_numbers (readings_from rate step more tuned lo at raw) ≡ true
  unfolding readings_from
  from_number at [] = refl
  from_number at (v ∷ raw) =
      all_but (λ (x : Reading). not (is_nan x.hz)) (settling rate tuned at && more) (record { at = at; lo = lo; hz = reading_hz lo v step }) (readings_from rate step more tuned lo (at + cfo_every) raw)
      (ap not (reading-number lo v step (omega arith) S)) (from_number (at + cfo_every) raw)

pub good-cfo : (u : Tracker) (raw : List ℕ) → length raw ≤ most_readings → Good u → Good (cfo u raw)
unfolding cfo freq_of
good-cfo u raw h g =
    let more = ltb 1 (length u.tunings) in
    let at = last_or 0 (map (λ (x : Tuning). x.at) u.tunings) in
    let lo = last_or u.base (map (λ (x : Tuning). x.freq) u.tunings) in
    let low : lo ≤ 2 ^ 32 = last_small (λ (x : Tuning). x.freq) (2 ^ 32) u.base u.tunings g.base g.freqs in
    let fin' = step_finite u.step g.steps in
    let new = readings_from u.rate u.step more at lo u.line raw in
    let l = g.signals.upto in
    record {
      rates = g.rates;
      steps = g.steps;
      base = g.base;
      signals = g.signals;
      floors = g.floors;
      tuneds = g.tuneds;
      freqs = g.freqs;
      ats = all_append (λ (x : Reading). leb x.at (u.signal.n + ahead)) u.readings new g.ats (from_up_to u.rate u.step more at lo (u.signal.n + ahead) low fin' u.line raw (omega arith));
      numbers = all_append (λ (x : Reading). not (is_nan x.hz)) u.readings new g.numbers (from_number u.rate u.step more at lo (u.signal.n + ahead) low fin' u.line raw);
    }

-- ---- next_tuning
pub good-next : (u : Tracker) → Good u → Good (after_tuning u)
unfolding after_tuning
good-next u g = record {
  rates = g.rates;
  steps = g.steps;
  base = g.base;
  signals = record { stream = g.signals.stream; upto = g.signals.upto; last = g.signals.last; from = g.signals.from };
  floors = g.floors;
  tuneds = g.tuneds;
  freqs = g.freqs;
  ats = g.ats;
  numbers = g.numbers;
}
