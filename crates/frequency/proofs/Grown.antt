-- A tracker grown from `new` is always in order: its rate, counts, indices, step and readings never give a cause. Assumes nothing.
use Rattle.std.proofs.Common.{Option, None, Some}
use mathlib.Core.Path.{◌≡◌, refl, sym, ◌∙◌, subst}
use mathlib.Core.Bool.{Bool, true, false, not, cond}
use mathlib.Core.List.{List, [], ◌∷◌, ◌++◌, map}
use Prim.Native.Nat.{ℕ, ◌+◌, ◌^◌, ◌≤◌, ◌<◌}
use native.Mathlib.Omega.{arith}
use borrow.Author.Tests.{le-leb, not-false}
use lib.Dec.{ltb}
use lib.ListN.{length, take, drop, length-append, length-drop}
use lib.Seq.{take_at, length-take-le}
use lib.Ieee.{Float}
use Rattle.limits.specs.Limits.{longest_stream}
use Rattle.limits.specs.Samples.{rate_ok}
use Rattle.frequency_signal.specs.declared.Signal.{Signal}
use Rattle.frequency_signal.specs.Order.{Index, index_ok, signal_ok}
use Rattle.frequency_signal.specs.Heard.{heard}
use Rattle.frequency_signal.specs.Seconds.{kept}
use Rattle.frequency_retain.specs.Retain.{stays}
use Rattle.frequency_lists.specs.declared.Reading.{Reading}
use Rattle.frequency_lists.specs.declared.Tuning.{Tuning}
use Rattle.frequency_lists.specs.Lists.{last_or, readings_from}
use Rattle.frequency_lists.specs.Marks.{retained}
use Rattle.frequency_tuning.specs.Ranges.{step_ok}
use Rattle.frequency.specs.declared.FrequencyTracker.{FrequencyTracker}
use Rattle.frequency.specs.Calls.{fresh}
use Rattle.frequency.specs.Grown.{Grown, new, tuned, samples, cfo, next}
use Rattle.frequency.specs.Lent.{Lists, lists, tracker, packed, over, stored}
use Rattle.frequency.specs.Order.{tunings_in_order, readings_in_order, in_order, numbers_ok, cause_new}
use Rattle.frequency.specs.Tracker as T
use Rattle.frequency.proofs.Choices.{not_refused}
use Rattle.frequency.proofs.Good.{Good, good-tuned, good-samples, good-cfo, good-next}
use Rattle.frequency.proofs.Listened as Listened
use Rattle.frequency.proofs.Ordered.{Signals, Counts}
use Rattle.frequency.proofs.Sampled as Sampled
use Rattle.frequency.proofs.Tuned as Tuned

-- ---- the struct and the lists that a tracker is packed into stand for it
take_over : {A : Type 0} (l col : List A) → take (length l) (over l col) ≡ l
take_over l col = take_at l (drop (length l) col) (length l) refl

length_over : {A : Type 0} (l col : List A) → length l ≤ length col → length (over l col) ≡ length col
length_over l col h = let d = length-drop (length l) col in length-append l (drop (length l) col) ∙ omega arith

pub unpack : (u : T.Tracker) (l : Lists) → tracker (packed u) (stored u l) ≡ u
unfolding tracker packed stored
unpack u l = rw (take_over u.readings l.readings, take_over u.tunings l.tunings) refl

pub record Sound (s : FrequencyTracker) (l : Lists) : Type 0 where
  pub good : Good (tracker s l)
  pub counts : Counts s l

-- places for all that a tracker holds
pub record Fits (u : T.Tracker) (l : Lists) : Type 0 where
  pub readings : length u.readings ≤ length l.readings
  pub tunings : length u.tunings ≤ length l.tunings

packed-counts : (u : T.Tracker) (l : Lists) → Fits u l → Counts (packed u) (stored u l)
unfolding packed stored
packed-counts u l f = record {
  readings = subst (λ (n : ℕ). length u.readings ≤ n) (sym (length_over u.readings l.readings f.readings)) f.readings;
  tunings = subst (λ (n : ℕ). length u.tunings ≤ n) (sym (length_over u.tunings l.tunings f.tunings)) f.tunings;
}

sound_after : (u : T.Tracker) (l : Lists) (t : FrequencyTracker) (m : Lists) → Good u → Fits u l → t ≡ packed u → m ≡ stored u l → Sound t m
sound_after u l t m g f e h =
    subst (λ (x : FrequencyTracker). Sound x m) (sym e) (subst (λ (x : Lists). Sound (packed u) x) (sym h) (record { good = subst Good (sym (unpack u l)) g; counts = packed-counts u l f }))

fewer-retained : {A : Type 0} (bs : List Bool) (l : List A) → length (retained bs l) ≤ length l
unfolding retained
fewer-retained [] l = omega arith
fewer-retained (b ∷ bs) [] = omega arith
fewer-retained (true ∷ bs) (x ∷ l) = let h = fewer-retained bs l in omega arith
fewer-retained (false ∷ bs) (x ∷ l) = let h = fewer-retained bs l in omega arith

-- ---- new
sound_new : (rate base : ℕ) (step : Float) (l : Lists) → base < 2 ^ 32 → cause_new rate step ≡ 0 → Sound (fresh rate base step) l
unfolding tracker
sound_new rate base step l b e =
    let p = not_refused 0 _ (not (rate_ok rate)) e in
    let q = not_refused 8 _ (not (step_ok step)) p.1 in
    record {
      good = record {
        rates = not-false (rate_ok rate) p.0;
        steps = not-false (step_ok step) q.0;
        base = omega arith;
        signals = record { stream = omega arith; upto = omega arith; last = tt; from = tt };
        floors = refl;
        tuneds = refl;
        freqs = refl;
        ats = refl;
        numbers = refl;
      };
      counts = record { readings = omega arith; tunings = omega arith };
    }

-- ---- each call
module _ (s : FrequencyTracker) (l : Lists) (o : Counts s l) where
  held : length (take s.readings l.readings) ≡ s.readings
  held = length-take-le s.readings l.readings o.readings

  held_tunings : length (take s.tunings l.tunings) ≡ s.tunings
  held_tunings = length-take-le s.tunings l.tunings o.tunings

  due-fits : (b : Bool) (x : Tuning) → (b ≡ true → s.tunings + 1 ≤ length l.tunings) → length (cond b (take s.tunings l.tunings ++ (x ∷ [])) (take s.tunings l.tunings)) ≤ length l.tunings
  due-fits true x f = let a = f refl in let n = held_tunings in let z = length-append (take s.tunings l.tunings) (x ∷ []) in omega arith
  due-fits false x f = let n = held_tunings in let t = o.tunings in omega arith

  tuned-fits : (f : ℕ) → (T.due (tracker s l) f ≡ true → s.tunings + 1 ≤ length l.tunings) → Fits (T.tuned (tracker s l) f) l
  unfolding T.tuned tracker
  tuned-fits f free = let n = held in let r = o.readings in record { readings = omega arith; tunings = due-fits (T.due (tracker s l) f) (record { at = s.signal.n; freq = f }) free }

  room : (dbm : List Float) → s.signal.n + length dbm ≤ longest_stream → (tracker s l).signal.n + length dbm ≤ longest_stream
  unfolding tracker
  room dbm h = h

  sampled-fits : (dbm : List Float) → Fits (T.samples (tracker s l) dbm) l
  unfolding T.samples tracker
  sampled-fits dbm =
      let n = held in
      let m = held_tunings in
      let r = o.readings in
      let t = o.tunings in
      let a = fewer-retained (map (kept s.rate (heard s.rate s.signal dbm).n) (map (λ (x : Reading). x.at) (take s.readings l.readings))) (take s.readings l.readings) in
      let b = fewer-retained (stays s.rate (heard s.rate s.signal dbm).n (map (λ (x : Tuning). x.at) (take s.tunings l.tunings))) (take s.tunings l.tunings) in
      record { readings = omega arith; tunings = omega arith }

  cfo-fits : (raw : List ℕ) → s.readings + length raw ≤ length l.readings → Fits (T.cfo (tracker s l) raw) l
  unfolding T.cfo tracker
  cfo-fits raw h =
      let n = held in
      let m = held_tunings in
      let t = o.tunings in
      let ts = take s.tunings l.tunings in
      let new = readings_from s.rate s.step_hz (ltb 1 (length ts)) (last_or 0 (map (λ (x : Tuning). x.at) ts)) (T.freq_of (tracker s l)) s.line_start raw in
      let k = Listened.few-readings s.rate s.step_hz (ltb 1 (length ts)) (last_or 0 (map (λ (x : Tuning). x.at) ts)) (T.freq_of (tracker s l)) s.line_start raw in
      let z = length-append (take s.readings l.readings) new in
      record { readings = omega arith; tunings = omega arith }

  pub same : tracker (packed (T.after_tuning (tracker s l))) l ≡ T.after_tuning (tracker s l)
  unfolding tracker packed T.after_tuning
  same = rw (held, held_tunings) refl

  next-counts : Counts (packed (T.after_tuning (tracker s l))) l
  unfolding tracker packed T.after_tuning
  next-counts = let n = held in let m = held_tunings in let r = o.readings in let t = o.tunings in record { readings = omega arith; tunings = omega arith }

pub sound : {s : FrequencyTracker} {l : Lists} → Grown s l → Sound s l
sound (new rate base step l b e) = sound_new rate base step l b e
sound (tuned {s} {t} {l} f ts h g c) =
    let i = sound g in
    let p = Tuned.fine s l.tunings f (sym c.refusal) in
    let b = i.counts.readings in
    sound_after (T.tuned (tracker s l) f) l t (lists l.readings ts) (good-tuned (tracker s l) f h i.good)
    (tuned-fits s l i.counts f (λ d. p.free (sym (Tuned.due_is s l.tunings f p l.readings b) ∙ d)))
    (c.state refl l.readings b) (c.lent refl l.readings b)
sound (samples {s} {t} {l} {m} dbm g c) =
    let i = sound g in
    let p = Sampled.fine s l dbm (sym c.refusal) in
    sound_after (T.samples (tracker s l) dbm) l t m (good-samples (tracker s l) dbm (room s l i.counts dbm p.room) p.levels i.good) (sampled-fits s l i.counts dbm) (c.state refl) (c.lists refl)
sound (cfo {s} {t} {l} {m} raw g c) =
    let i = sound g in
    let p = Listened.fine s l raw (sym c.refusal) in
    sound_after (T.cfo (tracker s l) raw) l t m (good-cfo (tracker s l) raw p.few i.good) (cfo-fits s l i.counts raw p.places) (c.state refl) (c.lists refl)
sound (next {s} {t} {l} out out' tune g c) =
    let i = sound g in
    subst (λ (x : FrequencyTracker). Sound x l) (sym (c.state refl)) (record { good = subst Good (sym (same s l i.counts)) (good-next (tracker s l) i.good); counts = next-counts s l i.counts })

-- ---- so that no cause looks at such a state
index_ok_lem : (n : ℕ) (s : Option ℕ) → Index n s → index_ok n s ≡ true
index_ok_lem n None h = refl
index_ok_lem n (Some s) h = le-leb s n h

signal_ok_lem : (line : ℕ) (s : Signal) → Signals line s → signal_ok line s ≡ true
signal_ok_lem line s g = rw (le-leb s.n longest_stream g.stream, le-leb line s.n g.upto, index_ok_lem s.n s.last_signal g.last, index_ok_lem s.n s.frame_from g.from) refl

in_order_lem : (s : FrequencyTracker) (l : Lists) → Sound s l → in_order s l ≡ true
unfolding tunings_in_order readings_in_order tracker
in_order_lem s l i =
    rw (
      signal_ok_lem s.line_start s.signal i.good.signals,
      le-leb s.tunings (length l.tunings) i.counts.tunings,
      i.good.tuneds,
      le-leb s.readings (length l.readings) i.counts.readings,
      i.good.ats,
    ) refl

numbers : (s : FrequencyTracker) (l : Lists) → Sound s l → numbers_ok s l.readings ≡ true
unfolding numbers_ok tracker
numbers s l i = rw (i.good.steps, i.good.floors, i.good.numbers) refl

rates : (s : FrequencyTracker) (l : Lists) → Sound s l → rate_ok s.rate ≡ true
unfolding tracker
rates s l i = i.good.rates

-- 01: 'a port can't refuse for a state that it spoiled itself'; the floor stays between -200 and 100, and the readings are numbers
pub never-refused : {s : FrequencyTracker} {l : Lists} → Grown s l → (rate_ok s.rate ≡ true) × (in_order s l ≡ true) × (numbers_ok s l.readings ≡ true)
never-refused {s} {l} g = let i = sound g in (rates s l i, in_order_lem s l i, numbers s l i)
