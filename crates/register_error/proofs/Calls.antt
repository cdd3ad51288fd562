-- A grown tracker holds the readings of the register values that it was given, and calls of frame1 keep to the bound. Assumes nothing.
use Rattle.std.proofs.Common.{Option, Some}
use mathlib.Core.Path.{◌≡◌, refl, sym, ap, ◌∙◌, subst}
use mathlib.Core.Bool.{Bool, true, false, cond, ◌&&◌}
use mathlib.Core.List.{List, [], ◌∷◌, ◌++◌, map}
use Prim.Native.Nat.{ℕ, zero, suc, ◌+◌, ◌^◌, ◌<◌}
use native.Mathlib.Omega.{arith}
use lib.Dec.{ltb}
use Rattle.std.proofs.lemmas.List.{map-append}
use lib.ListN.{length}
use lib.Ieee.{Float}
use Rattle.limits.specs.Answer.{accepted, answer, said_by}
use Rattle.cfo.specs.Cfo.{reading_hz}
use Rattle.frequency_signal.specs.Seconds.{settling, kept as within}
use Rattle.frequency_signal.specs.Heard.{heard}
use Rattle.frequency_lists.specs.declared.Reading.{Reading}
use Rattle.frequency_lists.specs.declared.Tuning.{Tuning}
use Rattle.frequency_lists.specs.Lists.{cfo_every, last_or, readings_from}
use Rattle.frequency_lists.specs.Marks.{retained}
use Rattle.frequency_lists.proofs.Gather.{map-retained}
use Rattle.frequency_measure.specs.Measured.{frame1}
use Rattle.record.specs.declared.FrameSpan.{FrameSpan}
use Rattle.record.specs.Spans.{spans_ok}
use Rattle.frequency.specs.declared.FrequencyTracker.{FrequencyTracker}
use Rattle.frequency.specs.Lent.{Lists, lists, tracker, packed, stored}
use Rattle.frequency.specs.Order.{cause_frame}
use Rattle.frequency.specs.Calls.{fresh, held_readings}
use Rattle.frequency.specs.Grown.{Grown, new, tuned, samples, cfo, next}
use Rattle.frequency.specs.Tracker as T
use Rattle.frequency.proofs.Grown.{sound, unpack}
use Rattle.frequency.proofs.Grown as G
use Rattle.frequency.proofs.Contracts.{contracts}
use Rattle.register_error.specs.Bound.{RawReading, step, reading_of, U32, DirectPath, Answers, asked, least, Bound}
use Rattle.register_error.specs.Calls.{Holds, raw_from, raw_of, GrownHolds, Called, CallsBound, TrackersBound, CallClaims}
use Rattle.register_error.proofs.Bound.{claims}

-- ---- a property of all elements

abbrev Each : {A : Type 0} → (A → Type 0) → List A → Type 0
Each P [] = Unit
Each P (x ∷ l) = P x × Each P l

module _ {A : Type 0} (P : A → Type 0) where
  each_append : (l m : List A) → Each P l → Each P m → Each P (l ++ m)
  each_append [] m h k = k
  each_append (x ∷ l) m h k = (h.0, each_append l m h.1 k)

  each_retained : (bs : List Bool) (l : List A) → Each P l → Each P (retained bs l)
  unfolding retained
  each_retained [] l h = tt
  each_retained (b ∷ bs) [] h = tt
  each_retained (true ∷ bs) (x ∷ l) h = (h.0, each_retained bs l h.1)
  each_retained (false ∷ bs) (x ∷ l) h = each_retained bs l h.1

-- ---- every reading is against a u32

record Kept (u : T.Tracker) : Type 0 where
  base : u.base < 2 ^ 32
  freqs : Each (λ (x : Tuning). x.freq < 2 ^ 32) u.tunings
  los : Each (λ (x : Reading). x.lo < 2 ^ 32) u.readings

last_small : (d : ℕ) (l : List Tuning) → d < 2 ^ 32 → Each (λ (x : Tuning). x.freq < 2 ^ 32) l → last_or d (map (λ (x : Tuning). x.freq) l) < 2 ^ 32
unfolding last_or
last_small d [] h k = h
last_small d (x ∷ l) h k = last_small x.freq l k.0 k.1

los_from : (rate : ℕ) (st : Float) (more : Bool) (at lo n : ℕ) (raw : List ℕ) → lo < 2 ^ 32 → Each (λ (x : Reading). x.lo < 2 ^ 32) (readings_from rate st more at lo n raw)
unfolding readings_from
los_from rate st more at lo n [] h = tt
los_from rate st more at lo n (v ∷ raw) h = go (settling rate at n && more) (readings_from rate st more at lo (n + cfo_every) raw) (los_from rate st more at lo (n + cfo_every) raw h)
  where
    go : (b : Bool) (rest : List Reading) → Each (λ (x : Reading). x.lo < 2 ^ 32) rest → Each (λ (x : Reading). x.lo < 2 ^ 32) (cond b rest (record { at = n; lo = lo; hz = reading_hz lo v st } ∷ rest))
    go true rest k = k
    go false rest k = (h, k)

tuned_kept : (u : T.Tracker) (f : ℕ) → f < 2 ^ 32 → Kept u → Kept (T.tuned u f)
unfolding T.tuned
tuned_kept u f h k = record { base = k.base; freqs = go (T.due u f); los = k.los }
  where
    go : (b : Bool) → Each (λ (x : Tuning). x.freq < 2 ^ 32) (cond b (u.tunings ++ (record { at = u.signal.n; freq = f } ∷ [])) u.tunings)
    go true = each_append (λ (x : Tuning). x.freq < 2 ^ 32) u.tunings (record { at = u.signal.n; freq = f } ∷ []) k.freqs (h, tt)
    go false = k.freqs

samples_kept : (u : T.Tracker) (dbm : List Float) → Kept u → Kept (T.samples u dbm)
unfolding T.samples
samples_kept u dbm k = record { base = k.base; freqs = each_retained (λ (x : Tuning). x.freq < 2 ^ 32) _ u.tunings k.freqs; los = each_retained (λ (x : Reading). x.lo < 2 ^ 32) _ u.readings k.los }

cfo_kept : (u : T.Tracker) (raw : List ℕ) → Kept u → Kept (T.cfo u raw)
unfolding T.cfo
cfo_kept u raw k = record {
  base = k.base;
  freqs = k.freqs;
  los = each_append (λ (x : Reading). x.lo < 2 ^ 32) u.readings _ k.los
      (los_from u.rate u.step (ltb 1 (length u.tunings)) (last_or 0 (map (λ (x : Tuning). x.at) u.tunings)) (T.freq_of u) u.line raw (last_small u.base u.tunings k.base k.freqs));
}

next_kept : (u : T.Tracker) → Kept u → Kept (T.after_tuning u)
unfolding T.after_tuning
next_kept u k = record { base = k.base; freqs = k.freqs; los = k.los }

new_kept : (rate base : ℕ) (st : Float) (l : Lists) → base < 2 ^ 32 → Kept (tracker (fresh rate base st) l)
unfolding tracker
new_kept rate base st l h = record { base = h; freqs = tt; los = tt }

-- ---- every reading is of the value that `cfo` was given

-- the readings of a tracker at the step
abbrev Made : T.Tracker → List RawReading → Type 0
Made u held = u.step ≡ step → u.readings ≡ map reading_of held

ats : (l : List RawReading) → map (λ (x : Reading). x.at) (map reading_of l) ≡ map (λ (r : RawReading). r.at) l
ats [] = refl
ats (x ∷ l) = ap (λ (z : List ℕ). x.at ∷ z) (ats l)

made_from : (rate : ℕ) (more : Bool) (at lo n : ℕ) (raw : List ℕ) → readings_from rate step more at lo n raw ≡ map reading_of (raw_from rate more at lo n raw)
unfolding readings_from raw_from
made_from rate more at lo n [] = refl
made_from rate more at lo n (v ∷ raw) =
    go (settling rate at n && more) (readings_from rate step more at lo (n + cfo_every) raw) (raw_from rate more at lo (n + cfo_every) raw) (made_from rate more at lo (n + cfo_every) raw)
  where
    go : (b : Bool) (l : List Reading) (m : List RawReading) → l ≡ map reading_of m
        → cond b l (record { at = n; lo = lo; hz = reading_hz lo v step } ∷ l) ≡ map reading_of (cond b m (record { at = n; lo = lo; value = v } ∷ m))
    go true l m e = e
    go false l m e = ap (λ (z : List Reading). record { at = n; lo = lo; hz = reading_hz lo v step } ∷ z) e

samples_made : (u : T.Tracker) (held : List RawReading) (dbm : List Float) → Made u held → Made (T.samples u dbm) (retained (map (within u.rate (heard u.rate u.signal dbm).n) (map (λ (r : RawReading). r.at) held)) held)
unfolding T.samples
samples_made u held dbm h e =
    let p : ℕ → Bool = within u.rate (heard u.rate u.signal dbm).n in
    ap (λ (l : List Reading). retained (map p (map (λ (x : Reading). x.at) l)) l) (h e)
    ∙ ap (λ (l : List ℕ). retained (map p l) (map reading_of held)) (ats held)
    ∙ sym (map-retained reading_of (map p (map (λ (r : RawReading). r.at) held)) held)

cfo_made : (u : T.Tracker) (held : List RawReading) (raw : List ℕ) → Made u held
    → Made (T.cfo u raw) (held ++ raw_from u.rate (ltb 1 (length u.tunings)) (last_or 0 (map (λ (x : Tuning). x.at) u.tunings)) (T.freq_of u) u.line raw)
unfolding T.cfo
cfo_made u held raw h e =
    let more = ltb 1 (length u.tunings) in
    let at = last_or 0 (map (λ (x : Tuning). x.at) u.tunings) in
    ap (λ (l : List Reading). l ++ readings_from u.rate u.step more at (T.freq_of u) u.line raw) (h e)
    ∙ ap (λ (st : Float). map reading_of held ++ readings_from u.rate st more at (T.freq_of u) u.line raw) e
    ∙ ap (λ (l : List Reading). map reading_of held ++ l) (made_from u.rate more at (T.freq_of u) u.line raw)
    ∙ sym (map-append reading_of held (raw_from u.rate more at (T.freq_of u) u.line raw))

tuned_made : (u : T.Tracker) (held : List RawReading) (f : ℕ) → Made u held → Made (T.tuned u f) held
unfolding T.tuned
tuned_made u held f h = h

next_made : (u : T.Tracker) (held : List RawReading) → Made u held → Made (T.after_tuning u) held
unfolding T.after_tuning
next_made u held h = h

new_made : (rate base : ℕ) (st : Float) (l : Lists) → Made (tracker (fresh rate base st) l) []
unfolding tracker
new_made rate base st l e = refl

-- ---- by the calls

Both : T.Tracker → List RawReading → Type 0
Both u held = Kept u × Made u held

after : (u : T.Tracker) (l : Lists) (t : FrequencyTracker) (m : Lists) (held : List RawReading) → Both u held → t ≡ packed u → m ≡ stored u l → Both (tracker t m) held
after u l t m held k e f =
    subst (λ (x : FrequencyTracker). Both (tracker x m) held) (sym e) (subst (λ (x : Lists). Both (tracker (packed u) x) held) (sym f) (subst (λ (x : T.Tracker). Both x held) (sym (unpack u l)) k))

both : {s : FrequencyTracker} {l : Lists} (g : Grown s l) → Both (tracker s l) (raw_of g)
unfolding raw_of Both
both (new rate base st l h e) = (new_kept rate base st l h, new_made rate base st l)
both (tuned {s} {t} {l} f ts h g c) =
    let b = (sound g).counts.readings in
    after (T.tuned (tracker s l) f) l t (lists l.readings ts) (raw_of g) (tuned_kept (tracker s l) f h (both g).0, tuned_made (tracker s l) (raw_of g) f (both g).1)
    (c.state refl l.readings b) (c.lent refl l.readings b)
both (samples {s} {t} {l} {m} dbm g c) =
    after (T.samples (tracker s l) dbm) l t m (raw_of (samples dbm g c)) (samples_kept (tracker s l) dbm (both g).0, samples_made (tracker s l) (raw_of g) dbm (both g).1) (c.state refl) (c.lists refl)
both (cfo {s} {t} {l} {m} raw g c) =
    after (T.cfo (tracker s l) raw) l t m (raw_of (cfo raw g c)) (cfo_kept (tracker s l) raw (both g).0, cfo_made (tracker s l) (raw_of g) raw (both g).1) (c.state refl) (c.lists refl)
both (next {s} {t} {l} out out' tune g c) =
    subst (λ (x : FrequencyTracker). Both (tracker x l) (raw_of g)) (sym (c.state refl))
    (subst (λ (x : T.Tracker). Both x (raw_of g)) (sym (G.same s l (sound g).counts)) (next_kept (tracker s l) (both g).0, next_made (tracker s l) (raw_of g) (both g).1))

small : (l : List RawReading) → Each (λ (x : Reading). x.lo < 2 ^ 32) (map reading_of l) → U32 l
small [] h = tt
small (x ∷ l) h = (h.0, small l h.1)

pub grown-holds : GrownHolds
unfolding tracker Both
grown-holds s l g e =
    let b = both g in
    let h : held_readings s l.readings ≡ map reading_of (raw_of g) = b.1 e in
    (h, small (raw_of g) (subst (Each (λ (x : Reading). x.lo < 2 ^ 32)) h b.0.los))

-- ---- the calls

told : (x : (Option ℕ)) (k a : ℕ) → accepted (Some a) ≡ answer k x → x ≡ Some a
unfolding answer
told x zero a e = cc
told x (suc k) a e = absurd (let z : ◌≡◌ {A = ℕ} 0 1 = cc in omega arith)

answers : (s : FrequencyTracker) (l : Lists) (raw : List RawReading) (spans : List FrameSpan) (downlink : Bool) (a : ℕ) (out out' : List Float)
    → Holds s l raw → Called s l spans downlink a out out' → Answers s.rate raw spans downlink a
unfolding said_by
answers s l raw spans downlink a out out' h c =
    let k = cause_frame s l.readings (length out) (spans_ok spans) in
    record {
      path = subst (λ (z : List Reading). DirectPath s.rate z spans downlink) h c.path;
      answer = ap (λ (z : List Reading). frame1 s.rate z spans downlink) (sym h) ∙ told (frame1 s.rate (held_readings s l.readings) spans downlink) k a c.call.says;
    }

calls : (more : ℕ) → Bound more → CallsBound more
calls more f d s s' l l' raw raw' spans spans' downlink downlink' a b out out₁ out' out₁' h h' u t p q =
    f d s.rate s'.rate raw raw' spans spans' downlink downlink' a b u t (answers s l raw spans downlink a out out₁ h p) (answers s' l' raw' spans' downlink' b out' out₁' h' q)

trackers : (more : ℕ) → Bound more → TrackersBound more
trackers more f d s s' l l' g g' spans spans' downlink downlink' a b out out₁ out' out₁' e e' t p q =
    calls more f d s s' l l' (raw_of g) (raw_of g') spans spans' downlink downlink' a b out out₁ out' out₁' (grown-holds s l g e).0 (grown-holds s' l' g' e').0 (grown-holds s l g e).1 t p q

pub call-claims : CallClaims
call-claims = record { code = contracts; holds = grown-holds; given = calls least claims.sharpest; request = trackers asked claims.request; sharpest = trackers least claims.sharpest }
