-- One record of `listen`. Assumes nothing.
use Prim.Native.Nat.{ℕ, zero, suc, ◌+◌, ◌^◌, ◌≤◌, ◌<◌}
use mathlib.Core.Path.{◌≡◌, refl, sym, ◌∙◌, subst}
use mathlib.Core.Bool.{Bool, true, false, cond}
use mathlib.Core.List.{List, [], ◌∷◌, ◌++◌, append-nil, append_assoc, map}
use native.Mathlib.Omega.{arith}
use lib.Dec.{eqb}
use lib.ListN.{length, drop, drop_of_length-le}
use lib.Ieee.{Float, lt, le, eq, of_bits, of_int, round}
use Rattle.ledger.specs.Ledger.{by_frames, Ledger, Call, push_raw, flush, dbm_of}
use Rattle.frequency.specs.declared.FrequencyTracker.{FrequencyTracker}
use Rattle.frequency.specs.declared.RefusedTracker.{RefusedTracker}
use Rattle.std.proofs.Common.{Option, Result, Ok, Err, IsOk}
use Rattle.limits.specs.declared.Refusal.{Refusal}
use Rattle.limits.specs.Answer.{cause_of}
use Rattle.limits.specs.Refusals.{number_of}
use Rattle.limits.proofs.AnswerLaws.{number-positive}
use Rattle.frequency.specs.Calls.{tune_of}
use Rattle.frequency.specs.Lent.{Lists, tracker, packed, stored}
use Rattle.frequency.specs.Order.{cause_new, cause_tuned, cause_samples, cause_cfo, cause_next}
use Rattle.frequency.specs.Tracker.{tuned, samples, cfo, next_tuning, after_tuning}
use Rattle.frequency.specs.Calls.{fresh, cause_of_new}
use Rattle.frequency_grown.specs.Rising as rising
use Rattle.frequency_grown.specs.Rising.{Single}
use Rattle.receiver.specs.declared.SigfoxReceiver.{SigfoxReceiver}
use Rattle.receiver.specs.Calls.{Memory}
use Rattle.listening_lines.specs.Text.{Added}
use Rattle.listening_lines.specs.Lines.{tune_line, refusal_line, end_line}
use Rattle.listening_lines.proofs.TextLaws.{behind, as_text}
use Rattle.listening_tracker.specs.Turn.{reading_places, Turn, stop, on, unless, next_turn, cfo_turn, samples_turn, tuned_turn, turn, Turned}
use Rattle.listening_records.specs.declared.Told.{Told}
use Rattle.listening_records.specs.Emission.{Tells}
use Rattle.listening_receiver.specs.Hearing.{rate, most, heard}
use Rattle.listening_receiver.specs.Standing.{StandsFor, Hears, Heard}
use Rattle.listening.specs.declared.Listener.{Listener}
use Rattle.listening.specs.Program.{State, Went, step_hz, begun, samples_each, emission, asked_of, waits, received, turned, passed_over, heard_by_both, refusal_text, unless_refused, ending, step, raw_of, hz_of, cfo_of}
use Rattle.listening.specs.Hand.{begun_as, passed_as, state_of, Goes, Room, Receives, Follows, Leads, Steps, Followed, Stepped}

-- ---- `R number`, or nothing

pub refusal-zero : (n : ℕ) → n ≡ 0 → refusal_text n ≡ []
unfolding refusal_text
refusal-zero n e = rw e refl

pub refusal-line : (n : ℕ) → (n ≡ 0 → ⊥) → refusal_text n ≡ refusal_line n
unfolding refusal_text
refusal-line zero h = absurd (h refl)
refusal-line (suc n) h = refl

pub refusal-text : (e : Refusal) → refusal_line (number_of e) ≡ refusal_text (number_of e)
refusal-text e = sym (refusal-line (number_of e) (number-positive e))

-- ---- the end: the last line, or that of a refusal

pub last_refused : (n : ℕ) (rest : List ℕ) → (n ≡ 0 → ⊥) → refusal_line n ≡ refusal_text n ++ unless_refused n rest
unfolding refusal_text unless_refused
last_refused zero rest h = absurd (h refl)
last_refused (suc n) rest h = sym (append-nil (refusal_line (suc n)))

pub last_end : (n : ℕ) (rest : List ℕ) → n ≡ 0 → rest ≡ refusal_text n ++ unless_refused n rest
unfolding refusal_text unless_refused
last_end n rest e = rw e refl

pub ending-added : (s : State) (leftover : ℕ) (k : ℕ) (h : Told) (out mid out' : List ℕ) (r : ℕ) → Tells (heard (asked_of s) (emission s []) s.ledger flush) out 0 k h mid
    → Added mid h.end (refusal_text k ++ unless_refused k (end_line s.samples h.frames h.messages leftover)) r out'
    → Added out 0 (ending s leftover) r out'
unfolding ending received
ending-added s leftover k h out mid out' r t a =
    as_text (sym (append_assoc (heard (asked_of s) (emission s []) s.ledger flush).text _ _)) (behind t.text (rw (t.refused, t.frames, t.messages) at a))

-- ---- the tracker stops with a number that isn't 0, or goes on

abbrev pub Fit : Turn → Type 0
Fit (stop k t l) = k ≡ 0 → ⊥
Fit (on t m f) = Unit

unless-fit : (k : ℕ) (s : FrequencyTracker) (l : Lists) (t : Turn) → Fit t → Fit (unless k s l t)
unless-fit zero s l t h = h
unless-fit (suc k) s l t h = λ (z : suc k ≡ 0). omega arith

next-fit : (room : ℕ) (s : FrequencyTracker) (l : Lists) → Fit (next_turn room s l)
unfolding next_turn
next-fit room s l = unless-fit (cause_next s l room) s l (on (packed (after_tuning (tracker s l))) l (next_tuning (tracker s l))) tt

cfo-fit : (room reg : ℕ) (s : FrequencyTracker) (l : Lists) → Fit (cfo_turn room reg s l)
unfolding cfo_turn
cfo-fit room reg s l =
    let u = cfo (tracker s l) (reg ∷ []) in
    unless-fit (cause_cfo s l (reg ∷ [])) s l (next_turn room (packed u) (stored u l)) (next-fit room (packed u) (stored u l))

samples-fit : (room : ℕ) (dbm : List Float) (reg : ℕ) (s : FrequencyTracker) (l : Lists) → Fit (samples_turn room dbm reg s l)
unfolding samples_turn
samples-fit room dbm reg s l =
    let u = samples (tracker s l) dbm in
    unless-fit (cause_samples s l dbm) s l (cfo_turn room reg (packed u) (stored u l)) (cfo-fit room reg (packed u) (stored u l))

tuned-fit : (room hz : ℕ) (dbm : List Float) (reg : ℕ) (s : FrequencyTracker) (l : Lists) → Fit (tuned_turn room hz dbm reg s l)
unfolding tuned_turn
tuned-fit room hz dbm reg s l =
    let u = tuned (tracker s l) hz in
    unless-fit (cause_tuned s l.tunings hz) s l (samples_turn room dbm reg (packed u) (stored u l)) (samples-fit room dbm reg (packed u) (stored u l))

either-fit : (b : Bool) (t u : Turn) → Fit t → Fit u → Fit (cond b t u)
either-fit true t u h k = h
either-fit false t u h k = k

pub turn-fit : (room hz : ℕ) (dbm : List Float) (reg : ℕ) (s : FrequencyTracker) (l : Lists) → Fit (turn room hz dbm reg s l)
unfolding turn
turn-fit room hz dbm reg s l =
    either-fit (eqb hz 0) (samples_turn room dbm reg s l) (tuned_turn room hz dbm reg s l) (samples-fit room dbm reg s l) (tuned-fit room hz dbm reg s l)

-- a refusal of the tracker's: only its line
pub goes-stop : (s : State) (raw : List ℕ) (T : Turn) (x : Result (Option ℕ) Refusal) (u : FrequencyTracker) (m : Lists) (out out' : List ℕ) (end : ℕ) (v : SigfoxReceiver) (places : List Float)
    → Turned T x u m → (cause_of x ≡ 0 → ⊥) → StandsFor v places s.ledger → Added out 0 (refusal_line (cause_of x)) end out'
    → Goes (turned s raw T) out
    (record {
      refused = cause_of x;
      end = end;
      listener = record { started = true; passed = s.passed; samples = s.samples; frames = s.frames; messages = s.messages; tracker = u };
      receiver = v;
    }) m places out'
unfolding turned Turned
goes-stop s raw (stop k t l) x u m out out' end v places h n st a =
    record {
      refused = h.0;
      text = rw (refusal-line k (λ (z : k ≡ 0). n (h.0 ∙ z))) (rw h.0 at a);
      state = rw (h.1, h.3) refl;
      stands = st;
    }
goes-stop s raw (on t l f) x u m out out' end v places h n st a = absurd (n h.0)

-- otherwise the tracker goes on
pub on_is : (T : Turn) (x : Result (Option ℕ) Refusal) (u : FrequencyTracker) (l : Lists) → Fit T → Turned T x u l → cause_of x ≡ 0 → T ≡ on u l (tune_of x)
unfolding Turned
on_is (stop k t m) x u l w h z = absurd (w (sym h.0 ∙ z))
on_is (on t g f) x u l w h z = rw (h.1, h.2, h.3) refl

pub turned_on : (s : State) (raw : List ℕ) (T : Turn) (x : Result (Option ℕ) Refusal) (u : FrequencyTracker) (m : Lists) → Fit T → Turned T x u m → cause_of x ≡ 0
    → received
    (record { started = true; passed = s.passed; tracker = u; lists = m; ledger = s.ledger; samples = s.samples + samples_each; frames = s.frames; messages = s.messages })
    (tune_line (tune_of x)) (push_raw raw)
    ≡ turned s raw T
unfolding turned
turned_on s raw T x u m n q z = rw (on_is T x u m n q z) refl

-- a call of the receiver behind a text
module _ (s : State) (c : Call) (text : List ℕ) (old out mid last : List ℕ) (end end' : ℕ) (v : SigfoxReceiver) (b : Memory) (h : Heard) (places : List Float) (events : List ℕ) where
  pub goes-received : StandsFor v b.samples s.ledger → Added old 0 text end out
      → Hears (asked_of s) v c b (record { frames = s.frames; messages = s.messages; end = end }) out h places events mid
      → Added mid h.told.end (refusal_text h.refused) end' last
      → Goes (received s text c) old
      (record {
        refused = h.refused;
        end = end';
        listener = record { started = s.started; passed = s.passed; samples = s.samples; frames = h.told.frames; messages = h.told.messages; tracker = s.tracker };
        receiver = h.receiver;
      }) s.lists places last
  unfolding received
  goes-received st a k r =
      let first : Tells (emission s text) old 0 0 (record { frames = s.frames; messages = s.messages; end = end }) out
      = record { refused = refl; frames = refl; messages = refl; text = a } in
      let w = k.told s.ledger st old 0 _ first in
      record {
        refused = w.refused;
        text = rw w.refused at (behind w.text r);
        state = rw (w.frames, w.messages) refl;
        stands = k.stands s.ledger st;
      }

-- ---- the first record that isn't 0 makes the tracker

-- 01's rate and step are accepted
pub taken : cause_new rate step_hz ≡ 0
unfolding lt le eq of_bits of_int round
taken = refl

-- a call to which no cause applies is accepted
pub accepted_ok : {A : Type 0} (r : Result A Refusal) → cause_of r ≡ 0 → IsOk r
unfolding cause_of
accepted_ok (Ok v) h = refl
accepted_ok (Err e) h = absurd (number-positive e h)

-- so that the tracker is made
pub made_ok : (r : Result FrequencyTracker RefusedTracker) → cause_of_new r ≡ 0 → IsOk r
unfolding cause_of_new
made_ok (Ok t) h = refl
made_ok (Err e) h = absurd (number-positive e.refusal h)

pub first_single : (t : FrequencyTracker) (hz : ℕ) (m : Lists) → hz < 2 ^ 32 → t ≡ fresh rate hz step_hz → Single t m
first_single t hz m h e = subst (λ (x : FrequencyTracker). Single x m) (sym e) (rising.new rate hz step_hz m h taken)

-- a record looks at the state's counts and ledger alone
pub turned_same : (b c : Bool) (t u : FrequencyTracker) (m l : Lists) (g : Ledger by_frames) (p n f k : ℕ) (raw : List ℕ) (T : Turn)
    → turned (record { started = b; passed = p; tracker = t; lists = m; ledger = g; samples = n; frames = f; messages = k }) raw T
    ≡ turned (record { started = c; passed = p; tracker = u; lists = l; ledger = g; samples = n; frames = f; messages = k }) raw T
unfolding turned received
turned_same b c t u m l g p n f k raw (stop j a d) = refl
turned_same b c t u m l g p n f k raw (on a d e) = refl

-- ---- a record's bytes

-- eight samples fill the eight places
pub dbm_is : (raw : List ℕ) (old new : List Float) → length raw ≡ samples_each → length old ≡ samples_each → new ≡ map dbm_of raw ++ drop (length raw) old → new ≡ map dbm_of raw
dbm_is raw old new e f h = let z : length old ≤ length raw = omega (arith, e, f) in h ∙ rw (drop_of_length-le old z, append-nil (map dbm_of raw)) refl

module _ (l b : Listener) (hz : ℕ) (begun-is : b ≡ begun_as l hz) where
  pub begun-room : (k : ℕ) → Room k l → Room k b
  begun-room k h = rw begun-is (record { passed = h.passed; samples = h.samples; frames = h.frames; messages = h.messages })

  pub begun-leads : (f : Followed) (m : Lists) (out out' : List ℕ) → Leads b f m out out' → Leads l f m out out'
  begun-leads f m out out' h =
      let x = rw begun-is at h in
      record { passed = x.passed; samples = x.samples; frames = x.frames; messages = x.messages; end = x.end; room = x.room; single = x.single }

  -- fields as the code has them are those of the record
  pub step_is : (m : Lists) (g : Ledger by_frames) (bytes raw : List ℕ) (dbm : List Float) (cfo : ℕ) → raw ≡ raw_of bytes → dbm ≡ map dbm_of (raw_of bytes) → hz ≡ hz_of bytes → cfo ≡ cfo_of bytes
      → waits l.started hz ≡ false → turned (state_of b m g) raw (turn reading_places hz dbm cfo b.tracker m) ≡ step (state_of l m g) bytes
  unfolding step heard_by_both
  step_is m g bytes raw dbm cfo p q r d w =
      let w' : waits l.started (hz_of bytes) ≡ false = rw r at w in
      rw (w', begun-is, p, q, r, d)
      (turned_same l.started l.started (begun l.started l.tracker (hz_of bytes)) l.tracker m m g l.passed l.samples l.frames l.messages (raw_of bytes)
      (turn reading_places (hz_of bytes) (map dbm_of (raw_of bytes)) (cfo_of bytes) (begun l.started l.tracker (hz_of bytes)) m))

-- ---- a record that is passed over

pub passed_is : (l b : Listener) (m : Lists) (g : Ledger by_frames) (bytes : List ℕ) (hz : ℕ) → b ≡ passed_as l → hz ≡ hz_of bytes → waits l.started hz ≡ true
    → received (state_of b m g) [] (push_raw (raw_of bytes)) ≡ step (state_of l m g) bytes
unfolding step passed_over
passed_is l b m g bytes hz e h w = let w' : waits l.started (hz_of bytes) ≡ true = rw h at w in rw (w', e) refl

pub passed-leads : (l b : Listener) (m : Lists) (out : List ℕ) → b ≡ passed_as l → Single l.tracker m
    → Leads l (record { refused = 0; end = 0; listener = b }) m out out
passed-leads l b m out e h =
    rw e (record { passed = omega arith; samples = omega arith; frames = refl; messages = refl; end = omega arith; room = refl; single = h })

-- ---- the receiver's side behind the tracker's

pub led_room : (l : Listener) (f : Followed) (m : Lists) (out out' : List ℕ) → Leads l f m out out' → Room most l
    → (f.listener.passed ≤ 2 ^ 53) × (f.listener.frames + most < 2 ^ 64) × (f.listener.messages + most < 2 ^ 64)
led_room l f m out out' x r = (omega (arith, x.passed, r.passed), omega (arith, x.frames, r.frames), omega (arith, x.messages, r.messages))

-- a refusal of the tracker's side
pub stop-steps : (l : Listener) (f : Followed) (v : SigfoxReceiver) (m : Lists) (out out' : List ℕ) → Leads l f m out out'
    → Steps l (record { refused = f.refused; end = f.end; listener = f.listener; receiver = v }) m out out'
stop-steps l f v m out out' x =
    record {
      near = record { passed = omega (arith, x.passed); samples = omega (arith, x.samples); frames = omega (arith, x.frames); messages = omega (arith, x.messages) };
      end = omega (arith, x.end);
      room = x.room;
      single = x.single;
    }

-- or both
pub both_steps : (l : Listener) (f : Followed) (s : Stepped) (m : Lists) (out mid out' : List ℕ) → Leads l f m out mid → Receives f.listener s mid out'
    → Steps l s m out out'
both_steps l f s m out mid out' x r =
    record {
      near =
          record {
            passed = omega (arith, x.passed, r.passed);
            samples = omega (arith, x.samples, r.samples);
            frames = omega (arith, x.frames, r.frames);
            messages = omega (arith, x.messages, r.messages);
          };
      end = r.end;
      room = r.room ∙ x.room;
      single = rw r.tracker x.single;
    }

pub goes_as : {w v : Went} {out : List ℕ} {r : Stepped} {m : Lists} {places : List Float} {out' : List ℕ} → w ≡ v → Goes w out r m places out' → Goes v out r m places out'
goes_as e h = rw e at h

pub follows_as : {v w : Ledger by_frames → Went} {raw : List ℕ} {r : Followed} {m : Lists} {out out' : List ℕ} → Follows v raw r m out out' → ((g : Ledger by_frames) → v g ≡ w g) → Follows w raw r m out out'
follows_as h e =
    record {
      stops = λ n g u places st. goes_as (e g) (h.stops n g u places st);
      text = h.text;
      added = h.added;
      on = λ z g. h.on z g ∙ e g;
    }
