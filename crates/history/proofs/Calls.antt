-- One call of the port: what it answers is what 01's ledger says, and it leaves a port that stands for the ledger after it.
use mathlib.Core.Path.{◌≡◌, refl, sym, ap, ap₂, ◌∙◌}
use mathlib.Core.List.{List, [], ◌∷◌, map}
use Prim.Native.Nat.{ℕ, zero, suc}
use lib.Ieee.{Float, binary32, neg, of_int}
use lib.Ieee.Fits.{div-fits}
use lib.IntN.{pos}
use lib.ListN.{length}
use Rattle.floats.specs.Number.{num}
use Rattle.demod.proofs.NumberFacts.{Singles}
use Rattle.ledger.specs.Ledger.{by_frames, Ledger, Call, push, flush, dbm_of, fresh}
use Rattle.ledger.specs.Causes.{number, first_of, cause, cause_with, after_call, call_events}
use Rattle.shifts.specs.Shifts.{Schedule, schedule_cause, mark_by}
use Rattle.ledger.specs.Causes as causes
use Rattle.ledger.specs.Demodulation.{demod_of}
use Rattle.ledger.specs.Records.{record_of, with_records, records_in}
use Rattle.ledger.specs.History.{turn_of}
use Rattle.ledger.proofs.Firsts.{first_none}
use Rattle.ledger.proofs.Basics.{Every}
use Rattle.ledger.proofs.Throughout.{given}
use Rattle.ledger.proofs.Ranks.{AllRanked}
use Rattle.ledger.proofs.Seeing.{Clear, RecordSized, events-seen, events-size, records_in_lem, no_records}
use Rattle.ledger.proofs.Sound.{Sound, fresh-sound, sound-ranked, call-sound}
use Rattle.receiver.specs.Calls.{Memory, lengths_of, refusal_of, records_of, state_after, samples_after, Free, Answered}
use Rattle.receiver.specs.declared.SigfoxReceiver.{SigfoxReceiver}
use Rattle.history.specs.Runs as runs
use Rattle.history.specs.Runs.{Request, ask_push, ask_raw, ask_flush, call_of, Typed, Exchange, Port, memory_of, Did, port_after, fresh_port, records_from, turn_from, attempt_of}
use Rattle.history.specs.Theorem.{Untouched}
pub use Rattle.history.proofs.Standing.{Stands}
use Rattle.history.proofs.States.{new_for, number_is, records_are, state-for, samples_kept}

-- ---- the samples of a call are binary32 numbers

pushed-singles : (xs : List Float) → runs.Singles xs → Singles xs
pushed-singles [] w = tt
pushed-singles (x ∷ xs) w = (w.0, pushed-singles xs w.1)

raw-singles : (bs : List ℕ) → Singles (map dbm_of bs)
unfolding dbm_of
raw-singles [] = tt
raw-singles (b ∷ bs) = (div-fits binary32 (neg (of_int binary32 (pos b))) (num 2), raw-singles bs)

call-singles : (r : Request) → Typed r → Singles (given (call_of r))
unfolding call_of
call-singles (ask_push xs) w = pushed-singles xs w
call-singles (ask_raw bs) w = raw-singles bs
call-singles ask_flush w = tt

-- ---- a refused call

samples_same : (s : SigfoxReceiver) (c : Call) (samples : List Float) (n : ℕ) → samples_after s c samples (suc n) ≡ samples
unfolding samples_after
samples_same s (push xs) samples n = refl
samples_same s flush samples n = refl

-- all that came back is as it was
same_memory : (now before : Memory) → now.samples ≡ before.samples → now.events ≡ before.events → now.scratch32 ≡ before.scratch32
    → now.scratch64 ≡ before.scratch64 → now ≡ before
same_memory now before p q r s = make p q r s
  where
    make : {a b : List Float} {c d : List ℕ} {e f g h : List Float} → a ≡ b → c ≡ d → e ≡ f → g ≡ h
        → ◌≡◌ {A = Memory} (record { samples = a; events = c; scratch32 = e; scratch64 = g }) (record { samples = b; events = d; scratch32 = f; scratch64 = h })
    make p q r s = cc

same_port : (p q : Port) → p.receiver ≡ q.receiver → p.samples ≡ q.samples → p ≡ q
same_port p q e f = make e f
  where
    make : {a b : SigfoxReceiver} {c d : List Float} → a ≡ b → c ≡ d → ◌≡◌ {A = Port} (record { receiver = a; samples = c }) (record { receiver = b; samples = d })
    make e f = cc

-- ---- the port stands for a ledger

pub fresh-stands : (rate : ℕ) (first : List Float) → Stands rate first (fresh_port rate first) fresh
unfolding fresh
fresh-stands rate first = record { state = new_for rate; size = refl; holds = refl; sound = fresh-sound }

module _ (rate : ℕ) (first : List Float) (p : Port) (l : Ledger by_frames) (st : Stands rate first p l) (x : Exchange) (did : Did p x) where
  abbrev c : Call
  c = call_of x.asked.request

  abbrev plan : Schedule
  plan = x.asked.schedule

  abbrev mark : Float → ℕ
  mark = mark_by plan

  abbrev before : Memory
  before = memory_of p x.asked

  abbrev n : ℕ
  n = number rate l (attempt_of first x)

  abbrev s : SigfoxReceiver
  s = p.receiver

  -- the ledger's records of it
  abbrev written : List (List ℕ)
  written = map (record_of mark) (call_events rate (demod_of rate) l c n)

  answered : Answered s c plan before x.reply.after x.reply.received
  answered = did.1

  cause_is : cause_with rate (lengths_of before) (causes.counts_of rate l) l c plan ≡ n
  cause_is = rw st.size refl

  ranked : AllRanked l.waiting
  ranked = sound-ranked l st.sound

  refusal_is : refusal_of s c plan before ≡ n
  refusal_is = ap (λ (k : ℕ). first_of k (schedule_cause plan)) (number_is rate s l st.state c before st.holds) ∙ cause_is

  -- an accepted call has no cause
  no_cause : n ≡ 0 → cause rate (lengths_of before) (causes.counts_of rate l) l c ≡ 0
  no_cause e = (first_none _ _ (cause_is ∙ e)).0

  after_sound : Sound (after_call rate (demod_of rate) l c n) × Every Clear (call_events rate (demod_of rate) l c n)
  after_sound = call-sound rate l st.sound (attempt_of first x).lent c n (λ e. (first_none _ _ e).0) (call-singles x.asked.request did.0)

  pub refused : x.reply.received.refused ≡ n
  refused = answered.refused ∙ refusal_is

  records_is : records_of s c plan before.samples (refusal_of s c plan before) ≡ written
  records_is = rw refusal_is (records_are rate s l st.state c before st.holds ranked plan n)

  pub count : x.reply.received.count ≡ length written
  count = answered.count ∙ ap length records_is

  pub events : x.reply.after.events ≡ with_records written x.asked.events
  events = answered.events ∙ ap (λ (r : List (List ℕ)). with_records r x.asked.events) records_is

  -- each has its 120 bytes
  pub sized : Every RecordSized written
  sized = events-size mark (call_events rate (demod_of rate) l c n) after_sound.1

  pub records : records_from x ≡ written
  records = ap₂ records_in count events ∙ records_in_lem written x.asked.events sized

  pub rest : x.reply.after.events ≡ with_records (records_from x) x.asked.events
  rest = events ∙ ap (λ (r : List (List ℕ)). with_records r x.asked.events) (sym records)

  pub turn : turn_from x ≡ turn_of rate (demod_of rate) l (attempt_of first x)
  turn = rw (refused, records, events-seen mark (call_events rate (demod_of rate) l c n) after_sound.1) refl

  samples : x.reply.after.samples ≡ samples_after s c p.samples n
  samples = answered.samples ∙ ap (samples_after s c p.samples) refusal_is

  pub next : Stands rate first (port_after x) (after_call rate (demod_of rate) l c n)
  next =
      let k = samples_kept rate l before st.holds s st.state c n no_cause in
      record {
        state = rw (answered.state ∙ ap (state_after s c p.samples) refusal_is) (state-for rate s l st.state c before st.holds ranked n);
        size = ap length samples ∙ k.size ∙ st.size;
        holds = rw samples k.held;
        sound = after_sound.0;
      }

  pub untouched : (x.reply.received.refused ≡ 0 → ⊥) → Untouched p x
  unfolding state_after call_events Free
  untouched h = go n refl
    where
      go : (k : ℕ) → n ≡ k → Untouched p x
      go zero e = absurd (h (refused ∙ e))
      go (suc k) e =
          let m : refusal_of s c plan before ≡ suc k = refusal_is ∙ e in
          let receiver : x.reply.received.receiver ≡ p.receiver = answered.state ∙ ap (state_after s c p.samples) m in
          let same : x.reply.after.samples ≡ p.samples = samples ∙ ap (samples_after s c p.samples) e ∙ samples_same s c p.samples k in
          let none : written ≡ [] = rw e refl in
          record {
            port = same_port (port_after x) p receiver same;
            memory = same_memory x.reply.after before same (events ∙ ap (λ (r : List (List ℕ)). with_records r x.asked.events) none ∙ no_records x.asked.events)
                (rw m at answered.scratch32) (rw m at answered.scratch64);
          }
