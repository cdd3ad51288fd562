-- A call's answer told, by the ledger that the port stands for. Assumes nothing.
use Prim.Native.Nat.{ℕ, zero, suc, ◌*◌, ◌≤◌}
use mathlib.Core.Path.{◌≡◌, refl, sym, ap, ◌∙◌, subst}
use mathlib.Core.List.{List, [], ◌∷◌}
use native.Mathlib.Omega.{arith}
use lib.ListN.{length, drop, length-append, length-drop, length-replicate}
use Rattle.floats.specs.Number.{num}
use Rattle.limits.specs.Limits.{record_size}
use Rattle.demod.specs.Capture.{joined}
use Rattle.shifts.specs.declared.Shifts.{Shifts}
use Rattle.shifts.specs.Shifts.{no_shifts, no_schedule}
use Rattle.ledger.specs.Ledger.{by_frames, Ledger, Call}
use Rattle.ledger.specs.Causes.{number}
use Rattle.ledger.specs.Records.{with_records}
use Rattle.ledger.specs.Records as records
use Rattle.ledger.proofs.Basics.{Every}
use Rattle.ledger.proofs.Seeing.{RecordSized}
use Rattle.receiver.specs.declared.SigfoxReceiver.{SigfoxReceiver}
use Rattle.std.proofs.Common.{Result, Ok, Err}
use Rattle.limits.specs.declared.Refusal.{Refusal}
use Rattle.limits.specs.Refusals.{number_of}
use Rattle.limits.specs.Answer.{cause_of}
use Rattle.limits.proofs.AnswerLaws.{number-positive}
use Rattle.receiver.specs.Calls.{Memory, Received, received, Answered}
use Rattle.history.specs.Runs.{Request, call_of, Typed, Exchange, attempt_of}
use Rattle.history.proofs.Calls as calls
use Rattle.listening_records.specs.Emission.{Emission, Asked, asked, emitted_all, Tells, Grown}
use Rattle.listening_records.specs.declared.Told.{Told}
use Rattle.listening_records.specs.declared.tracked.Tracked.{Tracked}
use Rattle.listening_receiver.specs.Hearing.{rate, most, call_refusal, call_records, ledger_after, heard_by, heard}
use Rattle.listening_receiver.specs.Standing.{silence, StandsFor, count_of}

pub silence-length : length silence ≡ 12000
unfolding silence
silence-length = length-replicate 12000 (num 0)

-- without shifts and closed dates
pub calm : (s : SigfoxReceiver) (c : Call) (x : Shifts) (closed : List ℕ) (before after : Memory) (r : Received) → x ≡ no_shifts → closed ≡ []
    → Answered s c (record { shifts = x; closed = closed }) before after r → Answered s c no_schedule before after r
calm s c x closed before after r e f a = rw (e, f) at a

-- ---- an answer told

-- what a call answers, by its answer and the receiver after it
pub received-refused : (r : Result ℕ Refusal) (s : SigfoxReceiver) → (received r s).refused ≡ cause_of r
unfolding cause_of
received-refused (Ok n) s = refl
received-refused (Err e) s = refl

pub received-count : (r : Result ℕ Refusal) (s : SigfoxReceiver) → (received r s).count ≡ count_of r
received-count (Ok n) s = refl
received-count (Err e) s = refl

pub received-receiver : (r : Result ℕ Refusal) (s : SigfoxReceiver) → (received r s).receiver ≡ s
received-receiver (Ok n) s = refl
received-receiver (Err e) s = refl

heard-refusal : (k : ℕ) (q : Asked) (p : Emission) (rs : List (List ℕ)) (old out : List ℕ) (start : ℕ) (t : Told) → (k ≡ 0 → ⊥) → Tells p old start 0 t out
    → Tells (heard_by k q p rs) old start k t out
unfolding heard_by
heard-refusal zero q p rs old out start t h x = absurd (h refl)
heard-refusal (suc k) q p rs old out start t h x = record { refused = refl; frames = x.frames; messages = x.messages; text = x.text }

pub refused-heard : (e : Refusal) (q : Asked) (p : Emission) (rs : List (List ℕ)) (old out : List ℕ) (start : ℕ) (t : Told) → Tells p old start 0 t out
    → Tells (heard_by (number_of e) q p rs) old start (number_of e) t out
refused-heard e q p rs old out start t x = heard-refusal (number_of e) q p rs old out start t (number-positive e) x

pub accepted-heard : (k : ℕ) (q : Asked) (p : Emission) (rs : List (List ℕ)) → k ≡ 0 → emitted_all q p rs ≡ heard_by k q p rs
unfolding heard_by
accepted-heard k q p rs e = rw e refl

pub grown_most : (n : ℕ) (t r : Told) (old new : List ℕ) → n ≤ most → Grown n t r old new → Grown most t r old new
grown_most n t r old new h g = record { end = omega (arith, g.end); frames = omega (arith, g.frames); messages = omega (arith, g.messages); room = g.room }

-- ---- records that fit

joined_length : (rs : List (List ℕ)) → Every RecordSized rs → length (joined rs) ≡ record_size * length rs
unfolding joined
joined_length [] a = refl
joined_length (r ∷ rs) a = omega (arith, length-append r (joined rs), joined_length rs a.1, a.0)

-- records that a buffer has room for
pub few : (rs : List (List ℕ)) (old : List ℕ) → Every RecordSized rs → length (with_records rs old) ≡ length old → record_size * length rs ≤ length old
unfolding with_records
few rs old w e =
    let n = record_size * length rs in
    omega (arith, joined_length rs w, length-append (joined rs) (drop n old), length-drop n old)

-- ---- a call by the ledger
module _ (s : SigfoxReceiver) (q : Request) (typed : Typed q) (before after : Memory) (r : Received) (a : Answered s (call_of q) no_schedule before after r)
    (e : length before.events ≡ 30720) (f : length before.scratch32 ≡ 12000) (g : length before.scratch64 ≡ 8000)
    (l : Ledger by_frames) (st : StandsFor s before.samples l) where
  abbrev x : Exchange
  x =
      record {
        asked = record { request = q; schedule = no_schedule; events = before.events; scratch32 = before.scratch32; scratch64 = before.scratch64 };
        reply = record { received = r; after = after };
      }

  number_is : number rate l (attempt_of silence x) ≡ call_refusal l (call_of q)
  number_is = rw (silence-length, e, f, g) refl

  pub refused_is : r.refused ≡ call_refusal l (call_of q)
  refused_is = calls.refused rate silence _ l st x (typed, a) ∙ number_is

  pub stands_after : StandsFor r.receiver after.samples (ledger_after l (call_of q))
  stands_after = rw number_is at (calls.next rate silence _ l st x (typed, a))

  pub stands_now : (s' : SigfoxReceiver) → r.receiver ≡ s' → StandsFor s' after.samples (ledger_after l (call_of q))
  stands_now s' same = subst (λ (x : SigfoxReceiver). StandsFor x after.samples (ledger_after l (call_of q))) same stands_after

  -- the records that the count names are the ledger's
  pub records_are : records.records_in r.count after.events ≡ call_records l (call_of q)
  records_are = rw number_is at (calls.records rate silence _ l st x (typed, a))

  -- as many as the buffer holds
  pub at_most_lem : length after.events ≡ 30720 → r.count ≤ most
  at_most_lem h =
      let n = calls.count rate silence _ l st x (typed, a) in
      let k = few _ _ (calls.sized rate silence _ l st x (typed, a)) (ap length (sym (calls.events rate silence _ l st x (typed, a))) ∙ h ∙ sym e) in
      omega (arith, n, k, e)

  -- and they are told
  pub call_told : (a : Result ℕ Refusal) (s' : SigfoxReceiver) (u : Tracked) (room k : ℕ) (p : Emission) (old out' : List ℕ) (start : ℕ) (t : Told) → r ≡ received a s' → room ≡ 8000
      → Tells (heard_by (cause_of a) (asked u room) p (records.records_in (count_of a) after.events)) old start k t out'
      → Tells (heard (asked u 8000) p l (call_of q)) old start k t out'
  unfolding heard
  call_told a s' u room k p old out' start t same z h =
      let c : cause_of a ≡ call_refusal l (call_of q) = sym (received-refused a s') ∙ ap (λ (x : Received). x.refused) (sym same) ∙ refused_is in
      let n : records.records_in (count_of a) after.events ≡ call_records l (call_of q) =
      ap (λ (i : ℕ). records.records_in i after.events) (sym (received-count a s') ∙ ap (λ (x : Received). x.count) (sym same)) ∙ records_are in
      rw (z, c, n) at h
