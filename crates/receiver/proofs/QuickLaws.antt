-- A push that is accepted and only adds its samples, by what its callers ask first. Assumes nothing.
use mathlib.Core.Bool.{cond, false, true}
use mathlib.Core.List.{List}
use mathlib.Core.Path.{◌≡◌, ◌∙◌, refl, subst, sym}
use mathlib.Core.Logic.{⊎_elim}
use Prim.Native.Nat.{ℕ, ◌+◌, ◌*◌, ◌≤◌, ◌<◌}
use native.Mathlib.Omega.{arith}
use lib.ListN.{length}
use lib.Ieee.{Float}
use lib.Dec.{leb, ltb}
use borrow.Author.Tests.{le-ltb, leb-true, ltb-false, ltb-true}
use Rattle.limits.specs.Limits.{bad_rate, highest_rate, longest_stream, lowest_rate, stream}
use Rattle.limits.specs.Samples.{all_dbm, rate_ok}
use Rattle.ledger.specs.Ledger.{capacity, push, seconds}
use Rattle.ledger.specs.Causes.{Lent, most_waiting}
use Rattle.shifts.specs.Shifts.{Schedule, schedule_cause}
use Rattle.ledger.proofs.Basics.{and_true, either}
use Rattle.ledger.proofs.Firsts.{first_zero}
use Rattle.receiver_starts.specs.declared.Starts.{Starts}
use Rattle.receiver_waiting.specs.Waiting as waiting
use Rattle.receiver_waiting.specs.Waiting.{waiting_of, any_expires}
use Rattle.receiver_waiting.specs.declared.Condition.{Condition}
use Rattle.receiver_waiting.specs.declared.Waiting.{Waiting}
use Rattle.receiver.specs.State.{given_cause, messages_cause, numbers_ok, samples_ok, state_cause}
use Rattle.receiver.specs.Calls.{Memory, lengths_of}
use Rattle.receiver.specs.Running.{Quiet, OnlyAdds, viewed, Views}
use Rattle.receiver.specs.declared.View.{View}
use Rattle.receiver.specs.declared.SigfoxReceiver.{SigfoxReceiver}
use Rattle.receiver.proofs.AnswerLaws.{refusal_is}
use Rattle.receiver.proofs.CauseLaws.{order_cause, order-messages, push-later, state-last, none_wait}

pub samples-calm : (rate held base u : ℕ) (s : Starts) (buf : List Float) → samples_ok rate held base u s buf ≡ true → 2 * u < rate
unfolding samples_ok
samples-calm rate held base u s buf e =
    let a = and_true (numbers_ok rate held base u) _ e in
    let b = and_true (leb held (capacity rate)) _ a.0 in
    ltb-true (2 * u) rate (and_true (leb (base + held) longest_stream) _ b.1).1

pub given-rated : (rate : ℕ) (b : Lent) (n : ℕ) → given_cause rate b n ≡ 0 → rate ≤ highest_rate
unfolding given_cause
given-rated rate b n e =
    ⊎_elim
    (λ f. leb-true rate highest_rate (and_true (leb lowest_rate rate) (leb rate highest_rate) f).1)
    (λ f. absurd (let z : ◌≡◌ {A = ℕ} bad_rate 0 = rw f at e in omega arith))
    (either (rate_ok rate))

pub stream_none : (k x : ℕ) → x ≡ cond (ltb longest_stream k) stream 0 → x ≡ 0 → k ≤ longest_stream
stream_none k x e z =
    ⊎_elim
    (λ f. absurd (let w : x ≡ stream = rw f at e in omega arith))
    (λ f. ltb-false longest_stream k f)
    (either (ltb longest_stream k))

-- of the memory that is looked at
pub view_quiet : (rate held base u : ℕ) (s : Starts) (v : View) (m : Memory) (n : ℕ) → Views v m → Quiet rate held base u s v.samples.now (viewed v) n
    → Quiet rate held base u s m.samples (lengths_of m) n
view_quiet rate held base u s v m n w q =
    subst (λ (b : Lent). Quiet rate held base u s m.samples b n) w.lengths
    (subst (λ (l : List Float). Quiet rate held base u s l (viewed v) n) w.samples q)

-- messages in order, none of which is found complete
pub none_expire : (w : Waiting) {now : Float} (r : Condition) → waiting.Checked w now r → r.ok ≡ true → r.expires ≡ false → any_expires now (waiting_of w) ≡ false
none_expire w {now} r k o e =
    let few = (and_true (leb w.count most_waiting) _ (sym k.ok ∙ o)).0 in
    sym (rw few at k.expires) ∙ e

module _ (s : SigfoxReceiver) (p : Schedule) (m : Memory) (xs : List Float) (n : ℕ) (en : n ≡ length xs) (v : all_dbm xs ≡ true) (planned : schedule_cause p ≡ 0)
    (q : Quiet s.rate s.held s.base s.unscanned s.starts m.samples (lengths_of m) n) where
  pub only_adds : 0 ≡ messages_cause s.waiting
      → any_expires (seconds s.rate (s.base + (s.held + n))) (waiting_of s.waiting) ≡ false → OnlyAdds s (push xs) p n m
  only_adds none stay =
      let h : 0 ≡ order_cause s m.samples = none ∙ order-messages s m.samples q.order in
      let t : 0 ≡ state_cause s m.samples n = state-last s m.samples n 0 h (λ g. omega arith) 0 (rw (le-ltb longest_stream (s.base + s.held + n) q.stream) refl) in
      record {
        accepted = sym (refusal_is s (push xs) p m 0 0 (sym planned ∙ first_zero 0 (schedule_cause p) refl) (push-later s m.samples (lengths_of m) xs n 0 en q.given (t ∙ rw v refl)));
        adds = record { some = q.some; fits = q.fits; quiet = q.calm; stay = stay };
      }

  -- with no message
  pub only_adds_none : s.waiting.count ≡ 0 → OnlyAdds s (push xs) p n m
  unfolding any_expires
  only_adds_none z = only_adds (none_wait s.waiting z) (rw z refl)
