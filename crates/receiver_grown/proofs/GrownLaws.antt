-- A grown receiver is in order. Assumes nothing.
use mathlib.Core.Bool.{true, false}
use mathlib.Core.List.{List, [], ◌∷◌, ◌++◌}
use mathlib.Core.Logic.{⊎_elim}
use mathlib.Core.Path.{◌≡◌, ◌∙◌, ap, refl, subst, sym}
use Prim.Native.Nat.{ℕ}
use native.Mathlib.Omega.{arith}
use lib.ListN.{length, take}
use lib.Ieee.{Float}
use borrow.Author.Tests.{le-ltb}
use Rattle.limits.specs.Limits.{bad_rate, bad_state, events_size, scratch64}
use Rattle.limits.specs.Samples.{rate_ok}
use Rattle.shifts.specs.Shifts.{Schedule, no_schedule, schedule_cause}
use Rattle.ledger.specs.Ledger.{by_entry, by_frames, Ledger, flush, capacity, push_raw, start_call}
use Rattle.ledger.specs.Causes as causes
use Rattle.ledger.specs.Causes.{Attempt, Lent, orderly, too_short, cause, call_cause}
use Rattle.ledger.specs.Grown.{grown}
use Rattle.ledger.proofs.Basics.{and_true, either}
use Rattle.ledger.proofs.Firsts.{first_some}
use Rattle.ledger.proofs.Carry.{carry, cause-carry}
use Rattle.ledger.proofs.Grown.{every-grown, grown-next, none_grown}
use Rattle.receiver_waiting.specs.Waiting.{waiting_ok}
use Rattle.receiver.specs.State.{ledger_of, counts_of, given_cause, new_state, samples_ok}
use Rattle.receiver.proofs.StateLaws.{orderly_is}
use Rattle.receiver.specs.Calls.{Memory, Received, Answered}
use Rattle.receiver.specs.declared.SigfoxReceiver.{SigfoxReceiver}
use Rattle.history.specs.Runs.{ask_raw, ask_flush, Exchange, Port, call_of, attempt_of}
use Rattle.history.proofs.States.{For}
use Rattle.history.proofs.Calls.{Stands, fresh-stands, next}
use Rattle.receiver_grown.specs.InOrder.{InOrder}
use Rattle.receiver_grown.specs.Grown.{Grown, new, called}

-- ---- the ledger that it stands for

-- a receiver and its sample buffer stand for 01's ledger after some calls
pub record Placed (s : SigfoxReceiver) (samples : List Float) : Type 0 where
  pub rate : ℕ
  pub first : List Float
  pub calls : List Attempt
  pub stands : Stands rate first (record { receiver = s; samples = samples }) (grown rate calls)

pub placed : {s : SigfoxReceiver} {samples : List Float} → Grown s samples → Placed s samples
placed (new rate samples) = record { rate = rate; first = samples; calls = []; stands = rw (none_grown rate) (fresh-stands rate samples) }
placed (called {s} {m} {n} {r} q p typed g a) =
    let i = placed g in
    let x : Exchange = record {
      asked = record { request = q; schedule = p; events = m.events; scratch32 = m.scratch32; scratch64 = m.scratch64 };
      reply = record { received = r; after = n };
    } in
    let port : Port = record { receiver = s; samples = m.samples } in
    let b = attempt_of i.first x in
    record {
      rate = i.rate;
      first = i.first;
      calls = i.calls ++ (b ∷ []);
      stands = rw (grown-next i.rate i.calls b) (next i.rate i.first port (grown i.rate i.calls) i.stands x (typed, a));
    }

-- ---- no cause 5

-- lengths that are enough for a rate
abbrev wide : ℕ → Lent
wide rate = record { samples = capacity rate; events = events_size; scratch32 = capacity rate; scratch64 = scratch64 }

wide_fits : (rate : ℕ) → too_short rate (wide rate) ≡ false
wide_fits rate = rw (le-ltb (capacity rate) (capacity rate) (omega arith), le-ltb events_size events_size (omega arith), le-ltb scratch64 scratch64 (omega arith)) refl

module _ (rate : ℕ) (l : Ledger by_entry) where
  -- a flush of a state that is not in order
  five : rate_ok rate ≡ true → orderly rate (causes.counts_of rate l) l ≡ false → cause rate (wide rate) (causes.counts_of rate l) l flush ≡ bad_state
  unfolding cause call_cause
  five e f = rw (e, wide_fits rate, f) refl

  order_start : orderly rate (causes.counts_of rate l) (start_call l) ≡ orderly rate (causes.counts_of rate l) l
  unfolding orderly start_call
  order_start = refl

-- 01's ledger after some calls, as entries
grown-order : (rate : ℕ) (cs : List Attempt) → rate_ok rate ≡ true → orderly rate (causes.counts_of rate (carry (grown rate cs))) (carry (grown rate cs)) ≡ true
grown-order rate cs e =
    let l = grown rate cs in
    let a : Attempt = record { call = flush; lent = wide rate; schedule = no_schedule } in
    let never : cause rate (wide rate) (causes.counts_of rate l) l flush ≡ bad_state → ⊥
    = λ f. (every-grown rate cs).in_order a (sym (first_some (cause rate (wide rate) (causes.counts_of rate l) l flush) (schedule_cause no_schedule) (omega arith)) ∙ f) in
    ⊎_elim (λ y. y) (λ n. absurd (never (sym (cause-carry rate (wide rate) l flush) ∙ five rate (carry l) e n))) (either (orderly rate (causes.counts_of rate (carry l)) (carry l)))

order_is : (rate : ℕ) (s : SigfoxReceiver) (l : Ledger by_frames) (f : For rate s (carry l)) (samples : List Float) → take (length l.held) samples ≡ l.held
    → orderly s.rate (counts_of s) (ledger_of s samples) ≡ orderly rate (causes.counts_of rate (carry l)) (carry l)
order_is rate s l f samples holds =
    ap (λ (k : Ledger by_entry). orderly s.rate (counts_of s) k) (f.ledger samples holds)
    ∙ ap (λ (k : causes.Counts). orderly s.rate k (start_call (carry l))) f.counts
    ∙ ap (λ (r : ℕ). orderly r (causes.counts_of rate (carry l)) (start_call (carry l))) f.rated
    ∙ order_start rate (carry l)

-- what stands for 01's ledger after some calls is in order
pub stands-order : (rate : ℕ) (first : List Float) (p : Port) (cs : List Attempt) → Stands rate first p (grown rate cs) → InOrder p.receiver p.samples
stands-order rate first p cs st =
    let l = grown rate cs in
    record {
      order = λ e. order_is rate p.receiver l st.state p.samples st.holds ∙ grown-order rate cs (ap rate_ok (sym st.state.rated) ∙ e);
    }

pub in_order : {s : SigfoxReceiver} {samples : List Float} → Grown s samples → InOrder s samples
in_order {s} {samples} g = let i = placed g in stands-order i.rate i.first (record { receiver = s; samples = samples }) i.calls i.stands

-- ---- a push on a receiver in order

-- the order of the samples and the starts, and of the messages, where causes 1 to 3 don't apply
pub parts : (s : SigfoxReceiver) (samples : List Float) (b : Lent) (n : ℕ) → InOrder s samples → given_cause s.rate b n ≡ 0
    → (samples_ok s.rate s.held s.base s.unscanned s.starts samples ≡ true) × (waiting_ok s.waiting ≡ true)
unfolding given_cause
parts s samples b n o e =
    and_true (samples_ok s.rate s.held s.base s.unscanned s.starts samples) (waiting_ok s.waiting)
    (sym (orderly_is s samples)
    ∙ o.order
    (⊎_elim
    (λ y. y)
    (λ f. absurd (let z : ◌≡◌ {A = ℕ} bad_rate 0 = rw f at e in omega arith))
    (either (rate_ok s.rate))))

-- ---- call by call

pub grown_new : {s : SigfoxReceiver} (rate : ℕ) (samples : List Float) → s ≡ new_state rate → Grown s samples
grown_new rate samples e = subst (λ (x : SigfoxReceiver). Grown x samples) (sym e) (new rate samples)

pub grown-raw : {s : SigfoxReceiver} {m n : Memory} {r : Received} (raw : List ℕ) (p : Schedule) → Answered s (push_raw raw) p m n r → Grown s m.samples → Grown r.receiver n.samples
unfolding call_of
grown-raw raw p a g = called (ask_raw raw) p tt g a

pub grown-flush : {s : SigfoxReceiver} {m n : Memory} {r : Received} (p : Schedule) → Answered s flush p m n r → Grown s m.samples → Grown r.receiver n.samples
unfolding call_of
grown-flush p a g = called ask_flush p tt g a
