-- What the theorem says is not empty: every list of calls has a run, and one is worked out. A run with a frame and a message is in the ledger's Example.
use mathlib.Core.Path.{◌≡◌, refl, ap, ◌∙◌}
use mathlib.Core.List.{List, [], ◌∷◌, map}
use Prim.Native.Nat.{ℕ, zero, suc}
use lib.Ieee.{Float, nan, neg, of_int, lt, sub, add, mul, div, le, eq, is_nan, round, to_unsigned}
use lib.ListN.{length, replicate}
use Rattle.ledger.specs.Ledger.{push_raw, flush}
use Rattle.ledger.specs.Ledger as ledger
use Rattle.ledger.specs.Causes as causes
use Rattle.shifts.specs.Shifts as shifts
use Rattle.shifts.specs.Shifts.{no_shifts, no_schedule}
use Rattle.ledger.specs.Causes.{Attempt}
use Rattle.ledger.specs.Demodulation.{demod_of}
use Rattle.ledger.specs.History.{see, history, run_of}
use Rattle.ledger.specs.Demand3.{Turn}
use Rattle.limits.specs.Samples.{all_dbm}
use Rattle.bursts.specs.Bursts.{clusters, bursts_in, bursts_of}
use Rattle.bursts.specs.Levels.{quantile, noise_floor}
use Rattle.order.specs.Order.{kth}
use Rattle.order.specs.Sorted.{sorted}
use Rattle.floats.specs.Floor.{floor}
use Rattle.ledger.specs.Records.{with_records}
use Rattle.receiver.specs.Calls.{lengths_of, refusal_of, records_of, state_after, samples_after, Free}
use Rattle.history.specs.Runs.{Request, ask_raw, ask_flush, call_of, Typed, Asked, Exchange, Port, memory_of, Did, port_after, Run, fresh_port, turn_from, attempt_of}
use Rattle.history.proofs.Theorem.{theorem}

-- a call with the number n that does what its contract says, and leaves the scratch as it was
abbrev answer_with : ℕ → Port → Asked → Exchange
answer_with n p a =
    record {
      asked = a;
      reply =
          record {
            received =
                record {
                  refused = n;
                  count = length (records_of p.receiver (call_of a.request) a.schedule p.samples n);
                  receiver = state_after p.receiver (call_of a.request) p.samples n;
                };
            after =
                record {
                  samples = samples_after p.receiver (call_of a.request) p.samples n;
                  events = with_records (records_of p.receiver (call_of a.request) a.schedule p.samples n) a.events;
                  scratch32 = a.scratch32;
                  scratch64 = a.scratch64;
                };
          };
    }

abbrev answer_to : Port → Asked → Exchange
answer_to p a = answer_with (refusal_of p.receiver (call_of a.request) a.schedule (memory_of p a)) p a

free : (n : ℕ) (l : List Float) → Free n l l
unfolding Free
free zero l = tt
free (suc n) l = refl

did : (p : Port) (a : Asked) → Typed a.request → Did p (answer_to p a)
did p a w =
    let n = refusal_of p.receiver (call_of a.request) a.schedule (memory_of p a) in
    (w, record { refused = refl; count = refl; state = refl; samples = refl; events = refl; scratch32 = free n a.scratch32; scratch64 = free n a.scratch64 })

abbrev pub AllTyped : List Asked → Type 0
AllTyped [] = Unit
AllTyped (a ∷ more) = Typed a.request × AllTyped more

pub runs_exist : (p : Port) (calls : List Asked) → AllTyped calls → (xs : List Exchange) × (map (λ x. x.asked) xs ≡ calls) × Run p xs
runs_exist p [] w = ([], refl, tt)
runs_exist p (a ∷ more) w =
    let x = answer_to p a in
    let i = runs_exist (port_after x) more w.1 in
    (x ∷ i.0, ap (λ (l : List Asked). a ∷ l) i.1, (did p a w.0, i.2))

-- ---- one run worked out: at 200 samples/s a byte is pushed, a push with a short scratch is refused with 2, one with closed dates that don't rise with 11, and a flush
-- finds nothing

abbrev enough : Request → Asked
enough r = record { request = r; schedule = no_schedule; events = replicate 30720 0; scratch32 = replicate 2400 nan; scratch64 = replicate 6000 nan }

abbrev too_little : Request → Asked
too_little r = record { request = r; schedule = no_schedule; events = replicate 30720 0; scratch32 = replicate 2400 nan; scratch64 = [] }

abbrev closed_twice : Request → Asked
closed_twice r =
    record {
      request = r;
      schedule = record { shifts = no_shifts; closed = 3 ∷ 3 ∷ [] };
      events = replicate 30720 0;
      scratch32 = replicate 2400 nan;
      scratch64 = replicate 6000 nan;
    }

abbrev places : List Float
places = replicate 2400 nan

abbrev four_calls : List Asked
four_calls = enough (ask_raw (200 ∷ [])) ∷ too_little (ask_raw (200 ∷ [])) ∷ closed_twice (ask_raw (200 ∷ [])) ∷ enough ask_flush ∷ []

abbrev attempt_with : List Float → Asked → Attempt
attempt_with first a =
    record { call = call_of a.request; lent = lengths_of (record { samples = first; events = a.events; scratch32 = a.scratch32; scratch64 = a.scratch64 }); schedule = a.schedule }

attempts : (first : List Float) (xs : List Exchange) → map (attempt_of first) xs ≡ map (attempt_with first) (map (λ x. x.asked) xs)
attempts first [] = refl
attempts first (x ∷ xs) = ap (λ (l : List Attempt). attempt_of first x ∷ l) (attempts first xs)

abbrev four_turns : List Turn
four_turns =
    record { call = push_raw (200 ∷ []); refusal = 0; records = [] } ∷ record { call = push_raw (200 ∷ []); refusal = 2; records = [] }
    ∷ record { call = push_raw (200 ∷ []); refusal = 11; records = [] } ∷ record { call = flush; refusal = 0; records = [] } ∷ []

computed : run_of 200 (demod_of 200) (map (attempt_with places) four_calls) ≡ four_turns
unfolding history call_of see all_dbm le lt eq neg of_int sub add mul div is_nan round causes.cause causes.call_cause causes.orderly causes.below causes.since causes.unlike causes.all_fit causes.any_nan causes.first_of shifts.shifts_cause shifts.shifts_ok shifts.start_ok shifts.rising shifts.rising_from causes.call_events causes.after_call ledger.fresh ledger.dbm_of ledger.scans ledger.start_call ledger.fills ledger.fill ledger.halve ledger.amount ledger.add ledger.due ledger.scanned ledger.scan ledger.take_each ledger.forget ledger.starts_from ledger.spaced ledger.closed ledger.messages ledger.now ledger.seconds ledger.ready ledger.chosen ledger.others bursts_of bursts_in clusters noise_floor quantile kth sorted floor to_unsigned
computed = refl

pub worked_out : (xs : List Exchange) → Run (fresh_port 200 places) xs → map (λ x. x.asked) xs ≡ four_calls → map turn_from xs ≡ four_turns
worked_out xs run e = (theorem.holds 200 places xs run).as_ledger ∙ ap (run_of 200 (demod_of 200)) (attempts places xs ∙ ap (map (attempt_with places)) e) ∙ computed
