-- Scaffolding. An accepted call under way: what the code has of it stands for a ledger. Assumes nothing.
use Rattle.std.specs.Prelude.{◌≡◌, true, false, List, map, ℕ, ◌+◌, ◌*◌, ◌≤◌, ◌<◌, length, Float}
use Rattle.std.proofs.Math.Seq.{paste}
use Rattle.limits.specs.Limits.{lowest_rate, highest_rate, longest_stream, record_size, events_size, scratch64}
use Rattle.ledger.specs.Ledger.{Ledger, Call, by_entry, capacity, seconds, ready, scans, closed, events}
use Rattle.ledger.specs.Causes as causes
use Rattle.ledger.specs.Causes.{most_starts}
use Rattle.ledger.specs.Room.{InOrder, Accepted, open_places}
use Rattle.ledger.specs.Demodulation.{demod_of}
use Rattle.ledger.specs.Records.{record_of, with_records}
use Rattle.shifts.specs.Shifts.{Schedule}
use Rattle.receiver_starts.specs.Starts.{distances, starts_ok}
use Rattle.receiver_starts.specs.declared.Starts.{Starts}
use Rattle.receiver_waiting.specs.Waiting.{waiting_of, leaves, any_expires}
use Rattle.receiver_waiting.specs.declared.Leaving.{Leaving}
use Rattle.receiver_scan.specs.Midway.{Midway}
use Rattle.receiver_scan.specs.declared.Scanned.{Scanned}
use Rattle.receiver_closing.specs.Written.{written}
use Rattle.receiver.specs.State.{ledger_of, counts_of, state_over, samples_ok, given_cause}
use Rattle.receiver.specs.Calls.{Memory, Received, lengths_of, refusal_of, samples_after}
use Rattle.receiver.specs.declared.SigfoxReceiver.{SigfoxReceiver}
use Rattle.receiver.specs.declared.Lengths.{Lengths}
use Rattle.receiver.specs.declared.View.{View}

-- no cause applies to the call c on the state s
pub record Passes (s : SigfoxReceiver) (c : Call) (samples : List Float) (events : List ℕ) (scratch : List Float) : Type 0 where
  pub lowest : lowest_rate ≤ s.rate
  pub highest : s.rate ≤ highest_rate
  pub places : capacity s.rate ≤ length samples
  pub bytes : events_size ≤ length events
  pub numbers : scratch64 ≤ length scratch
  pub counts : counts_of s ≡ causes.counts_of s.rate (ledger_of s samples)
  pub starts : starts_ok s.rate s.base s.held s.starts ≡ true
  pub remembers : s.starts.count ≡ length (distances s.starts)
  pub order : InOrder s.rate (ledger_of s samples)
  pub accepted : Accepted s.rate (ledger_of s samples) c

-- samples held, the first one's index, samples not looked at and what a scan left stand for the ledger l, in a call that found the event buffer as `old`
pub record Under (l : Ledger by_entry) (old : List ℕ) (held base unscanned : ℕ) (t : Scanned) (now : List ℕ) : Type 0 where
  pub holds : held ≡ length l.held
  pub based : base ≡ l.base
  pub unseen : unscanned ≡ l.unscanned
  pub midway : Midway l old t.starts t.waiting t.count now

-- what the end of a call asks: the starts and the messages are within their arrays, and the records of those that leave have room
pub record Closable (mark : Float → ℕ) (t : Scanned) (which : Leaving) (events : List ℕ) : Type 0 where
  pub starts : t.starts.count ≤ most_starts
  pub waiting : t.waiting.count ≤ open_places
  pub room : record_size * (t.count + length (written mark which (waiting_of t.waiting))) ≤ length events

-- a push writes the messages that are complete at its time, a flush all
abbrev pub EndsBy : Call → Leaving → Float → Type 0
EndsBy c which t = ready by_entry c t ≡ leaves which

-- the answer to an accepted call c on the state s whose scans left l, and its records with their marks
pub record Ended (s : SigfoxReceiver) (c : Call) (mark : Float → ℕ) (l : Ledger by_entry) (old : List ℕ) (r : Received) (now : List ℕ) : Type 0 where
  pub answer : r ≡ record { refused = 0; count = length (map (record_of mark) (events s.rate c l)); receiver = state_over s (closed s.rate c l) }
  pub records : now ≡ with_records (map (record_of mark) (events s.rate c l)) old

-- the accepted call c on the state s is done
pub record Answers (s : SigfoxReceiver) (c : Call) (mark : Float → ℕ) (before : List Float) (old : List ℕ) (r : Received) (after : List Float) (now : List ℕ) : Type 0 where
  pub ended : Ended s c mark (scans s.rate (demod_of s.rate) (ledger_of s before) c) old r now
  pub samples : after ≡ samples_after s c before 0

-- ---- a push that only adds its samples

-- what is known of an accepted push of n samples before it is looked at
pub record Addable (s : SigfoxReceiver) (n : ℕ) : Type 0 where
  pub highest : s.rate ≤ highest_rate
  pub held : s.held ≤ capacity s.rate
  pub size : n ≤ capacity s.rate
  pub unscanned : 2 * s.unscanned < s.rate
  pub stream : s.base + s.held + n ≤ longest_stream
  pub waiting : s.waiting.count ≤ open_places

-- there is room for them without a drop, no scan is due, and no message leaves
pub record Adds (s : SigfoxReceiver) (n : ℕ) : Type 0 where
  pub some : 1 ≤ n
  pub fits : s.held + n ≤ capacity s.rate
  pub quiet : 2 * (s.unscanned + n) < s.rate
  pub stay : any_expires (seconds s.rate (s.base + (s.held + n))) (waiting_of s.waiting) ≡ false

-- the samples xs are added
pub record Added (s : SigfoxReceiver) (xs before : List Float) (r : Received) (after : List Float) : Type 0 where
  pub answer : r ≡ record {
    refused = 0;
    count = 0;
    receiver =
        record {
          rate = s.rate;
          held = s.held + length xs;
          base = s.base;
          unscanned = s.unscanned + length xs;
          starts = s.starts;
          waiting = s.waiting;
        };
  }
  pub samples : after ≡ paste before s.held xs (length xs)

-- no cause but the messages' applies to a push of n samples, there is room for them without a drop, and no scan is due
pub record Quiet (rate held base unscanned : ℕ) (s : Starts) (samples : List Float) (b : causes.Lent) (n : ℕ) : Type 0 where
  pub given : given_cause rate b n ≡ 0
  pub order : samples_ok rate held base unscanned s samples ≡ true
  pub stream : base + held + n ≤ longest_stream
  pub some : 1 ≤ n
  pub fits : held + n ≤ capacity rate
  pub calm : 2 * (unscanned + n) < rate

-- the push c of n samples is accepted, and only adds them
pub record OnlyAdds (s : SigfoxReceiver) (c : Call) (p : Schedule) (n : ℕ) (m : Memory) : Type 0 where
  pub accepted : refusal_of s c p m ≡ 0
  pub adds : Adds s n

-- ---- what a call's checks look at

abbrev pub lent_of : Lengths → causes.Lent
lent_of b = record { samples = b.samples; events = b.events; scratch32 = b.scratch32; scratch64 = b.scratch64 }

abbrev pub viewed : View → causes.Lent
viewed v = record { samples = length v.samples.now; events = v.events; scratch32 = v.scratch32; scratch64 = v.scratch64 }

-- the samples and the lengths are those of the memory m
pub record Views (v : View) (m : Memory) : Type 0 where
  pub samples : v.samples.now ≡ m.samples
  pub lengths : viewed v ≡ lengths_of m
