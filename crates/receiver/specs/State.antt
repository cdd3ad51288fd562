-- What a state and the sample buffer stand for, the state for a ledger, and what a state is asked. Assumes nothing.
use Rattle.std.specs.Prelude.{List, [], Bool, not, ◌&&◌, cond, ℕ, ◌+◌, ◌*◌, length, take, leb, ltb, Float}
use Rattle.limits.specs.Limits.{bad_rate, short, long, bad_state, stream, bad_number, longest_stream}
use Rattle.limits.specs.Samples.{all_dbm, rate_ok}
use Rattle.ledger.specs.Ledger.{Ledger, by_entry, capacity}
use Rattle.ledger.specs.Causes.{Counts, Lent, too_short, orderly, any_nan}
use Rattle.receiver_starts.specs.Starts as starts
use Rattle.receiver_waiting.specs.Waiting as waiting
use Rattle.receiver_starts.specs.declared.Starts.{Starts}
use Rattle.receiver_waiting.specs.declared.Waiting.{Waiting}
use Rattle.receiver.specs.declared.SigfoxReceiver.{SigfoxReceiver}

-- the ledger that a state and its sample buffer stand for
abbrev pub ledger_of : SigfoxReceiver → List Float → Ledger by_entry
ledger_of s buf =
    record {
      held = take s.held buf;
      base = s.base;
      unscanned = s.unscanned;
      starts = starts.remembered s.base s.starts;
      waiting = waiting.waiting_of s.waiting;
      heard = [];
    }

-- the counts that a state states, and whether its starts are in order: "The order rules of the state are said over these distances"
abbrev pub counts_of : SigfoxReceiver → Counts
counts_of s =
    record { held = s.held; starts = starts.starts_ok s.rate s.base s.held s.starts; waiting = s.waiting.count }

-- the state of a fresh receiver
unfoldable pub new_state : ℕ → SigfoxReceiver
new_state rate = record { rate = rate; held = 0; base = 0; unscanned = 0; starts = starts.none; waiting = waiting.none }

-- the state s, changed so that it stands for the ledger l: places past the counts keep their contents
unfoldable pub state_over : SigfoxReceiver → Ledger by_entry → SigfoxReceiver
state_over s l =
    record {
      rate = s.rate;
      held = length l.held;
      base = l.base;
      unscanned = l.unscanned;
      starts = starts.over s.starts (starts.distances_of l.base l.starts);
      waiting = waiting.over s.waiting l.waiting;
    }

-- ---- 01's order of a state, by its parts

abbrev pub numbers_ok : ℕ → ℕ → ℕ → ℕ → Bool
numbers_ok rate held base unscanned = leb held (capacity rate) && (leb (base + held) longest_stream && ltb (2 * unscanned) rate)

unfoldable pub samples_ok : ℕ → ℕ → ℕ → ℕ → Starts → List Float → Bool
samples_ok rate held base unscanned s buf =
    numbers_ok rate held base unscanned && (all_dbm (take held buf) && starts.starts_ok rate base held s)

-- ---- the causes, by their subjects: together they are the ledger's `cause`

-- causes 1 to 3 of a call that hands in n samples
unfoldable pub given_cause : ℕ → Lent → ℕ → ℕ
given_cause rate b n = cond (not (rate_ok rate)) bad_rate (cond (too_short rate b) short (cond (ltb (capacity rate) n) long 0))

-- cause 5 or 9 of a state's messages
unfoldable pub messages_cause : Waiting → ℕ
messages_cause w = cond (not (waiting.waiting_ok w)) bad_state (cond (any_nan by_entry (waiting.waiting_of w)) bad_number 0)

-- causes 5 to 9 of a push of n samples
unfoldable pub state_cause : SigfoxReceiver → List Float → ℕ → ℕ
state_cause s buf n =
    cond (not (orderly s.rate (counts_of s) (ledger_of s buf))) bad_state
    (cond (ltb longest_stream (s.base + s.held + n)) stream
    (cond (any_nan by_entry (waiting.waiting_of s.waiting)) bad_number 0))
