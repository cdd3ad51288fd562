-- What an array of open messages stands for, and 01's order of a state as far as its messages go. Assumes nothing.
use Rattle.std.specs.Prelude.{◌≡◌, List, [], ◌∷◌, ◌++◌, map, Bool, true, false, not, ◌&&◌, ◌||◌, cond, ℕ, suc, ◌+◌, ◌*◌, ◌<◌, length, take, drop, replicate, leb, eqb, pos, Float, None}
use Rattle.floats.specs.Number.{num}
use Rattle.ledger.specs.Merge.{expires}
use Rattle.ledger.specs.Ledger.{by_entry}
use Rattle.ledger.specs.Causes.{most_waiting, unlike, all_fit, any_nan}
use Rattle.ledger.specs.Room.{open_places}
use Rattle.ledger.specs.declared.Pending.{Pending}
use Rattle.record.specs.declared.FrameSpan.{FrameSpan}
use Rattle.receiver_waiting.specs.declared.Waiting.{Waiting}
use Rattle.receiver_waiting.specs.declared.Leaving.{Leaving}
use Rattle.receiver_waiting.specs.declared.Leaving.TheVariants.{All, CompleteAt}
use Rattle.receiver_waiting.specs.declared.Looked.{Looked}
use Rattle.receiver_waiting.specs.declared.Condition.{Condition}

-- the messages that wait, in order
abbrev pub waiting_of : Waiting → List Pending
waiting_of w = take w.count w.messages

abbrev pub key_is : ℕ → ℕ → Pending → Bool
key_is d c p = eqb p.message.device_id d && eqb p.message.counter c

-- the place of the first message with a key, the length where there is none
unfoldable pub find_key : ℕ → ℕ → List Pending → ℕ
find_key d c [] = 0
find_key d c (p ∷ l) = cond (key_is d c p) 0 (suc (find_key d c l))

-- a push writes the messages that are complete, a flush all
unfoldable pub leaves : Leaving → Pending → Bool
leaves All p = true
leaves (CompleteAt now) p = expires now p

unfoldable pub any_expires : Float → List Pending → Bool
any_expires now [] = false
any_expires now (p ∷ l) = expires now p || any_expires now l

-- ---- the array of a list of messages

abbrev pub blank_span : FrameSpan
blank_span = record { rank = 0; time = num 0; end = num 0 }

-- what stands in each place of a fresh receiver
abbrev pub blank : Pending
blank =
    record {
      message =
          record {
            device_id = 0;
            counter = 0;
            payload = replicate 12 0;
            payload_len = 0;
            bit = None;
            downlink = false;
            control = false;
            auth = replicate 5 0;
            auth_len = 0;
            time = num 0;
            first_frame_end = None;
            rssi = num 0;
            spans = blank_span ∷ blank_span ∷ blank_span ∷ [];
            clock_error_ppm = pos 0;
            start = 0;
            depth = 0;
          };
      last = num 0;
    }

-- no message, and every place blank
unfoldable pub none : Waiting
none = record { messages = replicate open_places blank; count = 0 }

-- the messages l in the first places of an array; places past the count keep their contents
unfoldable pub over : Waiting → List Pending → Waiting
over w l = record { messages = l ++ drop (length l) w.messages; count = length l }

-- ---- a state's messages

-- device and counter as one number
abbrev pub key_number : Pending → ℕ
key_number p = p.message.device_id * 65536 + p.message.counter

unfoldable pub number_in : ℕ → List ℕ → Bool
number_in k [] = false
number_in k (x ∷ l) = eqb x k || number_in k l

-- no number stands there twice
unfoldable pub distinct : List ℕ → Bool
distinct [] = true
distinct (x ∷ l) = not (number_in x l) && distinct l

-- every counter is one of the field's
abbrev pub Counters : List Pending → Type 0
Counters [] = Unit
Counters (p ∷ l) = (p.message.counter < 65536) × Counters l

-- what one look at the messages l finds, at a time
pub record Seen (l : List Pending) (now : Float) (r : Looked) : Type 0 where
  pub keys : take (length l) r.keys ≡ map key_number l
  pub counters : Counters l
  pub fit : r.fit ≡ all_fit by_entry l
  pub nan : r.nan ≡ any_nan by_entry l
  pub expires : r.expires ≡ any_expires now l

-- "at most 128 [02: 40] waiting, no two alike in device and counter, each with .."
abbrev pub waiting_ok : Waiting → Bool
waiting_ok w = leb w.count most_waiting && (unlike by_entry (waiting_of w) && all_fit by_entry (waiting_of w))

-- of more than 40 none is looked at
pub record Checked (w : Waiting) (now : Float) (r : Condition) : Type 0 where
  pub ok : r.ok ≡ waiting_ok w
  pub nan : r.nan ≡ leb w.count most_waiting && any_nan by_entry (waiting_of w)
  pub expires : r.expires ≡ leb w.count most_waiting && any_expires now (waiting_of w)
