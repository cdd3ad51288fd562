-- Scaffolding. What the code of `listen` has of the definition, and what it hands to `write`. Assumes nothing.
use Rattle.std.specs.Prelude.{ℕ, ◌+◌, ◌*◌, ◌≤◌, ◌<◌, ◌^◌, ◌≡◌, false, List, ◌++◌, length, take, drop, Float, Result, Ok, Err}
use Rattle.ledger.specs.Ledger.{by_frames, Ledger, push_raw}
use Rattle.limits.specs.Answer.{cause_of}
use Rattle.limits.specs.Refusals.{number_of}
use Rattle.frequency.specs.Lent.{Lists}
use Rattle.frequency.specs.Calls.{fresh}
use Rattle.frequency_grown.specs.Rising.{Single}
use Rattle.receiver.specs.declared.SigfoxReceiver.{SigfoxReceiver}
use Rattle.listening_lines.specs.Text.{widest, Added}
use Rattle.listening_receiver.specs.Hearing.{rate, most}
use Rattle.listening_receiver.specs.Standing.{StandsFor}
use Rattle.listening.specs.declared.Listener.{Listener}
use Rattle.listening.specs.declared.Brought.{Brought}
use Rattle.listening.specs.declared.Stop.{Stop}
use Rattle.listening.specs.declared.Stop.TheVariants.{Refused, Broken}
use Rattle.listening.specs.Program.{State, Went, record_bytes, samples_each, step_hz, begun, received, handed, step, listen, nothing_heard, after, said, Accepted}

-- the definition's state that the code's numbers, the tracker with its lists and a ledger are
abbrev pub state_of : Listener → Lists → Ledger by_frames → State
state_of l m g =
    record { started = l.started; passed = l.passed; tracker = l.tracker; lists = m; ledger = g; samples = l.samples; frames = l.frames; messages = l.messages }

-- after the tracker's side of a record: the refusal's number or 0, where the text ends, and that side
pub record Followed : Type 0 where
  pub refused : ℕ
  pub end : ℕ
  pub listener : Listener

-- after a record: the same, and both sides
pub record Stepped : Type 0 where
  pub refused : ℕ
  pub end : ℕ
  pub listener : Listener
  pub receiver : SigfoxReceiver

abbrev pub followed : Brought → Listener → Followed
followed b l = record { refused = cause_of b.went; end = b.end; listener = l }

abbrev pub stepped : Brought → Listener → SigfoxReceiver → Stepped
stepped b l v = record { refused = cause_of b.went; end = b.end; listener = l; receiver = v }

-- nothing was read
abbrev pub new_listener : Listener
new_listener = record { started = false; passed = 0; samples = 0; frames = 0; messages = 0; tracker = fresh rate 0 step_hz }

-- ---- one record

-- bytes of the text of a record: a T line, an M line for each event record that fits, and an R line
abbrev pub out_places : ℕ
out_places = widest + widest * most + widest

-- the first record that isn't 0 makes the tracker
abbrev pub begun_as : Listener → ℕ → Listener
begun_as l hz = record { started = l.started; passed = l.passed; samples = l.samples; frames = l.frames; messages = l.messages; tracker = begun l.started l.tracker hz }

-- a record that is passed over
abbrev pub passed_as : Listener → Listener
passed_as l =
    record { started = l.started; passed = l.passed + samples_each; samples = l.samples + samples_each; frames = l.frames; messages = l.messages; tracker = l.tracker }

-- what a record leaves: the refusal, the text at the start of the buffer, the state, and a receiver that stands for its ledger
pub record Goes (w : Went) (out : List ℕ) (r : Stepped) (m : Lists) (places : List Float) (out' : List ℕ) : Type 0 where
  pub refused : r.refused ≡ w.refused
  pub text : Added out 0 (handed w) r.end out'
  pub state : state_of r.listener m w.state.ledger ≡ w.state
  pub stands : StandsFor r.receiver places w.state.ledger

-- counts that may still grow by k; a record passes 8 samples over at the most, a 32nd of the 256 that a call may add to the other counts
pub record Room (k : ℕ) (l : Listener) : Type 0 where
  pub passed : 32 * l.passed + k ≤ 2 ^ 58
  pub samples : l.samples + k < 2 ^ 64
  pub frames : l.frames + k < 2 ^ 64
  pub messages : l.messages + k < 2 ^ 64

-- counts that grew by k at the most
pub record Near (k : ℕ) (l r : Listener) : Type 0 where
  pub passed : 32 * r.passed ≤ 32 * l.passed + k
  pub samples : r.samples ≤ l.samples + k
  pub frames : r.frames ≤ l.frames + k
  pub messages : r.messages ≤ l.messages + k

-- what a call of the receiver keeps, and bounds
pub record Receives (l : Listener) (r : Stepped) (out out' : List ℕ) : Type 0 where
  pub tracker : r.listener.tracker ≡ l.tracker
  pub passed : r.listener.passed ≡ l.passed
  pub samples : r.listener.samples ≡ l.samples
  pub frames : r.listener.frames ≤ l.frames + most
  pub messages : r.listener.messages ≤ l.messages + most
  pub end : r.end ≤ out_places
  pub room : length out' ≡ length out

-- what the tracker's side of a record leaves: where it was refused, the record's whole text and state; otherwise a text, behind which the receiver's call follows
pub record Follows (went : Ledger by_frames → Went) (raw : List ℕ) (r : Followed) (m : Lists) (out out' : List ℕ) : Type 0 where
  pub stops : (r.refused ≡ 0 → ⊥) → (g : Ledger by_frames) (v : SigfoxReceiver) (places : List Float) → StandsFor v places g
      → Goes (went g) out (record { refused = r.refused; end = r.end; listener = r.listener; receiver = v }) m places out'
  pub text : List ℕ
  pub added : r.refused ≡ 0 → Added out 0 text r.end out'
  pub on : r.refused ≡ 0 → (g : Ledger by_frames) → received (state_of r.listener m g) text (push_raw raw) ≡ went g

-- what it bounds; the tracker is known to be in order, with one register value a record
pub record Leads (l : Listener) (r : Followed) (m : Lists) (out out' : List ℕ) : Type 0 where
  pub passed : r.listener.passed ≤ l.passed + samples_each
  pub samples : r.listener.samples ≤ l.samples + samples_each
  pub frames : r.listener.frames ≡ l.frames
  pub messages : r.listener.messages ≡ l.messages
  pub end : r.end ≤ widest
  pub room : length out' ≡ length out
  pub single : Single r.listener.tracker m

-- what bounds a record's counts and text, and the same of the tracker
pub record Steps (l : Listener) (r : Stepped) (m : Lists) (out out' : List ℕ) : Type 0 where
  pub near : Near most l r.listener
  pub end : r.end ≤ out_places
  pub room : length out' ≡ length out
  pub single : Single r.listener.tracker m

-- ---- a list of records

-- the first n records of what was read were accepted, and the code has the definition's state after them
pub record Reached (read : List ℕ) (n : ℕ) (l : Listener) (receiver : SigfoxReceiver) (m : Lists) (places : List Float) : Type 0 where
  pub accepted : Accepted n nothing_heard read
  pub ledger : Ledger by_frames
  pub stands : StandsFor receiver places ledger
  pub state : state_of l m ledger ≡ after n nothing_heard read
  pub single : Single l.tracker m

-- some input of whole records has brought it here
pub record Come (l : Listener) (receiver : SigfoxReceiver) (m : Lists) (places : List Float) : Type 0 where
  pub read : List ℕ
  pub n : ℕ
  pub whole : length read ≡ record_bytes * n
  pub reached : Reached read n l receiver m places

-- a call of the record behind the first n was refused with this number
pub record Refuses (read : List ℕ) (number : ℕ) : Type 0 where
  pub n : ℕ
  pub there : record_bytes * n + record_bytes ≤ length read
  pub accepted : Accepted n nothing_heard read
  pub is : (step (after n nothing_heard read) (take record_bytes (drop (record_bytes * n) read))).refused ≡ number

-- what the n whole records of what was read leave: all were accepted; or the refusal is the definition's; or standard output took no more
unfoldable pub GoesOn : {A : Type 0} → List ℕ → ℕ → Result A Stop → Listener → SigfoxReceiver → Lists → List Float → Type 0
GoesOn read n (Ok v) l receiver m places = Reached read n l receiver m places
GoesOn read n (Err (Refused e)) l receiver m places = Refuses read (number_of e)
GoesOn read n (Err Broken) l receiver m places = Unit

-- ---- what is handed to `write`

-- the next part of a text that the definition gives, behind what the first n records brought
pub record Part (text : List ℕ) : Type 0 where
  pub read : List ℕ
  pub n : ℕ
  pub accepted : Accepted n nothing_heard read
  pub rest : List ℕ
  pub is : listen read ≡ said n nothing_heard read ++ (text ++ rest)
