-- DEMAND 3, its claims about the records of a run, as a client reads them: over the calls, the numbers that came back and the records. Nothing of a ledger's or
-- a port's inside is named here, and the ledger is not made of what is defined here. Assumes nothing.
use Rattle.std.specs.Prelude.{◌≡◌, ◌⊎◌, List, [], ◌∷◌, ◌++◌, map, Bool, true, false, not, ◌&&◌, ◌||◌, cond, ℕ, ◌+◌, ◌*◌, ◌/◌, ◌%◌, ◌^◌, ◌≤◌, length, eqb, Float}
use Rattle.std.specs.Float.{binary64}
use Rattle.std.specs.Float.Ieee.{lt, sub, div}
use Rattle.floats.specs.Number.{num}
use Rattle.ledger.specs.Frames.{Key, same}
use Rattle.ledger.specs.Ledger.{Call, push, flush}

-- ---- what a client sees of a run

-- a frame record, read: device and counter, rank, whether its CRC is right, RSSI, start in seconds, absolute start sample
pub record SeenFrame : Type 0 where
  pub key : Key
  pub rank : ℕ
  pub right : Bool
  pub rssi : Float
  pub time : Float
  pub start : ℕ

-- a message record, read: device and counter, byte 1 (the sum of 1, 2, 4 for ranks 0, 1, 2), RSSI, time and start of its first frame
pub record SeenMessage : Type 0 where
  pub key : Key
  pub mask : ℕ
  pub rssi : Float
  pub time : Float
  pub start : ℕ

pub data Seen : Type 0 where
  frame : SeenFrame → Seen
  message : SeenMessage → Seen

-- one call: the number that came back, 0 where it was accepted, and its records in order
pub record Turn : Type 0 where
  pub call : Call
  pub refusal : ℕ
  pub records : List Seen

-- the records of a run, in order
unfoldable pub all : List Turn → List Seen
all [] = []
all (t ∷ ts) = t.records ++ all ts

-- the samples of a call
unfoldable pub samples_of : Call → ℕ
samples_of (push xs) = length xs
samples_of flush = 0

-- the samples pushed in a run, by its accepted calls
unfoldable pub pushed : List Turn → ℕ
pushed [] = 0
pushed (t ∷ ts) = cond (eqb t.refusal 0) (samples_of t.call) 0 + pushed ts

-- "01's now" at the end of a run
abbrev pub now_after : ℕ → List Turn → Float
now_after rate ts = div binary64 (num (pushed ts)) (num rate)

-- ---- whose frame it is

-- a message record with the key k is among the records
unfoldable pub written : Key → List Seen → Bool
written k [] = false
written k (frame x ∷ rs) = written k rs
written k (message m ∷ rs) = same m.key k || written k rs

-- "a frame with a right CRC belongs to the first later message record with its device and counter, one with a wrong CRC to none";
-- `between` are the records between the two
pub record Belongs (x : SeenFrame) (between : List Seen) (m : SeenMessage) : Type 0 where
  pub right : x.right ≡ true
  pub alike : m.key ≡ x.key
  pub first : written x.key between ≡ false

-- the frames that belong to a message with the key k that stands right behind these records, in order
unfoldable pub mine : Key → List Seen → List SeenFrame
mine k [] = []
mine k (frame x ∷ rs) = cond (x.right && (same x.key k && not (written k rs))) (x ∷ mine k rs) (mine k rs)
mine k (message m ∷ rs) = mine k rs

-- that is: a frame is there, in its place, where it belongs to the message, and else not
pub record MineIs (m : SeenMessage) : Type 0 where
  pub has_it : (a b : List Seen) (x : SeenFrame) → Belongs x b m → mine m.key (a ++ frame x ∷ b) ≡ mine m.key a ++ x ∷ mine m.key b
  pub lacks_it : (a b : List Seen) (x : SeenFrame) → (Belongs x b m → ⊥) → mine m.key (a ++ frame x ∷ b) ≡ mine m.key (a ++ b)
  pub no_message : (b : List Seen) (n : SeenMessage) → mine m.key (message n ∷ b) ≡ mine m.key b

-- ---- what frames make a message

abbrev pub Among : SeenFrame → List SeenFrame → Type 0
Among x [] = ⊥
Among x (y ∷ l) = (x ≡ y) ⊎ Among x l

-- one of them has the rank r
abbrev pub Has : ℕ → List SeenFrame → Type 0
Has r l = (x : SeenFrame) × Among x l × (x.rank ≡ r)

-- the bit of the rank r
abbrev pub bit_of : ℕ → ℕ → ℕ
bit_of r n = n / 2 ^ r % 2

-- "Every message has such a frame, exactly its frames' ranks and their highest RSSI", and the table's "of a message: its first frame's"
pub record MadeOf (l : List SeenFrame) (m : SeenMessage) : Type 0 where
  pub one : (x : SeenFrame) × (rest : List SeenFrame) × (l ≡ x ∷ rest) × (m.time ≡ x.time) × (m.start ≡ x.start)
  pub ranks : (r : ℕ) → r ≤ 2 → (Has r l → bit_of r m.mask ≡ 1) × (bit_of r m.mask ≡ 1 → Has r l)
  pub no_more : m.mask ≤ 7
  pub one_has : (x : SeenFrame) × Among x l × (m.rssi ≡ x.rssi)
  pub none_above : (x : SeenFrame) → Among x l → lt m.rssi x.rssi ≡ false

-- ---- when it is written

unfoldable pub frames_in : List Seen → List Seen
frames_in [] = []
frames_in (frame x ∷ rs) = frame x ∷ frames_in rs
frames_in (message m ∷ rs) = frames_in rs

-- after the scans of the call t, the frames so far of the message with the key k that is not yet written
abbrev pub gathered : List Turn → Turn → Key → List SeenFrame
gathered before t k = mine k (all before ++ frames_in t.records)

-- x had joined last
abbrev pub Last : SeenFrame → List SeenFrame → Type 0
Last x fs = (l : List SeenFrame) × (fs ≡ l ++ (x ∷ []))

-- 10 s
abbrev pub ten_s : Float
ten_s = num 10

-- "a flush, or a push after whose scans it has three ranks or 01's now is, in binary64, over 10 s past the start of the frame that had joined last"
abbrev pub Due : ℕ → List Turn → Turn → List SeenFrame → Type 0
Due rate before t fs =
    (t.call ≡ flush)
    ⊎ ((Has 0 fs × Has 1 fs × Has 2 fs)
    ⊎ ((x : SeenFrame) × Last x fs × (lt ten_s (sub binary64 (now_after rate (before ++ (t ∷ []))) x.time) ≡ true)))

-- ---- THE CLAIMS

pub record Demand3 (rate : ℕ) (run : List Turn) : Type 0 where
  -- "A refused call .. has no records"
  pub refused : (before behind : List Turn) (t : Turn) → run ≡ before ++ t ∷ behind → (t.refusal ≡ 0 → ⊥) → t.records ≡ []
  -- "A call's frames stand before its messages"
  pub frames_first : (before behind : List Turn) (t : Turn) → run ≡ before ++ t ∷ behind
      → (fs : List SeenFrame) × (ms : List SeenMessage) × (t.records ≡ map frame fs ++ map message ms)
  -- "No two frames start under 0.3 s apart": 0.3 × rate samples, on absolute start samples
  pub apart : (a b c : List Seen) (x y : SeenFrame) → all run ≡ a ++ frame x ∷ (b ++ frame y ∷ c)
      → (10 * x.start + 3 * rate ≤ 10 * y.start) ⊎ (10 * y.start + 3 * rate ≤ 10 * x.start)
  -- "Each with a right CRC is in at most one later message"
  pub at_most_one : (a b c d : List Seen) (x : SeenFrame) (m n : SeenMessage) → all run ≡ a ++ frame x ∷ (b ++ message m ∷ (c ++ message n ∷ d))
      → Belongs x b m → Belongs x (b ++ message m ∷ c) n → ⊥
  -- "and in exactly one if its own call or a later one is an accepted flush": it is there when that flush returns
  pub exactly_one : (before behind : List Turn) (t : Turn) → run ≡ before ++ t ∷ behind → t.call ≡ flush → t.refusal ≡ 0
      → (a b : List Seen) (x : SeenFrame) → all (before ++ (t ∷ [])) ≡ a ++ frame x ∷ b → x.right ≡ true
      → (between : List Seen) × (m : SeenMessage) × (rest : List Seen) × (b ≡ between ++ message m ∷ rest) × Belongs x between m
  -- "Every message has such a frame, exactly its frames' ranks and their highest RSSI"
  pub its_frames : (a b : List Seen) (m : SeenMessage) → all run ≡ a ++ message m ∷ b → MadeOf (mine m.key a) m
  pub mine_is : (m : SeenMessage) → MineIs m
  -- "It is written in .. [an] accepted call .. that is a flush, or a push after whose scans .."; what it has after the call's scans are all its frames
  pub only_then : (before behind : List Turn) (t : Turn) → run ≡ before ++ t ∷ behind → (a b : List Seen) (m : SeenMessage) → t.records ≡ a ++ message m ∷ b
      → (t.refusal ≡ 0) × Due rate before t (gathered before t m.key) × (mine m.key (all before ++ a) ≡ gathered before t m.key)
  -- "exactly the first .. from that of its first frame on": no accepted call t before that of the message m, where m had a frame after its scans, is such a call
  pub not_before : (before between behind : List Turn) (t u : Turn) → run ≡ before ++ t ∷ (between ++ u ∷ behind) → t.refusal ≡ 0
      → (a b : List Seen) (m : SeenMessage) → u.records ≡ a ++ message m ∷ b → written m.key (t.records ++ (all between ++ a)) ≡ false
      → (gathered before t m.key ≡ [] → ⊥) → Due rate before t (gathered before t m.key) → ⊥
  -- conversely, no such call passes without writing the message
  pub then_written : (before behind : List Turn) (t : Turn) → run ≡ before ++ t ∷ behind → t.refusal ≡ 0 → (k : Key)
      → (gathered before t k ≡ [] → ⊥) → Due rate before t (gathered before t k) → written k t.records ≡ true

-- ---- WRONG PROGRAMS, and the claim of each that fails (L: the equality with 01's ledger, stated beside this)
-- swallows samples, never writes: L, exactly-one · the same frame always: L, apart · refuses all, or refuses for a state that it spoiled: L (numbers) ·
-- hears the first push, shams the later ones: L · a start forgotten too early, or the distance rounded: apart · every frame opens a message: its-frames, only_then ·
-- a message written and kept: its-frames (the second has no frame) · a frame with a wrong CRC joins: its-frames · a flush writes the complete ones only: exactly-one,
-- then-written · RSSI of the last frame: its-frames · `last` at its maximum: then-written, only_then · three ranks written before the call ends: frames-first, only_then
-- (what it has after the scans) · a message written a call late: then-written · a message joined again after it was written: its-frames · frames after messages: frames-first
