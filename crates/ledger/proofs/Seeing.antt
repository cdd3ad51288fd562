-- A record of a run has 120 bytes, and a client reads off them what the ledger's record says.
use Rattle.std.proofs.Common.{Option, None, Some}
use mathlib.Core.Path.{◌≡◌, refl, ap, ◌∙◌}
use mathlib.Core.Logic.{⊎_elim}
use mathlib.Core.List.{List, [], ◌∷◌, ◌++◌, map, append_assoc}
use mathlib.Core.Bool.{Bool, true, false, ◌||◌, cond}
use Prim.Native.Nat.{ℕ, zero, suc, ◌+◌, ◌*◌, ◌/◌, ◌%◌, ◌^◌, ◌≤◌, ◌<◌}
use native.Mathlib.Omega.{arith}
use native.Mathlib.Nat.{zero-add}
use lib.ListN.{length, drop, get_or}
use lib.Seq.{take_at, drop_at}
use lib.Dec.{T, eqb}
use lib.Ieee.{Float, binary32, binary64, lt, fits}
use lib.Ieee.Fits.{cond-fits}
use borrow.Author.Tests.{leb-true, eq-eqb, ne_eqb}
use Rattle.limits.specs.Limits.{record_size}
use Rattle.record.specs.Record.{frame_kind, message_kind, flag, bit_flags, frame_flags, rank_bit, blank_span, head_bytes, frame_record, message_record}
use Rattle.record.specs.Readers.{kind_of, flags_of, device_of, counter_of}
use Rattle.record.specs.Readers as read
use Rattle.record.proofs.RecordLaws.{length-frame, length-message}
use Rattle.record.proofs.ReaderLaws.{read_device, read_counter, read_rssi, read_time, read_start}
use Rattle.record.proofs.ReadBack.{frame_fields, frame-sized, message_fields, message-sized}
use Rattle.demod.specs.Capture.{joined}
use Rattle.ledger.specs.Types.{UplinkFrame, FrameSpan, SigfoxMessage}
use Rattle.ledger.specs.Frames.{Key, Frame, key_of, rank_of, right_crc, rssi_of, time_of, start_of}
use Rattle.ledger.specs.Merge.{no_span, entry_key, has, louder, finished}
use Rattle.ledger.specs.Ledger.{Message, frames, by_frames, summary, Ledger, Call, ready, now, messages, Event, of_frame, of_message, event_of, events}
use Rattle.ledger.specs.Causes.{spans_fit}
use Rattle.ledger.specs.Demand3.{frame}
use Rattle.ledger.specs.History.{see_frame, mask_of, see_message, see}
use Rattle.ledger.specs.Records.{frame_bytes, record_of, with_records, records_in, seen_in}
use Rattle.ledger.proofs.Basics.{either, Every, every-join, every_map, every_then}
use Rattle.ledger.proofs.Spans.{not_empty, fit-head, fit-used}
use Rattle.ledger.proofs.Entries.{summary-key, summary-payload, summary-auth, summary-time, summary_start, loudest, summary-rssi, summary-fit}
use Rattle.ledger.proofs.Throughout.{chosen-every, Holds}
use Rattle.ledger.proofs.Readable.{Readable}

-- ---- flags and masks

low-flags : (a b : Bool) → flag 1 a + flag 2 b ≤ 3
low-flags true true = omega arith
low-flags true false = omega arith
low-flags false true = omega arith
low-flags false false = omega arith

high_flags : (s : (Option Bool)) → bit_flags s % 8 ≡ 0
high_flags None = refl
high_flags (Some true) = refl
high_flags (Some false) = refl

-- "4 CRC right"
crc-flag : (f : UplinkFrame) → eqb (frame_flags f / 4 % 2) 1 ≡ f.crc_ok
crc-flag f = go (flag 1 f.downlink + flag 2 f.control) f.crc_ok (bit_flags f.bit) (low-flags f.downlink f.control) (high_flags f.bit)
  where
    go : (x : ℕ) (c : Bool) (y : ℕ) → x ≤ 3 → y % 8 ≡ 0 → eqb ((x + flag 4 c + y) / 4 % 2) 1 ≡ c
    go x true y h k = eq-eqb ((x + 4 + y) / 4 % 2) 1 (omega arith)
    go x false y h k = ne_eqb ((x + 0 + y) / 4 % 2) 1 (λ e. omega arith)

-- "sum of 1, 2, 4 for ranks 0, 1, 2": by the spans, as it is written, and by the ranks that are there
unfoldable bits : List FrameSpan → ℕ
bits [] = 0
bits (s ∷ l) = rank_bit s.rank + bits l

one_bit : (r : ℕ) (l : List FrameSpan) → r ≤ 2 → has r l ≡ false
    → rank_bit r + mask_of l ≡ cond (eqb r 0 || has 0 l) 1 0 + (cond (eqb r 1 || has 1 l) 2 0 + cond (eqb r 2 || has 2 l) 4 0)
unfolding mask_of
one_bit zero l h e = rw e (omega arith)
one_bit (suc zero) l h e = rw e (omega arith)
one_bit (suc (suc zero)) l h e = rw e (omega arith)
one_bit (suc (suc (suc r))) l h e = absurd (omega arith)

bits-mask : (l : List FrameSpan) → spans_fit l ≡ true → bits l ≡ mask_of l
unfolding bits mask_of has
bits-mask [] e = refl
bits-mask (s ∷ l) e =
    let i = bits-mask l (fit-head s l e).1 in
    ⊎_elim
    (λ g. rw (not_empty s.rank 0 g (omega arith), not_empty s.rank 1 g (omega arith), not_empty s.rank 2 g (omega arith)) (zero-add (bits l) ∙ i))
    (λ g. let u = fit-used s l g e in rw i (one_bit s.rank l (leb-true s.rank 2 u.0) u.1))
    (either (eqb s.rank no_span))

three_bits : (l : List FrameSpan) → length l ≡ 3
    → rank_bit (get_or l 0 blank_span).rank + rank_bit (get_or l 1 blank_span).rank + rank_bit (get_or l 2 blank_span).rank ≡ bits l
unfolding bits
three_bits [] n = absurd (omega arith)
three_bits (a ∷ []) n = absurd (omega arith)
three_bits (a ∷ b ∷ []) n = absurd (omega arith)
three_bits (a ∷ b ∷ c ∷ []) n = omega arith
three_bits (a ∷ b ∷ c ∷ d ∷ l) n = absurd (omega arith)

-- ---- a frame

by_frame : (r : List ℕ) (f : Frame) → kind_of r ≡ frame_kind → read.rank_of r ≡ rank_of f → flags_of r ≡ frame_flags f.uplink → device_of r ≡ f.uplink.device_id
    → counter_of r ≡ f.uplink.counter → read.rssi_of r ≡ rssi_of f → read.time_of r ≡ time_of f → read.start_of r ≡ start_of f → seen_in r ≡ see (of_frame f)
unfolding seen_in see see_frame key_of right_crc
by_frame r f k a b c d e g h =
    rw (k, a, b, c, d, e, g, h)
    (ap (λ (t : Bool). frame (record { key = key_of f; rank = rank_of f; right = t; rssi = rssi_of f; time = time_of f; start = start_of f })) (crc-flag f.uplink))

frame-seen : (f : Frame) → Readable f → seen_in (frame_bytes f) ≡ see (of_frame f)
unfolding frame_record head_bytes rank_of rssi_of time_of start_of
frame-seen f h =
    let x = frame_fields f.uplink f.reception in
    let s = frame-sized f.uplink f.reception h.payload h.auth in
    by_frame (frame_record f.uplink f.reception) f refl refl refl (read_device x s h.device) (read_counter x s h.counter) (read_rssi x s h.rssi)
    (read_time x s h.time) (read_start x s h.start)

frame-size : (f : Frame) → Readable f → length (frame_bytes f) ≡ record_size
frame-size f h = length-frame f.uplink f.reception h.payload h.auth

-- ---- a message

pub record Legible (m : SigfoxMessage) : Type 0 where
  pub device : m.device_id < 256 ^ 4
  pub counter : m.counter < 256 ^ 2
  pub payload : length m.payload ≡ 12
  pub auth : length m.auth ≡ 5
  pub rssi : T (fits binary32 m.rssi)
  pub time : T (fits binary64 m.time)
  pub start : m.start < 256 ^ 8
  pub three : length m.spans ≡ 3
  pub ranks : spans_fit m.spans ≡ true

by_message : (r : List ℕ) (m : SigfoxMessage) → kind_of r ≡ message_kind → read.rank_of r ≡ mask_of m.spans → device_of r ≡ m.device_id → counter_of r ≡ m.counter
    → read.rssi_of r ≡ m.rssi → read.time_of r ≡ m.time → read.start_of r ≡ m.start → seen_in r ≡ see (of_message m)
unfolding seen_in see see_message
by_message r m k a c d e g h = rw (k, a, c, d, e, g, h) refl

message-seen : (mark : ℕ) (m : SigfoxMessage) → Legible m → seen_in (message_record mark m) ≡ see (of_message m)
unfolding message_record head_bytes
message-seen mark m h =
    let x = message_fields mark m in
    let s = message-sized mark m h.payload h.auth in
    by_message (message_record mark m) m refl (three_bits m.spans h.three ∙ bits-mask m.spans h.ranks) (read_device x s h.device) (read_counter x s h.counter)
    (read_rssi x s h.rssi) (read_time x s h.time) (read_start x s h.start)

message-size : (mark : ℕ) (m : SigfoxMessage) → Legible m → length (message_record mark m) ≡ record_size
message-size mark m h = length-message mark m h.payload h.auth

loudest-fits : (v : Float) (l : List Frame) → T (fits binary32 v) → Every Readable l → T (fits binary32 (loudest v l))
unfolding loudest louder
loudest-fits v [] h w = h
loudest-fits v (f ∷ l) h w = loudest-fits (louder v (rssi_of f)) l (cond-fits binary32 (lt v (rssi_of f)) (rssi_of f) v w.0.rssi h) w.1

-- of frames that a record can hold
message_legible : (m : Message) → Every Readable (frames m) → Legible (finished (summary m))
unfolding finished entry_key key_of
message_legible m w =
    let f = w.0 in
    let t = summary-fit m (every_then Readable (λ g. rank_of g ≤ 2) (λ g h. h.rank) (frames m) w) in
    record {
      device = rw (ap (λ (q : Key). q.device) (summary-key m)) f.device;
      counter = rw (ap (λ (q : Key). q.counter) (summary-key m)) f.counter;
      payload = rw (summary-payload m) f.payload;
      auth = rw (summary-auth m) f.auth;
      rssi = rw (summary-rssi m) (loudest-fits (rssi_of m.first) m.more f.rssi w.1);
      time = rw (summary-time m) f.time;
      start = rw (summary_start m) f.start;
      three = t.0;
      ranks = t.1;
    }

-- ---- the records of a call

abbrev pub Clear : Event → Type 0
Clear (of_frame f) = Readable f
Clear (of_message m) = Legible m

pub events_clear : (rate : ℕ) (c : Call) (l : Ledger by_frames) → Holds Readable l → Every Clear (events rate c l)
unfolding messages
events_clear rate c l w =
    every-join Clear (map of_frame l.heard) (map (event_of by_frames) (messages rate c l)) (every_map Clear of_frame l.heard w.heard)
    (every_map Clear (event_of by_frames) (messages rate c l)
    (every_then (λ m. Every Readable (frames m)) (λ m. Legible (finished (summary m))) message_legible (messages rate c l)
    (chosen-every (λ m. Every Readable (frames m)) (ready by_frames c (now rate l)) l.waiting w.waiting)))

module _ (mark : Float → ℕ) where
  event_seen : (e : Event) → Clear e → seen_in (record_of mark e) ≡ see e
  unfolding record_of
  event_seen (of_frame f) h = frame-seen f h
  event_seen (of_message m) h = message-seen (mark m.time) m h

  pub events-seen : (es : List Event) → Every Clear es → map seen_in (map (record_of mark) es) ≡ map see es
  events-seen [] w = refl
  events-seen (e ∷ es) w = rw (event_seen e w.0, events-seen es w.1) refl

abbrev pub RecordSized : List ℕ → Type 0
RecordSized r = length r ≡ record_size

module _ (mark : Float → ℕ) where
  event_size : (e : Event) → Clear e → RecordSized (record_of mark e)
  unfolding record_of
  event_size (of_frame f) h = frame-size f h
  event_size (of_message m) h = message-size (mark m.time) m h

  pub events-size : (es : List Event) → Every Clear es → Every RecordSized (map (record_of mark) es)
  events-size es w = every_map RecordSized (record_of mark) es (every_then Clear (λ e. RecordSized (record_of mark e)) event_size es w)

-- ---- an event buffer gives back the records that were written into it

records-joined : (rs : List (List ℕ)) (rest : List ℕ) → Every RecordSized rs → records_in (length rs) (joined rs ++ rest) ≡ rs
unfolding records_in joined
records-joined [] rest w = refl
records-joined (r ∷ rs) rest w =
    rw (append_assoc r (joined rs) rest, take_at r (joined rs ++ rest) record_size w.0, drop_at r (joined rs ++ rest) record_size w.0, records-joined rs rest w.1)
    refl

pub records_in_lem : (rs : List (List ℕ)) (old : List ℕ) → Every RecordSized rs → records_in (length rs) (with_records rs old) ≡ rs
unfolding with_records
records_in_lem rs old w = records-joined rs (drop (record_size * length rs) old) w

-- none change it
pub no_records : (old : List ℕ) → with_records [] old ≡ old
unfolding with_records joined
no_records old = refl
