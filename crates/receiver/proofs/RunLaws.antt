-- An accepted call from its first sample to its answer: where its scans begin and end, and what its end makes of them. Assumes nothing.
use mathlib.Core.Bool.{Bool, true}
use mathlib.Core.List.{List, [], ◌∷◌, ◌++◌, map}
use mathlib.Core.Path.{◌≡◌, ◌∙◌, refl, sym, ap, ap₂}
use Prim.Native.Nat.{ℕ, ◌+◌, ◌≤◌}
use native.Mathlib.Omega.{arith}
use lib.ListN.{length, take, length-map}
use lib.Ieee.{Float}
use Rattle.limits.specs.Limits.{longest_stream}
use Rattle.demod.specs.Capture.{joined}
use Rattle.ledger.specs.Ledger.{Ledger, Call, push, flush, by_entry, seconds, ready, chosen, others, now, scans, start_call, closed, messages, events, event_of, of_frame}
use Rattle.ledger.specs.Frames.{Frame}
use Rattle.ledger.specs.Ledger as ledger
use Rattle.ledger.specs.Causes as causes
use Rattle.ledger.specs.Causes.{most_starts, most_waiting}
use Rattle.ledger.specs.Room.{Accepted, open_places, scans_if, scan_if}
use Rattle.ledger.specs.Demodulation.{demod_of}
use Rattle.ledger.specs.Records.{Sized, frame_bytes, record_of, with_records}
use Rattle.ledger.specs.declared.Pending.{Pending}
use Rattle.ledger.proofs.Basics.{map-join}
use Rattle.ledger.proofs.Sizes.{call_size, scans-small}
use Rattle.ledger.proofs.OpenKinds.{entries_lawful}
use Rattle.ledger.proofs.Orderly.{bounded}
use Rattle.ledger.proofs.NoCap.{no_cap}
use Rattle.ledger.proofs.Fairness.{demod_fair}
use Rattle.receiver_samples.specs.Buffer.{Buffer, all_filled}
use Rattle.receiver_samples.proofs.Fillings.{held_length}
use Rattle.receiver_starts.specs.Starts as starts
use Rattle.receiver_starts.specs.Starts.{distances, starts_ok}
use Rattle.receiver_starts.proofs.SampleLaws.{distances_back}
use Rattle.receiver_starts.specs.declared.Starts.{Starts}
use Rattle.receiver_waiting.specs.Waiting.{waiting_of, leaves}
use Rattle.receiver_waiting.specs.Waiting as waiting
use Rattle.receiver_waiting.specs.declared.Waiting.{Waiting}
use Rattle.receiver_waiting.specs.declared.Leaving.{Leaving}
use Rattle.receiver_waiting.specs.declared.Leaving.TheVariants.{All, CompleteAt}
use Rattle.receiver_scan.specs.Midway.{Midway, Lent, Within, Does}
use Rattle.receiver_scan.specs.declared.Scanned.{Scanned}
use Rattle.receiver_closing.specs.Written.{written}
use Rattle.receiver.specs.State.{ledger_of, state_over}
use Rattle.receiver.specs.Calls.{samples_after}
use Rattle.receiver.specs.Running.{Passes, Under, Closable, EndsBy, Ended}
use Rattle.receiver.specs.declared.SigfoxReceiver.{SigfoxReceiver}
use Rattle.receiver.proofs.StateLaws.{order-parts}
use Rattle.receiver.proofs.FillLaws.{FillAt, ledger_end, buffer_end, scan_if_still}

-- ---- a call's scans

-- the scans of the call c on the state s are done
pub record Done (s : SigfoxReceiver) (c : Call) (before : List Float) (old : List ℕ) (held base unscanned : ℕ) (t : Scanned) (after : List Float) (now : List ℕ) : Type 0 where
  pub starts : t.starts.count ≤ most_starts
  pub waiting : t.waiting.count ≤ open_places
  pub under : Under (scans s.rate (demod_of s.rate) (ledger_of s before) c) old held base unscanned t now
  pub samples : after ≡ samples_after s c before 0

module _ (s : SigfoxReceiver) (samples : List Float) (old : List ℕ) (scratch : List Float) where
  abbrev rate : ℕ
  rate = s.rate

  -- no record is there yet
  start : starts_ok rate s.base s.held s.starts ≡ true → Midway (ledger_of s samples) old s.starts s.waiting 0 old
  unfolding with_records joined
  start h = record { starts = sym (distances_back s.base (distances s.starts) (order-parts rate s.base s.held s.starts h).1); waiting = refl; count = refl; events = refl; sized = tt }

  module _ (c : Call) (p : Passes s c samples old scratch) where
    -- the state's counts are the ledger's
    pub held-is : s.held ≡ length (take s.held samples)
    held-is = ap (λ (k : causes.Counts). k.held) p.counts

    starts-few : s.starts.count ≤ 96
    starts-few = (order-parts rate s.base s.held s.starts p.starts).0

    pub waiting_few : s.waiting.count ≤ most_waiting
    waiting_few = let e : s.waiting.count ≡ length (waiting_of s.waiting) = ap (λ (k : causes.Counts). k.waiting) p.counts in omega (arith, p.order.waiting)

    begins : Within (record { starts = s.starts; waiting = s.waiting; count = 0 })
    begins = record { starts = starts-few; waiting = omega (arith, waiting_few); count = omega arith }

    -- no test for room fails
    uncapped : scans_if rate (demod_of rate) (ledger_of s samples) c ≡ scans rate (demod_of rate) (ledger_of s samples) c
    uncapped =
        no_cap rate (demod_of rate) (demod_fair rate p.lowest p.highest) entries_lawful (omega (arith, p.lowest)) (ledger_of s samples) c p.order p.accepted

  module _ (xs : List Float) where
    abbrev pub all_in : Ledger by_entry
    all_in = scans rate (demod_of rate) (ledger_of s samples) (push xs)

    abbrev pub last_buffer : Buffer
    last_buffer = all_filled rate (length xs) (record { held = s.held; places = samples }) xs

    pub fill_start : Passes s (push xs) samples old scratch → FillAt rate xs all_in last_buffer old samples old s.held s.base s.unscanned (record { starts = s.starts; waiting = s.waiting; count = 0 }) 0
    unfolding scans_if start_call
    fill_start p =
        let e = held-is (push xs) p in
        record {
          ledger = ledger_of s samples;
          inside = omega arith;
          places = p.places;
          bytes = p.bytes;
          fits = omega (arith, p.order.room);
          holds = refl;
          based = refl;
          unseen = refl;
          quiet = p.order.unscanned;
          valid = p.order.samples;
          stream = omega (arith, p.accepted.stream);
          midway = start p.starts;
          within = begins (push xs) p;
          first = s.base;
          grows = omega arith;
          grown = omega (arith, p.order.room);
          since = p.order.recent;
          rest = uncapped (push xs) p;
          buffer = refl;
        }

    pub fill_end : (places : List Float) (now : List ℕ) (held base unscanned : ℕ) (t : Scanned) (from : ℕ)
        → FillAt rate xs all_in last_buffer old places now held base unscanned t from → length xs ≤ from
        → Done s (push xs) samples old held base unscanned t places now
    unfolding samples_after
    fill_end places now held base unscanned t from m h =
        let q : from ≡ length xs = omega (arith, m.inside) in
        let e : m.ledger ≡ all_in = ledger_end rate (demod_of rate) m.ledger all_in xs from q m.rest in
        let f = buffer_end rate (record { held = held; places = places }) last_buffer xs from q m.buffer in
        record {
          starts = m.within.starts;
          waiting = m.within.waiting;
          under =
              rw (← e)
              (record {
                holds = sym (held_length rate held places m.ledger m.fits m.places m.holds);
                based = m.based;
                unseen = m.unseen;
                midway = m.midway;
              });
          samples = ap (λ (x : Buffer). x.places) f;
        }

  -- ---- a flush's

  module _ (p : Passes s flush samples old scratch) where
    pub flush-asks : Lent rate s.base 0 (take s.held samples) old scratch × Within (record { starts = s.starts; waiting = s.waiting; count = 0 })
    flush-asks =
        let e = held-is flush p in (
          record {
            lowest = p.lowest;
            highest = p.highest;
            fits = p.order.room;
            valid = p.order.samples;
            stream = p.order.stream;
            waits = omega arith;
            events = p.bytes;
            scratch = p.numbers;
          },
          begins flush p,
        )

    pub flush-end : (t : Scanned) (now : List ℕ) → Does (scan_if rate (demod_of rate) 0) (take s.held samples) s.base (record { starts = s.starts; waiting = s.waiting; count = 0 }) old t now
        → Done s flush samples old s.held s.base s.unscanned t samples now
    unfolding scans_if start_call samples_after
    flush-end t now d =
        let l = ledger_of s samples in
        let z = scan_if_still rate (demod_of rate) 0 l in
        record {
          starts = d.within.starts;
          waiting = d.within.waiting;
          under =
              rw (← uncapped flush p)
              (record {
                holds = held-is flush p ∙ ap length (sym z.held);
                based = sym z.base;
                unseen = sym z.unscanned;
                midway = d.midway l old refl refl (start p.starts);
              });
          samples = refl;
        }

-- ---- a call's end

pub ends_push : (xs : List Float) (t : Float) → EndsBy (push xs) (CompleteAt t) t
unfolding ready leaves
ends_push xs t = refl

pub ends_flush : (t : Float) → EndsBy flush All t
unfolding ready leaves
ends_flush t = refl

-- the messages that leave
messages_are : (rate : ℕ) (c : Call) (which : Leaving) (l : Ledger by_entry) (t : Float) → EndsBy c which t → t ≡ now rate l → messages rate c l ≡ chosen (leaves which) l.waiting
unfolding messages
messages_are rate c which l t k e = rw (← e) (ap (λ (f : Pending → Bool). chosen f l.waiting) k)

others_are : (rate : ℕ) (c : Call) (which : Leaving) (l : Ledger by_entry) (t : Float) → EndsBy c which t → t ≡ now rate l
    → others (ready by_entry c (now rate l)) l.waiting ≡ others (leaves which) l.waiting
others_are rate c which l t k e = rw (← e) (ap (λ (f : Pending → Bool). others f l.waiting) k)

-- a call's frames have no mark
pub frames_are : (mark : Float → ℕ) (fs : List Frame) → map (record_of mark) (map of_frame fs) ≡ map frame_bytes fs
unfolding record_of
frames_are mark [] = refl
frames_are mark (f ∷ fs) = ap (λ (k : List (List ℕ)). frame_bytes f ∷ k) (frames_are mark fs)

module _ (s : SigfoxReceiver) (l : Ledger by_entry) (old : List ℕ) (held base unscanned : ℕ) (t : Scanned) (bytes : List ℕ) (u : Under l old held base unscanned t bytes) where
  -- "Now is (base + held)/rate"
  abbrev time : Float
  time = seconds s.rate (base + held)

  time_is : time ≡ now s.rate l
  unfolding now
  time_is = rw (u.holds, u.based) refl

  module _ (mark : Float → ℕ) (c : Call) (which : Leaving) (k : EndsBy c which time) where
    abbrev leaving : List (List ℕ)
    leaving = written mark which (waiting_of t.waiting)

    leaving-are : leaving ≡ map (record_of mark) (map (event_of by_entry) (messages s.rate c l))
    leaving-are = rw (u.midway.waiting, messages_are s.rate c which l time k time_is) refl

    records_are : map (record_of mark) (events s.rate c l) ≡ map frame_bytes l.heard ++ leaving
    records_are =
        map-join (record_of mark) (map of_frame l.heard) (map (event_of by_entry) (messages s.rate c l))
        ∙ ap₂ (λ (x y : List (List ℕ)). x ++ y) (frames_are mark l.heard) (sym leaving-are)

    module _ (n : ℕ) (now : List ℕ)
        (w : (rs : List (List ℕ)) (was : List ℕ) → Sized rs → t.count ≡ length rs → bytes ≡ with_records rs was
        → (n ≡ length (rs ++ written mark which (waiting_of t.waiting)))
        × (now ≡ with_records (rs ++ written mark which (waiting_of t.waiting)) was)) where
      wrote : (n ≡ length (map (record_of mark) (events s.rate c l))) × (now ≡ with_records (map (record_of mark) (events s.rate c l)) old)
      wrote =
          rw records_are
          (w (map frame_bytes l.heard) old u.midway.sized
          (u.midway.count ∙ sym (length-map l.heard frame_bytes)) u.midway.events)

      pub ended : (a : Starts) (b : Waiting) → a ≡ starts.over s.starts (distances t.starts)
          → b ≡ waiting.over s.waiting (others (leaves which) (waiting_of t.waiting))
          → Ended s c mark l old
          (record { refused = 0; count = n; receiver = record { rate = s.rate; held = held; base = base; unscanned = unscanned; starts = a; waiting = b } }) now
      unfolding state_over closed
      ended a b ea eb =
          let x : a ≡ starts.over s.starts (starts.distances_of l.base l.starts) = ea ∙ ap (starts.over s.starts) u.midway.starts in
          let y : b ≡ waiting.over s.waiting (others (ready by_entry c (ledger.now s.rate l)) l.waiting) =
          eb ∙ rw (u.midway.waiting, others_are s.rate c which l time k time_is) refl in
          record { answer = rw (wrote.0, u.holds, u.based, u.unseen, x, y) refl; records = wrote.1 }

-- a call whose scans are done ends within the stream
pub ends_within : (s : SigfoxReceiver) (c : Call) (samples places : List Float) (old now : List ℕ) (scratch : List Float) (held base unscanned : ℕ) (t : Scanned)
    → Passes s c samples old scratch → Done s c samples old held base unscanned t places now → base + held ≤ longest_stream
ends_within s c samples places old now scratch held base unscanned t p d =
    let l = ledger_of s samples in
    let long = (scans-small s.rate (demod_of s.rate) l c (omega (arith, p.lowest)) p.order.room).1 in
    omega (arith, d.under.holds, d.under.based, ends l c p.order.stream p.accepted, long)
  where
    ends : (l : Ledger by_entry) (c : Call) → l.base + length l.held ≤ longest_stream → Accepted s.rate l c → l.base + length l.held + call_size c ≤ longest_stream
    ends l (push xs) q a = a.stream
    ends l flush q a = omega arith

-- and its records have room
pub closable : (mark : Float → ℕ) (s : SigfoxReceiver) (c : Call) (samples places : List Float) (old now : List ℕ) (scratch : List Float) (held base unscanned : ℕ) (t : Scanned) (which : Leaving)
    → Passes s c samples old scratch → Done s c samples old held base unscanned t places now → EndsBy c which (seconds s.rate (base + held)) → length now ≡ length old
    → Closable mark t which now
closable mark s c samples places old now scratch held base unscanned t which p d k e =
    let rate = s.rate in
    let l = ledger_of s samples in
    let w = scans rate (demod_of rate) l c in
    let pos : 1 ≤ rate = omega (arith, p.lowest) in
    let fair = demod_fair rate p.lowest p.highest in
    let few = (bounded rate (demod_of rate) fair entries_lawful pos).events l c p.order p.accepted in
    let n : length (written mark which (waiting_of t.waiting)) ≡ length (messages rate c w)
    = ap length (leaving-are s w old held base unscanned t now d.under mark c which k)
    ∙ length-map (map (event_of by_entry) (messages rate c w)) (record_of mark) ∙ length-map (messages rate c w) (event_of by_entry) in
    record {
      starts = d.starts;
      waiting = d.waiting;
      room = omega (arith, n, few, d.under.midway.count, p.bytes);
    }
