-- The input's buffer: what a read brings behind the bytes of before. Assumes nothing.
use Prim.Native.Nat.{ℕ, ◌+◌, ◌*◌, ◌-◌, ◌/◌, ◌%◌, ◌≤◌}
use mathlib.Core.Path.{◌≡◌, refl, subst, sym, ap, ap₂, ◌∙◌}
use mathlib.Core.Bool.{Bool, true, false}
use Rattle.std.specs.Result.{IsErrAnd}
use Rattle.std.specs.Prelude.{Result, Err}
use Rattle.std.proofs.lemmas.Result.{err_from_is_err_and}
use mathlib.Core.List.{List, [], ◌++◌, append_assoc}
use native.Mathlib.Omega.{arith}
use lib.Dec.{ltb}
use lib.ListN.{length, take, drop, replicate, length-append, length-drop, take-append-drop, drop_of_length-le}
use lib.Seq.{drop-drop, take-add, take_all, drop_at, take-append-le, drop-append-le, length-take-le}
use lib.Ieee.{Float}
use borrow.Author.Tests.{ltb-true, ltb-false}
use Rattle.ledger.specs.Ledger as ledger
use Rattle.frequency.specs.Lent.{Lists, lists}
use Rattle.receiver.specs.declared.SigfoxReceiver.{SigfoxReceiver}
use Rattle.receiver.specs.State.{new_state}
use Rattle.history.proofs.Calls.{fresh-stands}
use Rattle.listening_lines.specs.Text.{Added}
use Rattle.listening_tracker.specs.Turn.{reading_places}
use Rattle.listening_receiver.specs.Hearing.{rate}
use Rattle.listening_receiver.specs.Standing.{StandsFor}
use Rattle.listening_receiver.proofs.HearingLaws.{silence-length}
use Rattle.listening.specs.declared.Listener.{Listener}
use Rattle.listening.specs.Program.{record_bytes, tuning_places, no_reading, no_tuning, ending, nothing_heard, after, Accepted}
use Rattle.listening.specs.declared.Stop.{Stop}
use Rattle.listening.specs.declared.Stop.TheVariants.{Refused, Broken}
use Rattle.listening.specs.Hand.{new_listener, state_of, Room, Near, Reached, GoesOn, Part}
use Rattle.listening.specs.Reads.{buffer, Stage, Longer, Further, Stopped, Ran}
use Rattle.listening.proofs.StepLaws.{first_single}
use Rattle.listening.proofs.Prefix.{after_more, accepted_more, accepted_less, part_end}

-- ---- bytes behind the whole records

pub reached_more : (read more : List ℕ) (n : ℕ) (l : Listener) (v : SigfoxReceiver) (m : Lists) (places : List Float) → record_bytes * n ≤ length read
    → Reached read n l v m places → Reached (read ++ more) n l v m places
reached_more read more n l v m places h x =
    record {
      accepted = accepted_more n nothing_heard read more h x.accepted;
      ledger = x.ledger;
      stands = x.stands;
      state = x.state ∙ sym (after_more n nothing_heard read more h);
      single = x.single;
    }

pub reached_less : (read more : List ℕ) (n : ℕ) (l : Listener) (v : SigfoxReceiver) (m : Lists) (places : List Float) → record_bytes * n ≤ length read
    → Reached (read ++ more) n l v m places → Reached read n l v m places
reached_less read more n l v m places h x =
    record {
      accepted = accepted_less n nothing_heard read more h x.accepted;
      ledger = x.ledger;
      stands = x.stands;
      state = x.state ∙ after_more n nothing_heard read more h;
      single = x.single;
    }

abbrev pub whole_of : List ℕ → List ℕ
whole_of read = take (record_bytes * (length read / record_bytes)) read

pub whole_length : (read : List ℕ) → length (whole_of read) ≡ record_bytes * (length read / record_bytes)
whole_length read = length-take-le (record_bytes * (length read / record_bytes)) read (omega arith)

pub reached-whole : (read : List ℕ) (l : Listener) (v : SigfoxReceiver) (m : Lists) (places : List Float) → Reached read (length read / record_bytes) l v m places
    → Reached (whole_of read) (length read / record_bytes) l v m places
reached-whole read l v m places x =
    let n = length read / record_bytes in
    let x' = subst (λ (r : List ℕ). Reached r n l v m places) (sym (take-append-drop (record_bytes * n) read)) x in
    reached_less (whole_of read) (drop (record_bytes * n) read) n l v m places (omega (arith, whole_length read)) x'

-- ---- the buffer starts again where it was full

pub starts_again : (k : ℕ) (input : List ℕ) → k ≤ buffer → length input ≡ buffer
    → drop (record_bytes * (k / record_bytes)) (take k input) ≡ drop (record_bytes * (k % buffer / record_bytes)) (take (k % buffer) input)
starts_again k input h w = go (ltb k buffer) refl
  where
    go : (b : Bool) → ltb k buffer ≡ b → drop (record_bytes * (k / record_bytes)) (take k input) ≡ drop (record_bytes * (k % buffer / record_bytes)) (take (k % buffer) input)
    go true t = let e : k % buffer ≡ k = omega (arith, ltb-true k buffer t) in rw e refl
    go false t =
        let s : k ≡ buffer = omega (arith, ltb-false k buffer t) in
        let e : k % buffer ≡ 0 = omega (arith, s) in
        let z : length (take k input) ≤ record_bytes * (k / record_bytes) = omega (arith, s, length-take-le k input (omega (arith, h, w))) in
        drop_of_length-le (take k input) z ∙ rw e refl

-- ---- a read

module _ (read input input' : List ℕ) (from n : ℕ) (kept : take from input' ≡ take from input) (fit : from + n ≤ length input') (wide : length input' ≡ buffer)
    (filled : from ≡ length read % buffer) (tail : drop (record_bytes * (length read / record_bytes)) read ≡ drop (record_bytes * (from / record_bytes)) (take from input)) where
  abbrev pub brought : List ℕ
  brought = take n (drop from input')

  abbrev held : List ℕ
  held = take (from + n) input'

  -- records whole before, and now
  abbrev before : ℕ
  before = length read / record_bytes

  abbrev f : ℕ
  f = from / record_bytes

  abbrev e : ℕ
  e = (from + n) / record_bytes

  abbrev pub heard_now : List ℕ
  heard_now = whole_of read ++ take (record_bytes * (e - f)) (drop (record_bytes * f) input')

  abbrev rest : List ℕ
  rest = drop (record_bytes * e) held

  held_length : length held ≡ from + n
  held_length = length-take-le (from + n) input' fit

  back : drop (record_bytes * f) input' ≡ drop (record_bytes * f) held ++ drop (from + n) input'
  back = ap (drop (record_bytes * f)) (sym (take-append-drop (from + n) input')) ∙ drop-append-le (record_bytes * f) held (drop (from + n) input') (omega (arith, held_length))

  parts : take (record_bytes * (e - f)) (drop (record_bytes * f) input') ++ rest ≡ drop (record_bytes * f) held
  parts =
      let a : record_bytes * f + record_bytes * (e - f) ≡ record_bytes * e = omega arith in
      let b : record_bytes * (e - f) ≤ length (drop (record_bytes * f) held) = omega (arith, held_length, length-drop (record_bytes * f) held) in
      let c : take (record_bytes * (e - f)) (drop (record_bytes * f) input') ≡ take (record_bytes * (e - f)) (drop (record_bytes * f) held)
      = ap (take (record_bytes * (e - f))) back ∙ take-append-le (record_bytes * (e - f)) (drop (record_bytes * f) held) (drop (from + n) input') b in
      let d : rest ≡ drop (record_bytes * (e - f)) (drop (record_bytes * f) held) = sym (drop-drop (record_bytes * (e - f)) (record_bytes * f) held ∙ ap (λ (k : ℕ). drop k held) a) in
      ap₂ ◌++◌ c d ∙ take-append-drop (record_bytes * (e - f)) (drop (record_bytes * f) held)

  joins : drop (record_bytes * before) read ++ brought ≡ drop (record_bytes * f) held
  joins =
      let a : length (take from input') ≡ from = length-take-le from input' (omega (arith, fit)) in
      let b : drop (record_bytes * before) read ≡ drop (record_bytes * f) (take from input') = tail ∙ ap (drop (record_bytes * f)) (sym kept) in
      ap (λ (x : List ℕ). x ++ brought) b
      ∙ sym (drop-append-le (record_bytes * f) (take from input') brought (omega (arith, a)))
      ∙ ap (drop (record_bytes * f)) (sym (take-add from n input'))

  pub read_is : read ++ brought ≡ heard_now ++ rest
  read_is =
      ap (λ (x : List ℕ). x ++ brought) (sym (take-append-drop (record_bytes * before) read))
      ∙ append_assoc (whole_of read) (drop (record_bytes * before) read) brought
      ∙ ap (λ (x : List ℕ). whole_of read ++ x) (joins ∙ sym parts)
      ∙ sym (append_assoc (whole_of read) (take (record_bytes * (e - f)) (drop (record_bytes * f) input')) rest)

  brought-length : length brought ≡ n
  brought-length = length-take-le n (drop from input') (omega (arith, fit, length-drop from input'))

  pub now-length : length heard_now ≡ record_bytes * (before + (e - f))
  now-length =
      let a = length-append (whole_of read) (take (record_bytes * (e - f)) (drop (record_bytes * f) input')) in
      let b = length-take-le (record_bytes * (e - f)) (drop (record_bytes * f) input') (omega (arith, fit, length-drop (record_bytes * f) input')) in
      omega (arith, a, b, whole_length read)

  count_is : length (read ++ brought) / record_bytes ≡ before + (e - f)
  count_is = omega (arith, length-append read brought, brought-length, filled)

  filled_is : (from + n) % buffer ≡ length (read ++ brought) % buffer
  filled_is = omega (arith, length-append read brought, brought-length, filled)

  -- the part of the buffer that is heard
  abbrev pub whole_part : List ℕ
  whole_part = take (record_bytes * e - record_bytes * f) (drop (record_bytes * f) input')

  part-length : length whole_part ≡ record_bytes * (e - f)
  part-length = omega (arith, length-take-le (record_bytes * e - record_bytes * f) (drop (record_bytes * f) input') (omega (arith, fit, length-drop (record_bytes * f) input')))

  part-is : take (record_bytes * (length whole_part / record_bytes)) whole_part ≡ take (record_bytes * (e - f)) (drop (record_bytes * f) input')
  part-is =
      let a : record_bytes * e - record_bytes * f ≡ record_bytes * (e - f) = omega arith in
      take_all (record_bytes * (length whole_part / record_bytes)) whole_part (omega (arith, part-length)) ∙ ap (λ (k : ℕ). take k (drop (record_bytes * f) input')) a

  pub read_on : (l : Listener) (v : SigfoxReceiver) (m : Lists) (places : List Float)
      → Reached (whole_of read ++ take (record_bytes * (length whole_part / record_bytes)) whole_part) (before + length whole_part / record_bytes) l v m places → Longer read input' from n l v m places
  read_on l v m places y =
      let fits : record_bytes * (before + (e - f)) ≤ length heard_now = omega (arith, now-length) in
      let k : length whole_part / record_bytes ≡ e - f = omega (arith, part-length) in
      let x = rw (part-is, k) at y in
      record {
        bytes = brought;
        count = brought-length;
        fits = omega (arith, fit, wide);
        stage =
            record {
              filled = filled_is;
              tail =
                  rw (count_is, read_is)
                  (drop_at heard_now rest (record_bytes * (before + (e - f))) now-length ∙ starts_again (from + n) input' (omega (arith, fit, wide)) wide);
              all = rw (count_is, read_is) (reached_more heard_now rest (before + (e - f)) l v m places fits x);
            };
      }

-- a `?` on what stopped it
pub stopped_as : (A : Type 0) (read : List ℕ) (n : ℕ) (e : Stop) (l : Listener) (v : SigfoxReceiver) (m : Lists) (places : List Float) → GoesOn {A = A} read n (Err e) l v m places → Stopped e
unfolding GoesOn
stopped_as A read n (Refused r) l v m places x = record { read = read; refuses = x }
stopped_as A read n Broken l v m places x = tt

pub further_stopped : (r : Result ℕ Stop) (e : Stop) (read input : List ℕ) (k : ℕ) (l : Listener) (v : SigfoxReceiver) (m : Lists) (places : List Float) → IsErrAnd r (λ y. y ≡ e) → Stopped e → Further read input k r l v m places
further_stopped r e read input k l v m places i x = let p = err_from_is_err_and r i in rw (p.1, p.2) x

pub ran_stopped : {A : Type 0} (r : Result A Stop) (e : Stop) → IsErrAnd r (λ y. y ≡ e) → Stopped e → Ran r
ran_stopped r e i x = let p = err_from_is_err_and r i in rw (p.1, p.2) x

-- ---- the end

-- what is handed over last
pub end_part : (read input : List ℕ) (k : ℕ) (l : Listener) (v : SigfoxReceiver) (m : Lists) (places : List Float) (leftover : ℕ) (out out' : List ℕ) (end : ℕ) (st : Stage read input k l v m places)
    → leftover ≡ k % record_bytes → Added out 0 (ending (state_of l m st.all.ledger) leftover) end out' → Part (take end out')
end_part read input k l v m places leftover out out' end st e a =
    let x = st.all in
    let q : leftover ≡ length read % record_bytes = omega (arith, e, st.filled) in
    rw (a.front, q, x.state) (part_end read x.accepted)

-- ---- the start

-- any sample buffer of that length serves
pub first_stands : (places : List Float) → length places ≡ 12000 → StandsFor (new_state rate) places ledger.fresh
first_stands places e =
    let f = fresh-stands rate places in
    record { state = f.state; size = e ∙ sym silence-length; holds = f.holds; sound = f.sound }

pub started : (l : Listener) (v : SigfoxReceiver) (input : List ℕ) (places : List Float) → l ≡ new_listener → v ≡ new_state rate → length places ≡ 12000
    → Stage [] input 0 l v
    (lists (replicate reading_places no_reading) (replicate tuning_places no_tuning)) places
unfolding Accepted after nothing_heard
started l v input places e f w =
    rw (e, f)
    (record {
      filled = refl;
      tail = refl;
      all =
          record {
            accepted = tt;
            ledger = ledger.fresh;
            stands = first_stands places w;
            state = refl;
            single = first_single _ 0 _ (omega arith) refl;
          };
    })

pub first_near : (l : Listener) → l ≡ new_listener → Near 0 new_listener l
first_near l e = rw e (record { passed = omega arith; samples = omega arith; frames = omega arith; messages = omega arith })

-- counts over n reads
pub reads_room : (l : Listener) (n : ℕ) → n ≤ 4398046511103 → Near (65536 * n) new_listener l → Room 65536 l
reads_room l n h k = record { passed = omega (arith, k.passed); samples = omega (arith, k.samples); frames = omega (arith, k.frames); messages = omega (arith, k.messages) }

pub reads_near : (l r : Listener) (i : ℕ) → Near (65536 * i) new_listener l → Near 65536 l r → Near (65536 * (i + 1)) new_listener r
reads_near l r i a b =
    record {
      passed = omega (arith, a.passed, b.passed);
      samples = omega (arith, a.samples, b.samples);
      frames = omega (arith, a.frames, b.frames);
      messages = omega (arith, a.messages, b.messages);
    }
