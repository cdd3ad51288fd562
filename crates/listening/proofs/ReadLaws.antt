-- The records of a read, one behind the other. Assumes nothing.
use Prim.Native.Nat.{ℕ, suc, ◌+◌, ◌*◌, ◌-◌, ◌/◌, ◌≤◌, ◌<◌}
use mathlib.Core.Path.{◌≡◌, refl, sym, ap, ◌∙◌}
use Rattle.std.specs.Result.{IsErrAnd}
use Rattle.std.specs.Prelude.{Result}
use Rattle.std.proofs.lemmas.Result.{err_from_is_err_and}
use Rattle.limits.specs.declared.Refusal.{Refusal}
use Rattle.limits.specs.Refusals.{number_of}
use mathlib.Core.List.{List, ◌++◌, append_assoc}
use native.Mathlib.Omega.{arith}
use lib.ListN.{length, take, drop, length-append, length-drop}
use lib.Seq.{drop-drop, take-add, take_all, drop_at, take-append-le, drop-append-le, length-take-le}
use lib.Ieee.{Float}
use Rattle.ledger.specs.Ledger.{by_frames, Ledger}
use Rattle.frequency.specs.Lent.{Lists}
use Rattle.frequency_grown.specs.Rising.{Single}
use Rattle.receiver.specs.declared.SigfoxReceiver.{SigfoxReceiver}
use Rattle.listening_lines.specs.Text.{Added}
use Rattle.listening_receiver.specs.Hearing.{most}
use Rattle.listening_receiver.specs.Standing.{StandsFor}
use Rattle.listening.specs.declared.Listener.{Listener}
use Rattle.listening.specs.Program.{Went, record_bytes, handed, step, nothing_heard, after, Accepted}
use Rattle.listening.specs.declared.Stop.{Stop}
use Rattle.listening.specs.declared.Stop.TheVariants.{Refused, Broken}
use Rattle.listening.specs.Hand.{state_of, Goes, Room, Near, Steps, Reached, Come, Refuses, GoesOn, Part, Stepped}
use Rattle.listening.proofs.Prefix.{after_one, accepted_one, after_more, accepted_more, part_record}

-- ---- one record more

module _ (read r : List ℕ) (n : ℕ) (whole : length read ≡ record_bytes * n) (wide : length r ≡ record_bytes) (l : Listener) (v : SigfoxReceiver) (m : Lists) (places : List Float)
    (here : Reached read n l v m places) where
  fits : record_bytes * n ≤ length read
  fits = omega (arith, whole)

  abbrev w : Went
  w = step (state_of l m here.ledger) r

  -- the record behind the first n is this one
  record_is : step (after n nothing_heard (read ++ r)) (take record_bytes (drop (record_bytes * n) (read ++ r))) ≡ w
  record_is = rw (after_more n nothing_heard read r fits, drop_at read r (record_bytes * n) whole, take_all record_bytes r (omega (arith, wide)), ← here.state) refl

  more : Accepted n nothing_heard (read ++ r)
  more = accepted_more n nothing_heard read r fits here.accepted

  -- what is handed over of it
  pub part_is : (out out' : List ℕ) (end : ℕ) → Added out 0 (handed w) end out' → Part (take end out')
  part_is out out' end a = rw (a.front, here.state) (part_record n read r whole wide here.accepted)

  -- it was accepted
  pub one_more : (s : Stepped) (k : Lists) (places' : List Float) (out out' : List ℕ) → Goes w out s k places' out' → Single s.listener.tracker k → s.refused ≡ 0
      → Reached (read ++ r) (suc n) s.listener s.receiver k places'
  one_more s k places' out out' g b z =
      record {
        accepted = accepted_one n nothing_heard (read ++ r) more (ap (λ (x : Went). x.refused) record_is ∙ sym g.refused ∙ z);
        ledger = w.state.ledger;
        stands = g.stands;
        state = g.state ∙ sym (ap (λ (x : Went). x.state) record_is) ∙ sym (after_one n nothing_heard (read ++ r));
        single = b;
      }

  -- or refused
  pub one_refused : (s : Stepped) (k : Lists) (places' : List Float) (out out' : List ℕ) → Goes w out s k places' out' → Refuses (read ++ r) s.refused
  one_refused s k places' out out' g =
      record {
        n = n;
        there = omega (arith, whole, wide, length-append read r);
        accepted = more;
        is = ap (λ (x : Went). x.refused) record_is ∙ sym g.refused;
      }

-- ---- bytes behind a record that was refused

pub refuses_more : (read more : List ℕ) (k : ℕ) → Refuses read k → Refuses (read ++ more) k
refuses_more read more k x =
    let n = x.n in
    let there = x.there in
    let fits : record_bytes * n ≤ length read = omega (arith, there) in
    let room : record_bytes ≤ length (drop (record_bytes * n) read) = omega (arith, there, length-drop (record_bytes * n) read) in
    record {
      n = n;
      there = omega (arith, there, length-append read more);
      accepted = accepted_more n nothing_heard read more fits x.accepted;
      is =
          rw
          (after_more n nothing_heard read more fits, drop-append-le (record_bytes * n) read more fits, take-append-le record_bytes (drop (record_bytes * n) read) more room)
          x.is;
    }

-- ---- the loop over the records of a read

-- the first i records were heard, and rest is what is left
pub record Along (input rest : List ℕ) (i : ℕ) (l₀ : Listener) (v₀ : SigfoxReceiver) (m₀ : Lists) (places₀ : List Float) (l : Listener) (v : SigfoxReceiver) (m : Lists) (places : List Float) (out₀ out : List ℕ) : Type 0 where
  pub left : rest ≡ drop (record_bytes * i) input
  pub fits : record_bytes * i ≤ length input
  pub went : (read : List ℕ) (n : ℕ) → length read ≡ record_bytes * n → Reached read n l₀ v₀ m₀ places₀ → Reached (read ++ take (record_bytes * i) input) (n + i) l v m places
  pub near : Near (most * i) l₀ l
  pub room : length out ≡ length out₀

-- a refusal stops it
pub stopped : (read input : List ℕ) (n i k : ℕ) → i ≤ n → record_bytes * n ≤ length input → Refuses (read ++ take (record_bytes * i) input) k → Refuses (read ++ take (record_bytes * n) input) k
stopped read input n i k h fit x =
    let j : record_bytes * n ≡ record_bytes * i + record_bytes * (n - i) = omega arith in
    rw (j, take-add (record_bytes * i) (record_bytes * (n - i)) input, ← append_assoc read (take (record_bytes * i) input) (take (record_bytes * (n - i)) (drop (record_bytes * i) input)))
    (refuses_more _ _ k x)

module _ (input rest : List ℕ) (i : ℕ) (l₀ : Listener) (v₀ : SigfoxReceiver) (m₀ : Lists) (places₀ : List Float) (l : Listener) (v : SigfoxReceiver) (m : Lists) (places : List Float) (out₀ out : List ℕ)
    (a : Along input rest i l₀ v₀ m₀ places₀ l v m places out₀ out) where
  abbrev heard_of : List ℕ → List ℕ
  heard_of read = read ++ take (record_bytes * i) input

  pub heard-whole : (read : List ℕ) (n : ℕ) → length read ≡ record_bytes * n → length (heard_of read) ≡ record_bytes * (n + i)
  heard-whole read n h =
      let b = length-append read (take (record_bytes * i) input) in
      let c = length-take-le (record_bytes * i) input a.fits in
      omega (arith, b, c, h)

  -- every record until here was accepted
  pub reached : (x : Come l₀ v₀ m₀ places₀) → Reached (heard_of x.read) (x.n + i) l v m places
  reached x = a.went x.read x.n x.whole x.reached

  pub along_last : length rest < record_bytes → i ≡ length input / record_bytes
  along_last h = let r = a.left in let f = a.fits in omega (arith, f, h, ap length r, length-drop (record_bytes * i) input)

  -- no more follow
  pub along_end : length rest < record_bytes → (read : List ℕ) (n : ℕ) → length read ≡ record_bytes * n → Reached read n l₀ v₀ m₀ places₀
      → Reached (read ++ take (record_bytes * (length input / record_bytes)) input) (n + length input / record_bytes) l v m places
  along_end h read n e y = rw (← along_last h) (a.went read n e y)

  module _ (next rest' : List ℕ) (split : rest ≡ next ++ rest') (wide : length next ≡ record_bytes) where
    -- the next one, and what is left then
    next-is : drop (record_bytes * i) input ≡ next ++ rest'
    next-is = sym a.left ∙ split

    pub next-fits : record_bytes * (i + 1) ≤ length input
    next-fits = let f = a.fits in omega (arith, f, wide, ap length next-is, length-append next rest', length-drop (record_bytes * i) input)

    next-taken : take (record_bytes * (i + 1)) input ≡ take (record_bytes * i) input ++ next
    next-taken =
        let j : record_bytes * (i + 1) ≡ record_bytes * i + record_bytes = omega arith in
        rw (j, take-add (record_bytes * i) record_bytes input, next-is, take-append-le record_bytes next rest' (omega (arith, wide)), take_all record_bytes next (omega (arith, wide))) refl

    next-left : rest' ≡ drop (record_bytes * (i + 1)) input
    next-left =
        let j : record_bytes * i + record_bytes ≡ record_bytes * (i + 1) = omega arith in
        sym (ap (λ (k : ℕ). drop k input) (sym j) ∙ sym (drop-drop record_bytes (record_bytes * i) input) ∙ ap (drop record_bytes) next-is ∙ drop_at next rest' record_bytes wide)

    -- what is handed over of the next one
    pub along-part : (x : Come l₀ v₀ m₀ places₀) (s : Stepped) (k : Lists) (places' : List Float) (out' : List ℕ)
        → ((g : Ledger by_frames) → StandsFor v places g → Goes (step (state_of l m g) next) out s k places' out') → Part (take s.end out')
    along-part x s k places' out' g =
        let h = reached x in
        part_is (heard_of x.read) next (x.n + i) (heard-whole x.read x.n x.whole) wide l v m places h out out' s.end (g h.ledger h.stands).text

    module _ (s : Stepped) (k : Lists) (places' : List Float) (out' : List ℕ)
        (g : (g : Ledger by_frames) → StandsFor v places g → Goes (step (state_of l m g) next) out s k places' out') where
      -- it was refused
      pub along_stop : (read : List ℕ) (n : ℕ) → length read ≡ record_bytes * n → Reached read n l₀ v₀ m₀ places₀
          → Refuses (read ++ take (record_bytes * (length input / record_bytes)) input) s.refused
      along_stop read n h y =
          let x = a.went read n h y in
          let f = next-fits in
          let r = one_refused (heard_of read) next (n + i) (heard-whole read n h) wide l v m places x s k places' out out' (g x.ledger x.stands) in
          stopped read input (length input / record_bytes) (i + 1) s.refused (omega (arith, f)) (omega arith)
          (rw (next-taken, ← append_assoc read (take (record_bytes * i) input) next) r)

      pub near-next : Steps l s k out out' → Near (most * (i + 1)) l₀ s.listener
      near-next b =
          let near = a.near in
          let more = b.near in
          record {
            passed = omega (arith, near.passed, more.passed);
            samples = omega (arith, near.samples, more.samples);
            frames = omega (arith, near.frames, more.frames);
            messages = omega (arith, near.messages, more.messages);
          }

      -- it was accepted
      pub along-next : Steps l s k out out' → s.refused ≡ 0 → Along input rest' (i + 1) l₀ v₀ m₀ places₀ s.listener s.receiver k places' out₀ out'
      along-next b z =
          record {
            left = next-left;
            fits = next-fits;
            went =
                λ (read : List ℕ) (n : ℕ) (h : length read ≡ record_bytes * n) (y : Reached read n l₀ v₀ m₀ places₀).
                let x = a.went read n h y in
                let j : n + (i + 1) ≡ suc (n + i) = omega arith in
                rw (j, next-taken, ← append_assoc read (take (record_bytes * i) input) next)
                (one_more (heard_of read) next (n + i) (heard-whole read n h) wide l v m places x s k places' out out' (g x.ledger x.stands) b.single z);
            near = near-next b;
            room = b.room ∙ a.room;
          }

-- a `?` on a record's refusal, or on what standard output answered
pub goes_refused : {A : Type 0} (r : Result A Stop) (e : Refusal) (read : List ℕ) (n : ℕ) (l : Listener) (v : SigfoxReceiver) (m : Lists) (places : List Float) → IsErrAnd r (λ y. y ≡ Refused e) → Refuses read (number_of e) → GoesOn read n r l v m places
unfolding GoesOn
goes_refused r e read n l v m places i x = let p = err_from_is_err_and r i in rw (p.1, p.2) x

pub goes_broken : {A : Type 0} (r : Result A Stop) (read : List ℕ) (n : ℕ) (l : Listener) (v : SigfoxReceiver) (m : Lists) (places : List Float) → IsErrAnd r (λ y. y ≡ Broken) → GoesOn read n r l v m places
unfolding GoesOn
goes_broken r read n l v m places i = let p = err_from_is_err_and r i in rw (p.1, p.2) tt

-- counts that have room for the records of a buffer have room for one more
pub loop-room : (l₀ l : Listener) (k : ℕ) → k < 256 → Near (most * k) l₀ l → Room 65536 l₀ → Room most l
loop-room l₀ l k h n r =
    record {
      passed = omega (arith, n.passed, r.passed);
      samples = omega (arith, n.samples, r.samples);
      frames = omega (arith, n.frames, r.frames);
      messages = omega (arith, n.messages, r.messages);
    }
