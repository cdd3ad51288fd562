-- What the first records bring begins the program's text. Assumes nothing.
use Prim.Native.Nat.{ℕ, zero, suc, ◌+◌, ◌*◌, ◌/◌, ◌%◌, ◌≤◌}
use mathlib.Core.Path.{◌≡◌, refl, sym, ap, ◌∙◌}
use mathlib.Core.List.{List, [], ◌++◌, append_assoc, append-nil}
use native.Mathlib.Omega.{arith}
use lib.ListN.{length, take, drop, length-append, length-drop}
use lib.Seq.{drop-drop, take-append-le, drop-append-le, take_all, drop_at}
use Rattle.listening.specs.Program.{State, record_bytes, handed, refusal_text, unless_refused, step, ending, texts, listen, nothing_heard, after, said, Accepted}
use Rattle.listening.specs.Hand.{Part}

-- a record without a refusal: its lines, and what follows
goes : (n : ℕ) (text rest : List ℕ) → n ≡ 0 → (text ++ refusal_text n) ++ unless_refused n rest ≡ text ++ rest
unfolding refusal_text unless_refused
goes n text rest z = rw (z, append-nil) refl

pub begins : (n k : ℕ) (s : State) (leftover : ℕ) (bytes : List ℕ) → Accepted n s bytes
    → texts (n + k) s leftover bytes ≡ said n s bytes ++ texts k (after n s bytes) leftover (drop (record_bytes * n) bytes)
unfolding texts after said Accepted
begins zero k s leftover bytes a = let e : 0 + k ≡ k = omega arith in rw e refl
begins (suc n) k s leftover bytes a =
    let w = step s (take record_bytes bytes) in
    let e : suc n + k ≡ suc (n + k) = omega arith in
    let g : record_bytes * suc n ≡ record_bytes + record_bytes * n = omega arith in
    rw (e, g, ← drop-drop (record_bytes * n) record_bytes bytes)
    (goes w.refused w.text (texts (n + k) w.state leftover (drop record_bytes bytes)) a.0
    ∙ ap (λ (t : List ℕ). w.text ++ t) (begins n k w.state leftover (drop record_bytes bytes) a.1)
    ∙ sym (append_assoc w.text (said n w.state (drop record_bytes bytes)) _))

-- ---- n records, then one more

pub after_one : (n : ℕ) (s : State) (bytes : List ℕ) → after (suc n) s bytes ≡ (step (after n s bytes) (take record_bytes (drop (record_bytes * n) bytes))).state
unfolding after
after_one zero s bytes = refl
after_one (suc n) s bytes =
    let g : record_bytes * suc n ≡ record_bytes + record_bytes * n = omega arith in
    rw (g, ← drop-drop (record_bytes * n) record_bytes bytes) (after_one n (step s (take record_bytes bytes)).state (drop record_bytes bytes))

pub accepted_one : (n : ℕ) (s : State) (bytes : List ℕ) → Accepted n s bytes → (step (after n s bytes) (take record_bytes (drop (record_bytes * n) bytes))).refused ≡ 0
    → Accepted (suc n) s bytes
unfolding after Accepted
accepted_one zero s bytes a z = (z, tt)
accepted_one (suc n) s bytes a z =
    let g : record_bytes * suc n ≡ record_bytes + record_bytes * n = omega arith in
    (a.0, accepted_one n (step s (take record_bytes bytes)).state (drop record_bytes bytes) a.1 (rw (g, ← drop-drop (record_bytes * n) record_bytes bytes) at z))

-- ---- bytes behind the first n records change nothing of them

pub after_more : (n : ℕ) (s : State) (b more : List ℕ) → record_bytes * n ≤ length b → after n s (b ++ more) ≡ after n s b
unfolding after
after_more zero s b more h = refl
after_more (suc n) s b more h =
    let f : record_bytes ≤ length b = omega arith in
    rw (take-append-le record_bytes b more f, drop-append-le record_bytes b more f)
    (after_more n (step s (take record_bytes b)).state (drop record_bytes b) more (omega (arith, length-drop record_bytes b)))

pub accepted_more : (n : ℕ) (s : State) (b more : List ℕ) → record_bytes * n ≤ length b → Accepted n s b → Accepted n s (b ++ more)
unfolding Accepted
accepted_more zero s b more h a = tt
accepted_more (suc n) s b more h a =
    let f : record_bytes ≤ length b = omega arith in
    rw (take-append-le record_bytes b more f, drop-append-le record_bytes b more f)
    (a.0, accepted_more n (step s (take record_bytes b)).state (drop record_bytes b) more (omega (arith, length-drop record_bytes b)) a.1)

pub accepted_less : (n : ℕ) (s : State) (b more : List ℕ) → record_bytes * n ≤ length b → Accepted n s (b ++ more) → Accepted n s b
unfolding Accepted
accepted_less zero s b more h a = tt
accepted_less (suc n) s b more h a =
    let f : record_bytes ≤ length b = omega arith in
    let x = rw (take-append-le record_bytes b more f, drop-append-le record_bytes b more f) at a in
    (x.0, accepted_less n (step s (take record_bytes b)).state (drop record_bytes b) more (omega (arith, length-drop record_bytes b)) x.1)

-- ---- parts of the text

-- the text of the record behind n
pub part_record : (n : ℕ) (read r : List ℕ) → length read ≡ record_bytes * n → length r ≡ record_bytes → Accepted n nothing_heard read → Part (handed (step (after n nothing_heard read) r))
unfolding listen texts
part_record n read r e f a =
    let more = read ++ r in
    let z = length-append read r in
    let fits : record_bytes * n ≤ length read = omega (arith, e) in
    let q : length more / record_bytes ≡ n + 1 = omega (arith, e, f, z) in
    let m : length more % record_bytes ≡ 0 = omega (arith, e, f, z) in
    let b = accepted_more n nothing_heard read r fits a in
    record {
      read = more;
      n = n;
      accepted = b;
      rest = unless_refused (step (after n nothing_heard read) r).refused (ending (step (after n nothing_heard read) r).state 0);
      is = rw (q, m, begins n 1 nothing_heard 0 more b, after_more n nothing_heard read r fits, drop_at read r (record_bytes * n) e, take_all record_bytes r (omega (arith, f))) refl;
    }

-- the whole text: what the records bring, then the end
pub all_said : (read : List ℕ) → Accepted (length read / record_bytes) nothing_heard read
    → listen read ≡ said (length read / record_bytes) nothing_heard read ++ ending (after (length read / record_bytes) nothing_heard read) (length read % record_bytes)
unfolding listen texts
all_said read a =
    let n = length read / record_bytes in
    let e : n + 0 ≡ n = omega arith in
    rw e at (begins n 0 nothing_heard (length read % record_bytes) read a)

-- the text of the end
pub part_end : (read : List ℕ) → Accepted (length read / record_bytes) nothing_heard read → Part (ending (after (length read / record_bytes) nothing_heard read) (length read % record_bytes))
part_end read a = record { read = read; n = length read / record_bytes; accepted = a; rest = []; is = rw append-nil (all_said read a) }
