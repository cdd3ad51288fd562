-- One record more. Assumes nothing.
use Rattle.std.proofs.Common.{Option, None}
use Prim.Native.Nat.{ℕ, zero, suc, ◌+◌, ◌-◌, ◌*◌, ◌<◌}
use mathlib.Core.Path.{◌≡◌, refl, sym, ap, ◌∙◌}
use mathlib.Core.Bool.{Bool, true, false}
use mathlib.Core.List.{List, [], ◌∷◌, ◌++◌}
use native.Mathlib.Omega.{arith}
use borrow.Author.Tests.{eq-eqb, ne_eqb}
use lib.Ieee.{Float, binary64, of_bits, of_int, round}
use Rattle.floats.specs.Number.{num}
use Rattle.frequency_lists.specs.declared.Reading.{Reading}
use Rattle.frequency.specs.declared.FrequencyTracker.{FrequencyTracker}
use lib.ListN.{take, drop}
use lib.Seq.{drop-drop}
use Rattle.limits.specs.Limits.{record_size}
use Rattle.ledger.specs.Records.{records_in}
use Rattle.record.specs.Record.{frame_kind}
use Rattle.record.specs.Readers.{kind_of}
use Rattle.frequency.specs.Calls.{frame1_answer}
use Rattle.limits.specs.Answer.{Answer, refused, accepted}
use Rattle.listening_lines.specs.Text.{Added}
use Rattle.listening_lines.specs.Lines.{message_line}
use Rattle.listening_lines.proofs.TextLaws.{behind}
use Rattle.listening_records.specs.declared.Told.{Told}
use Rattle.listening_records.specs.declared.tracked.Tracked.{Tracked}
use Rattle.listening_records.specs.Emission.{Emission, Asked, asked, earlier, spans_in, downlink_in, with_frame, with_line, with_message, answer_for, emitted, emitted_all, Tells, Within, Grown}

pub line_told : (p : Emission) (old out out' : List ℕ) (start r : ℕ) (t : Told) (e : List ℕ) (a : (Option ℕ)) → Added out t.end (message_line e a) r out' → Tells p old start 0 t out
    → Tells (with_line e a p) old start 0 (record { frames = t.frames; messages = t.messages + 1; end = r }) out'
line_told p old out out' start r t e a x h = record { refused = refl; frames = h.frames; messages = ap (λ (n : ℕ). n + 1) h.messages; text = behind h.text x }

-- a refusal of `frame1`
pub refusal_told : (p : Emission) (old out : List ℕ) (start n : ℕ) (t : Told) (e : List ℕ) → Tells p old start 0 t out → Tells (with_message e (refused n) p) old start n t out
unfolding with_message
refusal_told p old out start n t e h = record { refused = refl; frames = h.frames; messages = h.messages; text = h.text }

pub message-line : (p : Emission) (e : List ℕ) (a : Option ℕ) → with_line e a p ≡ with_message e (accepted a) p
unfolding with_message
message-line p e a = refl

-- 1,000 samples a second, as the code has it
pub rate_is : of_bits binary64 0x408f_4000_0000_0000 ≡ num 1000
unfolding of_bits of_int round
rate_is = refl

-- while no frequency has come, and once one has
pub not_started : (q : Asked) (e : List ℕ) → q.started ≡ false → accepted None ≡ answer_for q e
unfolding answer_for
not_started q e h = rw h refl

pub answered : (q : Asked) (e : List ℕ) → q.started ≡ true
    → frame1_answer q.tracker q.readings q.room (spans_in (earlier q.passed) e) (downlink_in e) ≡ answer_for q e
unfolding answer_for
answered q e h = rw h refl

module _ (q : Asked) (p : Emission) (e : List ℕ) where
  pub emitted-stop : (p.refused ≡ 0 → ⊥) → p ≡ emitted q p e
  unfolding emitted
  emitted-stop h = rw (ne_eqb p.refused 0 h) refl

  pub emitted-frame : p.refused ≡ 0 → kind_of e ≡ frame_kind → with_frame p ≡ emitted q p e
  unfolding emitted
  emitted-frame z k = rw (eq-eqb p.refused 0 z, eq-eqb (kind_of e) frame_kind k) refl

  pub emitted-message : (a : Answer (Option ℕ)) → p.refused ≡ 0 → (kind_of e ≡ frame_kind → ⊥) → a ≡ answer_for q e → with_message e a p ≡ emitted q p e
  unfolding emitted
  emitted-message a z k g = rw (eq-eqb p.refused 0 z, ne_eqb (kind_of e) frame_kind k, g) refl

pub frame_told : (p : Emission) (old out : List ℕ) (start : ℕ) (t : Told) → Tells p old start 0 t out
    → Tells (with_frame p) old start 0 (record { frames = t.frames + 1; messages = t.messages; end = t.end }) out
frame_told p old out start t h = record { refused = refl; frames = ap (λ (n : ℕ). n + 1) h.frames; messages = h.messages; text = h.text }

-- the same emission, written otherwise
pub as_told : {p u : Emission} {old out : List ℕ} {start k : ℕ} {t : Told} → p ≡ u → Tells p old start k t out → Tells u old start k t out
as_told {p} {u} {old} {out} {start} {k} {t} g h = rw g at h

-- the last record comes after the others
pub emitted_last : (q : Asked) (p : Emission) (es : List (List ℕ)) (e : List ℕ) → emitted q (emitted_all q p es) e ≡ emitted_all q p (es ++ (e ∷ []))
unfolding emitted_all
emitted_last q p [] e = refl
emitted_last q p (x ∷ es) e = emitted_last q (emitted q p x) es e

-- nothing comes behind a refusal
all-stop : (q : Asked) (p : Emission) (es : List (List ℕ)) → (p.refused ≡ 0 → ⊥) → emitted_all q p es ≡ p
unfolding emitted_all
all-stop q p [] h = refl
all-stop q p (e ∷ es) h = rw (← emitted-stop q p e h) (all-stop q p es h)

emitted_append : (q : Asked) (p : Emission) (xs ys : List (List ℕ)) → emitted_all q p (xs ++ ys) ≡ emitted_all q (emitted_all q p xs) ys
unfolding emitted_all
emitted_append q p [] ys = refl
emitted_append q p (x ∷ xs) ys = emitted_append q (emitted q p x) xs ys

records_split : (a b : ℕ) (l : List ℕ) → records_in (a + b) l ≡ records_in a l ++ records_in b (drop (record_size * a) l)
unfolding records_in
records_split zero b l = let e : 0 + b ≡ b = omega arith in rw e refl
records_split (suc a) b l =
    let e : record_size * suc a ≡ record_size + record_size * a = omega arith in
    let s : suc a + b ≡ suc (a + b) = omega arith in
    rw (e, s, ← drop-drop (record_size * a) record_size l, records_split a b (drop record_size l)) refl

-- so the first records, the last of which was refused, are as good as all
pub refused-told : (q : Asked) (p : Emission) (old out : List ℕ) (start i count k : ℕ) (events : List ℕ) (t : Told) → i < count → (k ≡ 0 → ⊥)
    → Tells (emitted_all q p (records_in (i + 1) events)) old start k t out → Tells (emitted_all q p (records_in count events)) old start k t out
refused-told q p old out start i count k events t less positive h =
    let e : i + 1 + (count - (i + 1)) ≡ count = omega arith in
    let rest = records_in (count - (i + 1)) (drop (record_size * (i + 1)) events) in
    let stop = all-stop q (emitted_all q p (records_in (i + 1) events)) rest (λ z. positive (h.refused ∙ z)) in
    as_told (sym stop ∙ sym (emitted_append q p (records_in (i + 1) events) rest) ∙ ap (emitted_all q p) (sym (records_split (i + 1) (count - (i + 1)) events) ∙ ap (λ (n : ℕ). records_in n events) e)) h

-- one record more of an event buffer
pub records_more : (i : ℕ) (l : List ℕ) → records_in i l ++ (take record_size (drop (record_size * i) l) ∷ []) ≡ records_in (i + 1) l
unfolding records_in
records_more zero l = refl
records_more (suc i) l =
    let e : record_size * suc i ≡ record_size + record_size * i = omega arith in
    let q : suc i + 1 ≡ suc (i + 1) = omega arith in
    rw (q, e, ← drop-drop (record_size * i) record_size l, ← records_more i (drop record_size l)) refl

pub grown_more : (i : ℕ) (t m r : Told) (old new newer : List ℕ) → Grown i t m old new → Within m r new newer → Grown (i + 1) t r old newer
grown_more i t m r old new newer g w =
    record { end = omega (arith, g.end, w.end); frames = omega (arith, g.frames, w.frames); messages = omega (arith, g.messages, w.messages); room = w.room ∙ g.room }

-- no records
pub none_told : (q : Asked) (p : Emission) (events : List ℕ) → p ≡ emitted_all q p (records_in 0 events)
unfolding emitted_all records_in
none_told q p events = refl

-- a turn of the loop over a call's records
pub turn_told : (q : Tracked) (room room' : ℕ) (p : Emission) (old out out' : List ℕ) (start i k : ℕ) (events e : List ℕ) (m r : Told)
    → room' ≡ room → e ≡ take record_size (drop (record_size * i) events)
    → Tells (emitted_all (asked q room) p (records_in i events)) old start 0 m out
    → ((u : Emission) → Tells u old start 0 m out → Tells (emitted (asked q room') u e) old start k r out')
    → Tells (emitted_all (asked q room) p (records_in (i + 1) events)) old start k r out'
turn_told q room room' p old out out' start i k events e m r x y h f =
    as_told (emitted_last (asked q room) p (records_in i events) (take record_size (drop (record_size * i) events)) ∙ ap (emitted_all (asked q room) p) (records_more i events)) (rw (x, y) at (f _ h))

-- a record of the event buffer, as the code takes it
pub record_part : (i : ℕ) (events : List ℕ) → take (120 * i + 120 - 120 * i) (drop (120 * i) events) ≡ take record_size (drop (record_size * i) events)
record_part i events = let e : 120 * i + 120 - 120 * i ≡ 120 = omega arith in rw e refl
